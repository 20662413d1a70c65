pub mod KeptSuits

pub mod TableGets

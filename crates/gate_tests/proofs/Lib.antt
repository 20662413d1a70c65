pub mod objects

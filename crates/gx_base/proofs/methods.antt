pub mod MethodPlaces
pub mod MethodSearch
pub mod MethodWords

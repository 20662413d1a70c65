pub mod swapping
pub mod kinds
pub mod classes
pub mod CallerLemmas

pub mod containing
pub mod keeping
pub mod collecting
pub mod reduction
pub mod clashing
pub mod CallerLemmas

pub mod CallerLemmas
mod kept
mod puts
mod visits

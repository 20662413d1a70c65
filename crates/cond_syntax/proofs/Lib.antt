pub mod CallerLemmas
pub mod grammar
pub mod machine
pub mod printing
pub mod texts
pub mod tokens

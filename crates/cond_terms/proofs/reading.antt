pub mod PieceLemmas
pub mod SourceLemmas
pub mod TokenLemmas

pub mod ArrayLemmas
pub mod PieceLemmas

pub mod JudgingLemmas
pub mod WithinLemmas
pub mod PostLemmas
pub mod PostingLemmas
pub mod OnceLemmas

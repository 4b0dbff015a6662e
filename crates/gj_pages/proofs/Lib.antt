pub mod AnswerLemmas
pub mod EndLemmas
pub mod GoingLemmas
pub mod LineLemmas
pub mod RunLemmas

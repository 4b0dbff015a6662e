pub mod BeginLemmas
pub mod BookLemmas
pub mod HistoryLemmas
pub mod LocalLemmas
pub mod OpeningLemmas
pub mod RowLemmas
pub mod StoreLemmas

pub mod CallsLemmas
pub mod Counting
pub mod Growing
pub mod Histories
pub mod Panes
pub mod Resuming
pub mod Unmet

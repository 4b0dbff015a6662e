pub mod DeskLemmas
pub mod ServiceLemmas

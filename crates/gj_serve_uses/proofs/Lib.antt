pub mod DeskLemmas

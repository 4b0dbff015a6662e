pub mod Segments
pub mod Windows

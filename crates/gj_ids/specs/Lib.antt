pub mod Numbering
pub mod Slots
pub mod Mapping

pub mod Named
pub mod Slots
pub mod Naming

pub mod Probing
pub mod Putting

pub mod Probing
pub mod Seating

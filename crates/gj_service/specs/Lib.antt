pub mod Desks
pub mod Lines
pub mod Services

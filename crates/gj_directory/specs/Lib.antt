pub mod Counting
pub mod Directories
pub mod Picking
pub mod Showing
pub mod Sides

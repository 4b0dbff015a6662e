pub mod Levels
pub mod Lists
pub mod Pairs
pub mod Pools
pub mod Slices

pub mod Follows
pub mod Pages
pub mod Reading

pub mod Answers
pub mod Following
pub mod Lines
pub mod Loop

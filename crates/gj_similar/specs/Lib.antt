pub mod ScoreOrder
pub mod Scored
pub mod Similar

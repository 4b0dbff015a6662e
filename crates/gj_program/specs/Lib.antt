pub mod Follows
pub mod Lines
pub mod Replays
pub mod Runs
pub mod Serves
pub mod Statuses

pub mod Arrays
pub mod Bodies
pub mod FixedTexts
pub mod Statuses

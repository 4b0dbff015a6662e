pub mod Masses
pub mod Numbers
pub mod Regrouped

pub mod Totals
pub mod Workload

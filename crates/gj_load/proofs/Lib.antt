pub mod WorkloadLemmas
pub mod TotalsLemmas

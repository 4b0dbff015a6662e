pub mod MapLemmas
pub mod SumLemmas
pub mod WeightLemmas

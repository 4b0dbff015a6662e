pub mod OrderLemmas
pub mod SimilarLemmas

pub mod FieldLemmas
pub mod LeadsLemmas
pub mod NumberLemmas
pub mod PartLemmas
pub mod WindowLemmas

pub mod EntryLemmas
pub mod FieldLemmas
pub mod SearchLemmas
pub mod WeightLemmas

pub mod CrossingLemmas
pub mod PassLemmas

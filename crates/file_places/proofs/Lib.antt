pub mod DocumentLemmas
pub mod SpotLemmas
pub mod LineLemmas
pub mod KindLemmas

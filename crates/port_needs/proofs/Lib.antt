pub mod LinkLemmas
pub mod SumLemmas
pub mod ShareLemmas
pub mod WayLemmas
pub mod NothingLemmas
pub mod LedgerLemmas
pub mod AskedLemmas
pub mod FullLemmas

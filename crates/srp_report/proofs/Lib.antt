pub mod DepartureLemmas
pub mod FateLemmas
pub mod HeardLemmas
pub mod LinkPorts
pub mod PrintoutLemmas
pub mod TallyLemmas
pub mod TotalLemmas

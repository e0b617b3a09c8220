pub mod PeerLemmas
pub mod LinkPorts
pub mod Counting
pub mod NumberWords

pub mod FrameLemmas
pub mod EndLemmas
pub mod TickLemmas
pub mod RunLemmas
pub mod ReadLemmas

pub mod BoundLemmas
pub mod WaitLemmas
pub mod WindowLemmas
pub mod FrameLemmas
pub mod LevelLemmas
pub mod PeakLemmas
pub mod WayLemmas

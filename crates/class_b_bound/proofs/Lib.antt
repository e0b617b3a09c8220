pub mod StepLemmas
pub mod BeginLemmas
pub mod BoundLemmas
pub mod WaitLemmas
pub mod WindowLemmas
pub mod PieceLemmas
pub mod FrameLemmas

pub mod OrderLemmas
pub mod StepLemmas
pub mod RestLemmas
pub mod TickLemmas
mod NotedLemmas
pub mod WatchLemmas

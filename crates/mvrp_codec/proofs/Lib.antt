pub mod ReadingLemmas
pub mod StreakLemmas
pub mod WritingLemmas
pub mod MaximalStreaks
pub mod VidLemmas

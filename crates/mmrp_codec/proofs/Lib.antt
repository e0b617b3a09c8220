pub mod PlaceLemmas
pub mod PastLemmas
pub mod ReadingLemmas
pub mod RangeLemmas
pub mod WritingLemmas
pub mod WrittenPdu

pub mod CreditLemmas
pub mod PortLemmas
pub mod QueueLemmas
pub mod RangeLemmas
pub mod RiseLemmas
pub mod HeightLemmas
pub mod WaitLemmas
pub mod ServiceLemmas

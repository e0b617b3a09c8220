pub mod FaultLemmas
pub mod JoinedLemmas
pub mod ValueLemmas
pub mod SearchLemmas

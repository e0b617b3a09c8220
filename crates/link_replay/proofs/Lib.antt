pub mod Standings
pub mod Watching
pub mod MomentLemmas
pub mod RowLines
pub mod Ways
pub mod EventLists
pub mod Ticking
pub mod Timers

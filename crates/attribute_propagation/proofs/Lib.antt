mod AwaitingLemmas
mod DirtyLemmas
pub mod FlatLemmas
mod InPlace
mod PortsLemmas
pub mod Lists

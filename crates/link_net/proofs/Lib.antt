pub mod Nodes
pub mod Moved
pub mod EventSteps
pub mod Keeping
pub mod Beginnings
pub mod Acting
pub mod Standing

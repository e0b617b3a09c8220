mod Stays
pub mod Boxes
pub mod Sending
mod Registered
pub mod ProperSteps
pub mod Rest
mod Steps

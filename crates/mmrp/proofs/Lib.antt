pub mod Writable
pub mod Places
pub mod NetEvents
pub mod Bridges
pub mod Beginnings
pub mod GroupLaw
pub mod Registered

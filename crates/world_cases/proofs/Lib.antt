pub mod Worlds
pub mod Asked

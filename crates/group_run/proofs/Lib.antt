pub mod Happening
pub mod Listed
pub mod Scripts

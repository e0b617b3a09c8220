pub mod Behind
pub mod Framed
pub mod Written

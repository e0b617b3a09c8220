pub mod Bounds
pub mod Frames
pub mod Waits
pub mod Windows
pub mod Crossings
pub mod Levels

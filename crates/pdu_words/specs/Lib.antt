pub mod Capture
pub mod Dump
pub mod TextFile
pub mod Decoded
pub mod Captured
pub mod Events
pub use Capture.*
pub use Dump.*
pub use TextFile.*
pub use Decoded.*
unfoldable pub use Captured.*
pub use Events.*

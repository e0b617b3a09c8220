pub mod Lines
pub mod Seen
pub mod Text
pub use Lines.*
pub use Seen.*
pub use Text.*

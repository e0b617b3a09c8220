pub mod Lines
pub mod Text
unfoldable pub use Lines.*
unfoldable pub use Text.*

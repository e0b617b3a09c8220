pub mod Part
pub mod Side
pub mod Vids
pub use Part.*
pub use Side.*
pub use Vids.*

pub mod Cbs
pub mod Lines
pub mod Margins
pub mod Waits
pub use Cbs.*
pub use Lines.*
pub use Margins.*
pub use Waits.*

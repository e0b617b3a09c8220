pub mod Caps
pub mod PortBounds
pub mod PortService
pub use Caps.*
pub use PortBounds.*
pub use PortService.*

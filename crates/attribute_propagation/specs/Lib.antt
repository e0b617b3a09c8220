pub mod Dirty
pub mod Flat
pub mod Ports
pub use Dirty.*
pub use Flat.*
pub use Ports.*

pub mod Wires
pub mod Words
pub mod Laws
pub mod Flat
pub use Wires.*
pub use Words.*
pub use Laws.*
pub use Flat.*

pub mod Crossings
pub mod Captured
pub mod Ends
pub mod Laws
pub use Crossings.*
pub use Captured.*
pub use Ends.*
pub use Laws.*

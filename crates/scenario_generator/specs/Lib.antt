pub mod Draws
pub mod Network
pub mod Streams
pub mod Events
pub mod Generated
unfoldable pub use Draws.*
pub use Network.*
pub use Streams.*
pub use Events.*
pub use Generated.*

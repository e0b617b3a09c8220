pub mod Bandwidth
pub mod Firsts
pub mod Hexadecimal
pub mod Results
pub mod Text
pub use Bandwidth.*
pub use Firsts.*
unfoldable pub use Hexadecimal.*
pub use Results.*
pub use Text.*

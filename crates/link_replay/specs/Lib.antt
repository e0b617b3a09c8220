pub mod Standing
pub mod Observer
pub mod Watch
pub mod Moments
pub mod Lines
pub mod Way
pub mod BothWays
pub mod LinkWatch
pub mod Ticks
pub mod Following
pub use Standing.*
pub use Observer.*
pub use Watch.*
unfoldable pub use Moments.*
pub use Lines.*
pub use Way.*
pub use BothWays.*
unfoldable pub use LinkWatch.*
pub use Ticks.*
pub use Following.*

pub mod Cut
pub mod Document
pub mod HeadKeys
pub mod Head
pub mod Ends
pub mod Lines
pub mod Doubles
pub mod Replaced
pub mod Apps
pub mod Watched
pub mod Bookings
pub mod Seen
pub mod Replay
pub mod Changes
pub mod Printed
pub mod CoreLink
unfoldable pub use Cut.*
pub use Document.*
pub use HeadKeys.*
pub use Head.*
unfoldable pub use Ends.*
pub use Lines.*
unfoldable pub use Doubles.*
unfoldable pub use Replaced.*
pub use Apps.*
unfoldable pub use Watched.*
unfoldable pub use Bookings.*
unfoldable pub use Seen.*
unfoldable pub use Replay.*
pub use Changes.*
pub use Printed.*
pub use CoreLink.*

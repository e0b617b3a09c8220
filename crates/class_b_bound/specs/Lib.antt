pub mod Bound
pub mod Waits
pub mod Window
pub mod Walk
pub mod Overlap
pub mod BitTimes
pub use Bound.*
unfoldable pub use Waits.*
pub use Window.*
pub use Walk.*
pub use Overlap.*
pub use BitTimes.*
pub use Rattle.class_b_bound.specs.declared.bound.BoundB.{BoundB}

pub mod Bandwidth
pub mod Importance
pub use Bandwidth.*
pub use Importance.*
pub use Rattle.stream_importance.specs.declared.entry.Entry.{Entry}

pub mod Book
pub mod Decision
pub mod Front
pub mod Notes
pub mod Pass
pub mod Totals
pub use Book.*
unfoldable pub use Decision.*
pub use Front.*
pub use Notes.*
pub use Pass.*
pub use Totals.*
pub use Rattle.port_ledger.specs.declared.changed.Changed.{Changed}
pub use Rattle.port_ledger.specs.declared.front.Standing.{Standing}

pub mod Credit
pub mod Port
pub mod Trace
pub mod Walk
pub mod Bounds
pub mod Departures
pub mod Steps
pub mod Pieces
unfoldable pub use Credit.*
pub use Port.*
unfoldable pub use Trace.*
pub use Walk.*
pub use Bounds.*
pub use Departures.*
pub use Steps.*
pub use Pieces.*
pub use Rattle.credit_shaper.specs.declared.piece.Piece.{Piece}
pub use Rattle.credit_shaper.specs.declared.port.Arrival.{Arrival}
pub use Rattle.credit_shaper.specs.declared.port.Departure.{Departure}
pub use Rattle.credit_shaper.specs.declared.port.PortInput.{PortInput}
pub use Rattle.credit_shaper.specs.declared.port.SlopeChange.{SlopeChange}
pub use Rattle.credit_shaper.specs.declared.queues.Heads.{Heads}
pub use Rattle.credit_shaper.specs.declared.shaper.Line.{Line}
pub use Rattle.credit_shaper.specs.declared.shaper.Line.TheVariants.{Free, Sends}
pub use Rattle.credit_shaper.specs.declared.shaper.Shaper.{Shaper}
pub use Rattle.credit_shaper.specs.declared.shaper.Traffic.{Traffic}
pub use Rattle.credit_shaper.specs.declared.shaper.Traffic.TheVariants.{A, B, Other}
pub use Rattle.credit_shaper.specs.declared.trace.PortTrace.{PortTrace}

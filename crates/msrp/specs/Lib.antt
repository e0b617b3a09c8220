pub mod Part
pub mod SameContent
pub mod Domain
pub mod PortState
pub mod Stream
pub mod View
pub mod Settling
pub mod Side
pub mod Holding
pub mod Plan
pub mod Proper
pub use Part.*
pub use SameContent.*
pub use Domain.*
pub use PortState.*
pub use Stream.*
pub use View.*
unfoldable pub use Settling.*
pub use Side.*
pub use Holding.*
pub use Plan.*
pub use Proper.*
pub use Rattle.msrp.specs.declared.asking.SrpRequest.{SrpRequest}
pub use Rattle.msrp.specs.declared.asking.SrpRequest.TheVariants.{Hush, Listen, Talk, Unlisten}
pub use Rattle.msrp.specs.declared.domain.DomainSet.{DomainSet}
pub use Rattle.msrp.specs.declared.domain.DomainSet.TheVariants.{Both, Nothing, Off, OnlyA}
pub use Rattle.msrp.specs.declared.plan.Asked.{Asked}
pub use Rattle.msrp.specs.declared.plan.Stated.{Stated}

pub mod Meaning
pub mod Writing
pub use Meaning.*
pub use Writing.*
pub use Rattle.mvrp_codec.specs.declared.pdu.MvrpPdu.{MvrpPdu}

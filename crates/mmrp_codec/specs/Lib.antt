pub mod Meaning
pub mod InPlace
pub mod Writing
pub use Meaning.*
pub use InPlace.*
pub use Writing.*
pub use Rattle.mmrp_codec.specs.declared.pdu.GroupPdu.{GroupPdu}

pub mod Types
pub mod Octets
pub mod Tree
pub mod Grammar
pub mod Reading
pub mod ReadErr
pub mod Raw
pub mod Shape
pub mod Canonical
pub mod Places
pub use Types.*
pub use Octets.*
pub use Tree.*
pub use Grammar.*
unfoldable pub use Reading.*
pub use ReadErr.*
pub use Raw.*
pub use Shape.*
pub use Canonical.*
unfoldable pub use Places.*
pub use Rattle.mrpdu_codec.specs.Tree.{header}
pub use Rattle.mrpdu_codec.specs.declared.error.DecodeErr.{DecodeErr}
pub use Rattle.mrpdu_codec.specs.declared.error.DecodeErr.TheVariants.{Malformed}
pub use Rattle.mrpdu_codec.specs.declared.form.AppForm.{AppForm}
pub use Rattle.mrpdu_codec.specs.declared.form.AppForm.TheVariants.{Mmrp, Msrp, Mvrp}
pub use Rattle.mrpdu_codec.specs.declared.form.TypeForm.{TypeForm}
pub use Rattle.mrpdu_codec.specs.declared.pdu.Message.{Message}
pub use Rattle.mrpdu_codec.specs.declared.pdu.Pdu.{Pdu}
pub use Rattle.mrpdu_codec.specs.declared.pdu.VectorAttr.{VectorAttr}
pub use Rattle.mrpdu_codec.specs.declared.raw.RawMessage.{RawMessage}
pub use Rattle.mrpdu_codec.specs.declared.raw.RawPdu.{RawPdu}
pub use Rattle.mrpdu_codec.specs.declared.raw.RawVector.{RawVector}

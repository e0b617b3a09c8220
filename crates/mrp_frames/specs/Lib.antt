pub mod Heads
pub mod Frames
pub mod Grammar
pub mod Writing
unfoldable pub use Heads.*
unfoldable pub use Frames.*
pub use Grammar.*
unfoldable pub use Writing.*
pub use Rattle.mrpdu_codec.specs.declared.form.AppForm.{AppForm}
pub use Rattle.mrp_frames.specs.declared.frame.MrpFrame.{MrpFrame}

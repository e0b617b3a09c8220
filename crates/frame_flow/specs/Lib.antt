pub mod Moments
pub mod Force
pub mod Copies
pub mod Flow
pub mod Given
pub mod Levels
pub mod Incoming
pub mod Steps
pub mod Laws
pub mod Origins
pub use Moments.*
pub use Force.*
unfoldable pub use Copies.*
pub use Flow.*
pub use Given.*
pub use Levels.*
pub use Incoming.*
pub use Steps.*
pub use Laws.*
pub use Origins.*
pub use Rattle.frame_flow.specs.declared.frame.CopyOf.{CopyOf}
pub use Rattle.frame_flow.specs.declared.frame.Frame.{Frame}
pub use Rattle.frame_flow.specs.declared.frame.FrameCopy.{FrameCopy}
pub use Rattle.frame_flow.specs.declared.frame.Route.{Route}
pub use Rattle.frame_flow.specs.declared.frame.Route.TheVariants.{Stream, To}
pub use Rattle.frame_flow.specs.declared.incoming.AtNode.{AtNode}
pub use Rattle.frame_flow.specs.declared.incoming.NodeCopies.{NodeCopies}
pub use Rattle.frame_flow.specs.declared.place.Place.{Place}
pub use Rattle.frame_flow.specs.declared.result.Fate.{Fate}
pub use Rattle.frame_flow.specs.declared.result.Fate.TheVariants.{Departed, Left, NoVlan, Unbooked}
pub use Rattle.frame_flow.specs.declared.result.PortFlow.{PortFlow}
pub use Rattle.frame_flow.specs.declared.verdicts.Verdict.{Verdict}
pub use Rattle.frame_flow.specs.declared.verdicts.Verdict.TheVariants.{MaySend, NotBooked, NotInVlan}

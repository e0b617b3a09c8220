pub mod Macs
pub mod Node
pub mod Net
pub mod Start
pub mod Kept
pub mod Match
pub use Macs.*
pub use Node.*
pub use Net.*
pub use Start.*
pub use Kept.*
pub use Match.*
pub use Rattle.mmrp.specs.declared.events.GroupEvent.{GroupEvent}
pub use Rattle.mmrp.specs.declared.events.GroupEvent.TheVariants.{Carry, Clock, Join, Lose, Port, Repeat}
pub use Rattle.mmrp.specs.declared.events.GroupReply.{GroupReply}
pub use Rattle.mmrp.specs.declared.events.GroupReply.TheVariants.{Done, Silent}
pub use Rattle.mmrp.specs.declared.events.GroupStep.{GroupStep}
pub use Rattle.mmrp.specs.declared.events.GroupStep.TheVariants.{Due, Send, Settle, Work}

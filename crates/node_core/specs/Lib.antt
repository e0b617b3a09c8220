pub mod Wires
pub mod State
pub mod Holding
pub mod Step
pub mod Calls
pub mod Leaving
pub mod Links
pub mod Proper
pub use Wires.*
pub use State.*
pub use Holding.*
pub use Step.*
pub use Calls.*
pub use Leaving.*
pub use Links.*
pub use Proper.*
pub use Rattle.node_core.specs.declared.types.AppRequest.TheVariants.{Declare, Hush, Listen, Talk, Unlisten, Withdraw}
pub use Rattle.node_core.specs.declared.types.NodeEvent.{NodeEvent}
pub use Rattle.node_core.specs.declared.types.NodeEvent.TheVariants.{Clock, Port, Request}
pub use Rattle.node_core.specs.declared.types.NodeKey.{NodeKey}
pub use Rattle.node_core.specs.declared.types.NodeKey.TheVariants.{Srp, Vlan}
pub use Rattle.node_core.specs.declared.types.PortStep.{PortStep}
pub use Rattle.node_core.specs.declared.types.PortStep.TheVariants.{Due, LeaveAllNow, LeaveNow, PeriodicNow, Send, Settle, Work}
pub use Rattle.node_core.specs.declared.types.StepReply.{StepReply}
pub use Rattle.node_core.specs.declared.types.StepReply.TheVariants.{Sent, Silent}
pub use Rattle.node_core.specs.declared.types.Wire.{Wire}

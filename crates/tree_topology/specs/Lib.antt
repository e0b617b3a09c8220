pub mod Graph
pub mod Ports
pub mod Walk
pub mod Refusal
pub mod Tables
pub mod Topology
pub mod PortLaws
pub mod Routes
pub use Graph.*
pub use Ports.*
pub use Walk.*
unfoldable pub use Refusal.*
pub use Tables.*
pub use Topology.*
pub use PortLaws.*
pub use Routes.*
pub use Rattle.tree_topology.specs.declared.graph.Link.{Link}
pub use Rattle.tree_topology.specs.declared.graph.NodeKind.{NodeKind}
pub use Rattle.tree_topology.specs.declared.graph.NodeKind.TheVariants.{Bridge, Station}
pub use Rattle.tree_topology.specs.declared.graph.TreeErr.{TreeErr}
pub use Rattle.tree_topology.specs.declared.graph.TreeErr.TheVariants.{Loop, NoMemory, SecondLink, SelfLink, StationWithLinks, TooManyLinks, Unconnected, UnknownNode}

-- Where a port stands among the nodes of a network.
use Rattle.std.specs.Prelude.{◌≡◌, ◌≤◌, ◌-◌, List, length, slice_get, Some}
use Rattle.srp_base.specs.declared.numbers.EgressPort.{EgressPort}
use Rattle.attribute_propagation.specs.Ports.{IsLinkPort}
use Rattle.node_core.specs.State.{NodeState, ports_of}

-- one of these nodes has the port
pub record HasEnd (nodes : List NodeState) (p : EgressPort) : Type 0 where
  pub some : 1 ≤ p.node.0
  pub few : p.node.0 ≤ length nodes
  pub port : (s : NodeState) → slice_get nodes (p.node.0 - 1) ≡ Some s → IsLinkPort p.port (ports_of s)

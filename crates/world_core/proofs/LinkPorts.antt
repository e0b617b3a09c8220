-- Where a node has each port of a tree.
use Rattle.std.proofs.Common.{◌≡◌, ◌+◌, ◌-◌, length, ap, ◌∙◌, arith}
use Rattle.std.specs.Prelude.{Some}
use Rattle.srp_base.specs.declared.numbers.EgressPort.{EgressPort}
use Rattle.tree_topology.specs.{Topology.HasPort, Ports.neighbours}
use Rattle.attribute_propagation.specs.Ports.{IsLinkPort}
use Rattle.node_core.specs.State.{NodeState, ports_of}
use Rattle.world_core.specs.{WorldState, node_at, IsKeptWorld}

-- a port of the tree is a link port of its node
pub link-port : (w : WorldState) → IsKeptWorld w → (p : EgressPort) → HasPort w.tree p → (s : NodeState) → node_at p.node w ≡ Some s → IsLinkPort p.port (ports_of s)
link-port w kept p h s e =
    let one : p.node.0 - 1 + 1 ≡ p.node.0 = omega (arith, h.0.0) in
    let count : ports_of s ≡ length (neighbours w.tree.links p.node.0) = (kept.nodes (p.node.0 - 1) s e).ports ∙ ap (λ n. length (neighbours w.tree.links n)) one in
    record { some = h.1; within = omega (arith, count, h.2) }

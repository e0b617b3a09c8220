-- Where a node and the tallies have each port of a tree.
use Rattle.std.proofs.Common.{◌≡◌, ◌<◌, ◌≤◌, List, length, arith}
use Rattle.std.specs.Prelude.{Some}
use Rattle.srp_base.specs.declared.numbers.EgressPort.{EgressPort}
use Rattle.tree_topology.specs.{Topology.Topology, Topology.IsSound, Ports.neighbours}
use Rattle.world_core.specs.declared.journal.Tick.{Tick}
use Rattle.report_words.specs.declared.tally.Tally.{Tally}
use Rattle.srp_report.specs.{replies_of, tally_of, tally_at, AreTallies}

-- each port of a tree has a place for its tally
pub ports-counted : (tree : Topology) (ticks : List Tick) (rows : List (List Tally)) → IsSound tree
    → ((p : EgressPort) → p.node.0 ≤ length tree.kinds → p.port.0 < 256 → tally_at p rows ≡ Some (tally_of (replies_of p ticks)))
    → AreTallies tree ticks rows
ports-counted tree ticks rows sound each p h =
    let few : p.node.0 ≤ length tree.kinds = omega (arith, h.0.1) in
    let many : length (neighbours tree.links p.node.0) ≤ 255 = sound.counted_ports p.node.0 h.0 in
    let port : p.port.0 < 256 = omega (arith, h.2, many) in
    each p few port

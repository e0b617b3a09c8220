use Rattle.std.proofs.Common.{◌≡◌, ◌≤◌, length, ap, ◌∙◌, arith}
use Rattle.tree_topology.specs.Topology.{Topology}
use Rattle.srp_report.proofs.LinkPorts.{ports-counted}
use Rattle.srp_report.proofs.ports.put_ports.Goals as goal

pub put_each-requires-clause-tallies : goal.put_each-requires-clause-tallies
put_each-requires-clause-tallies c =
    let count : c.nodes.result ≡ length c.args.world.now.tree.kinds
    = c.nodes.ensures ∙ ap (λ (tree : Topology). length tree.kinds) c.tree.ensures in
    ports-counted c.args.world.now.tree c.args.ticks.now c.in_ok-tallies.tallies c.keeps.ensures.tree
    (λ p few port. let within : p.node.0 ≤ c.nodes.result = omega (arith, few, count) in c.in_ok-tallies.ensures p within port)

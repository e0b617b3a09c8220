use Rattle.std.proofs.Common.{◌≡◌, ℕ, ◌+◌, ◌-◌, ◌++◌, length, map, ap, sym, ◌∙◌, arith, Option}
use Rattle.std.specs.Prelude.{flat_map}
use Rattle.std.specs.{Option.option_map_or, List.range_with_len}
use Rattle.srp_base.specs.declared.numbers.EgressPort.{EgressPort}
use Rattle.tree_topology.specs.Ports.{neighbours}
use Rattle.frame_flow.specs.{Force.changes_at, Copies.port_of}
use Rattle.attribute_propagation.specs.Ports.{place_of}
use Rattle.node_core.specs.State.{NodeState, ports_of}
use Rattle.world_core.specs.{no_reservation, node_force, force_at, lacking}
use Rattle.world_core.proofs.Noting.{more_of_port}
use Rattle.world_core.proofs.timeline.add_of_node.Goals as goal

pub loop-k-preserved : goal.loop-k-preserved
loop-k-preserved c =
    let w = c.args.world.now in
    let cs = c.args.changes.now in
    let q : EgressPort = port_of c.args.number.0 (c.loop-k.k + 1) in
    let at = place_of q.port in
    more_of_port (λ p. lacking c.args.tick p (force_at p w) (changes_at cs p)) c.args.number.0 c.loop-k.k c.args.fresh.now.items c.loop-k.fresh.items c.add_of_port.new.fresh.items c.loop-k.invariant
    (c.in_ok-add_of_port.ensures
    ∙ ap (λ (o : Option NodeState). c.loop-k.fresh.items ++ lacking c.args.tick q (option_map_or (node_force at) o no_reservation) (changes_at cs q)) (sym c.node-node.ensures))

pub returns : goal.returns
returns c =
    let w = c.args.world.now in
    let x = c.args.number.0 in
    let some = c.requires.node.0 in
    let L = λ (p : EgressPort). lacking c.args.tick p (force_at p w) (changes_at c.args.changes.now p) in
    let ports : ports_of c.node-node.result.now.state ≡ length (neighbours w.tree.links x) =
    (c.keeps.ensures.nodes (x - 1) c.node-node.result.now.state c.node-node.ensures).ports ∙ ap (λ (y : ℕ). length (neighbours w.tree.links y)) (let e : x - 1 + 1 ≡ x = omega arith in e) in
    let all : c.loop-k.k ≡ length (neighbours w.tree.links x) = omega (arith, c.loop-k-test.false, c.loop-k.auto.k-end, c.ports-k-end.ensures, ports) in
    c.loop-k.invariant ∙ ap (λ (k : ℕ). c.args.fresh.now.items ++ flat_map L (map (port_of x) (range_with_len 1 k))) all

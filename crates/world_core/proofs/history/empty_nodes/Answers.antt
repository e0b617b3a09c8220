use Rattle.std.proofs.Common.{◌+◌, ℕ, ap, ◌∙◌, map}
use Rattle.std.specs.List.{range_with_len}
use Rattle.frame_flow.specs.Copies.{ports_at, port_of}
use Rattle.world_core.proofs.Histories.{no_change, node_pushed}
use Rattle.world_core.proofs.history.empty_nodes.Goals as goal

pub loop-x-preserved : goal.loop-x-preserved
loop-x-preserved c =
    let x = c.loop-x.x in
    c.in_ok-push.ensures.items
    ∙ node_pushed (λ y. map no_change (ports_at c.args.tree.now.links y)) x c.loop-x.nodes.items c.in_ok-empty_ports.field-0 c.loop-x.invariant
    (c.in_ok-empty_ports.ensures (x + 1) ∙ ap (λ (j : ℕ). map no_change (map (port_of (x + 1)) (range_with_len 1 j))) c.ports.ensures)

use Rattle.std.proofs.Common.{ℕ, true, false, length, get_or, sym, ap, ◌∙◌, arith}
use Rattle.std.specs.Prelude.{◌<◌}
use Rattle.node_core.specs.Holding.{states_in}
use Rattle.world_core.specs.{are_nodes_sound}
use Rattle.world_core.proofs.InStep.{node_sound}
use Rattle.world_core.proofs.marking.are_nodes_in_step.Goals as goal

pub returns-then-not-are_ports_in_step : goal.returns-then-not-are_ports_in_step
returns-then-not-are_ports_in_step c =
    let nodes = c.args.nodes.now.items in
    let x = c.index.result.now in
    let below : c.loop-i.i < length (states_in nodes) = omega (arith, c.loop-i-test.true, c.requires) in
    sym (node_sound nodes c.args.marks.now c.loop-i.i x (are_nodes_sound 1 (states_in nodes) c.args.marks.now) false below
    (c.index.ensures ∙ ap (λ (j : ℕ). get_or nodes j x) c.from.ensures) (sym c.are_ports_in_step.ensures ∙ c.if-not-are_ports_in_step.true) c.loop-i.invariant)

pub loop-i-preserved : goal.loop-i-preserved
loop-i-preserved c =
    let nodes = c.args.nodes.now.items in
    let x = c.index.result.now in
    let below : c.loop-i.i < length (states_in nodes) = omega (arith, c.loop-i-test.true, c.requires) in
    node_sound nodes c.args.marks.now c.loop-i.i x (are_nodes_sound 1 (states_in nodes) c.args.marks.now) true below
    (c.index.ensures ∙ ap (λ (j : ℕ). get_or nodes j x) c.from.ensures) (sym c.are_ports_in_step.ensures ∙ c.if-not-are_ports_in_step.false) c.loop-i.invariant

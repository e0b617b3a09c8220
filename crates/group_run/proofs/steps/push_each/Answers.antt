use Rattle.std.proofs.Common.{◌≡◌, ◌++◌, ◌∷◌, [], length, map, ap, sym, ◌∙◌, arith}
use Rattle.std.specs.List.{range_with_len}
use Rattle.std.proofs.lemmas.Simd.{map-map}
use Rattle.tree_topology.specs.Ports.{neighbours}
use Rattle.mmrp.specs.declared.events.GroupEvent.TheVariants.{Port}
use Rattle.group_run.specs.{port_at}
use Rattle.group_run.proofs.Listed.{push-more}
use Rattle.group_run.proofs.steps.push_each.Goals as goal

pub loop-k-preserved : goal.loop-k-preserved
loop-k-preserved c =
    push-more (λ k. Port (port_at c.args.node k) c.args.step) c.loop-k.k _ _ _ c.loop-k.invariant
    (c.in_ok-push.ensures.items ∙ ap (λ p. c.loop-k.steps.items ++ Port p c.args.step ∷ []) c.port_at.ensures)

pub returns : goal.returns
returns c =
    let count = length (neighbours c.args.tree.now.links c.args.node.0) in
    let test = c.loop-k-test.false in
    let last = c.loop-k.auto.k-end in
    let end = c.ports-k-end.ensures in
    let all : c.loop-k.k ≡ count = omega (arith, test, last, end) in
    c.loop-k.invariant
    ∙ (ap (λ n. c.args.steps.now.items ++ map (λ k. Port (port_at c.args.node k) c.args.step) (range_with_len 1 n)) all
    ∙ ap (λ xs. c.args.steps.now.items ++ xs) (sym (map-map (λ p. Port p c.args.step) (port_at c.args.node) (range_with_len 1 count))))

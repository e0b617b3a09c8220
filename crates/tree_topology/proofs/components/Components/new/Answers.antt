use Rattle.std.proofs.Common.{◌≡◌, ◌∙◌, ◌+◌, ◌++◌, ◌∷◌, [], List, ℕ, sym, ap, arith}
use Rattle.std.specs.List.{range_with_len}
use Rattle.tree_topology.proofs.ComponentSteps.{range-more}
use Rattle.tree_topology.proofs.components.Components.new.Goals as goal

pub loop-i-preserved : goal.loop-i-preserved
loop-i-preserved c =
    c.in_ok-push.ensures.items ∙ ap (λ (t : List ℕ). t ++ c.loop-i.i ∷ []) c.loop-i.invariant ∙ sym (range-more c.loop-i.i)

pub returns-clause-leaders : goal.returns-clause-leaders
returns-clause-leaders c =
    let all : c.loop-i.i ≡ c.args.count + 1 = omega (arith, c.loop-i-test.false, c.loop-i.auto.i-end) in
    c.loop-i.invariant ∙ ap (range_with_len 0) all

pub returns-clause-ranks : goal.returns-clause-ranks
returns-clause-ranks c = c.in_ok-ranks.ensures.items_if_clones_equal (λ y e. e)

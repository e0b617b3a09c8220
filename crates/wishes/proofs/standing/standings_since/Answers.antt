use Rattle.std.proofs.Common.{◌≡◌, ℕ, ◌+◌, ◌-◌, ◌++◌, ◌∷◌, [], ap, subst, ◌∙◌, arith}
use Rattle.std.specs.Prelude.{Some, slice_get}
use Rattle.wishes.specs.declared.standing.Standing.{Standing}
use Rattle.wishes.specs.{standing_since}
use Rattle.wishes.proofs.ListLemmas.{next_node}
use Rattle.wishes.proofs.standing.standings_since.Goals as goal

pub loop-i-preserved : goal.loop-i-preserved
loop-i-preserved c =
    let streams = c.args.streams.now in
    let rests = c.args.rests.now in
    let old = c.args.old.now in
    let nodes = c.args.world.now.nodes in
    let i = c.loop-i.i in
    let s = c.node.result.now.state in
    let same : i + 1 - 1 ≡ i = omega arith in
    let at : slice_get nodes i ≡ Some s = subst (λ (k : ℕ). slice_get nodes k ≡ Some s) same c.node.ensures in
    let rows = c.loop-i.standings.items in
    let put : c.in_ok-standing_since.field-0 ≡ standing_since streams rests old i s =
    c.in_ok-standing_since.ensures ∙ ap (λ (k : ℕ). standing_since streams rests old k s) c.from.ensures
    in
    next_node streams rests old i rows c.push.new.self.items nodes s at (c.in_ok-push.ensures.items ∙ ap (λ (x : Standing). rows ++ x ∷ []) put)
    ∙ c.loop-i.invariant

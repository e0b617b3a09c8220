use Rattle.std.proofs.Common.{◌≡◌, ℕ, ◌+◌, ◌-◌, ◌++◌, ◌∷◌, [], Bool, ap, subst, ◌∙◌, arith}
use Rattle.std.specs.Prelude.{Some, slice_get}
use Rattle.wishes.specs.{is_idle}
use Rattle.wishes.proofs.ListLemmas.{next_mapped}
use Rattle.wishes.proofs.resting.idle_nodes.Goals as goal

pub loop-i-preserved : goal.loop-i-preserved
loop-i-preserved c =
    let nodes = c.args.world.now.nodes in
    let i = c.loop-i.i in
    let s = c.node.result.now.state in
    let same : i + 1 - 1 ≡ i = omega arith in
    let at : slice_get nodes i ≡ Some s = subst (λ (k : ℕ). slice_get nodes k ≡ Some s) same c.node.ensures in
    let idle = c.loop-i.idle.items in
    next_mapped is_idle i idle c.push.new.self.items nodes s at (c.in_ok-push.ensures.items ∙ ap (λ (b : Bool). idle ++ b ∷ []) c.is_idle.ensures)
    ∙ c.loop-i.invariant

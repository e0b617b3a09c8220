use Rattle.std.proofs.Common.{◌∙◌, ap, sym, subst}
use Rattle.flat_side.specs.{FlatState, IsKept, settled_flat, SideHolding, flat_of}
use Rattle.flat_side.proofs.side.FlatSide.settle_ready.Given as given
use Rattle.flat_side.proofs.side.FlatSide.settle_ready.Goals as goal

-- the side as it was
abbrev before : (g : given.Over) (c : goal.After-self-1 g) → FlatState g.row.A-Key.Denot
before g c = flat_of c.self.inside.parts.items c.self.inside.awaiting.items c.self.inside.own.keys

pub invariant_of-self : goal.invariant_of-self
invariant_of-self g c =
    (subst (IsKept g.A.Key.Ord.cmp) (sym c.settle_at-count.ensures.after) (c.every_call_keeps_a_side.ensures.settle c.args.at (before g c) c.self.invariant.0), tt)

pub returns-clause-after : goal.returns-clause-after
returns-clause-after g c =
    c.settle_at-count.ensures.after
    ∙ ap (λ (v : SideHolding g.row.A-Key.Denot). settled_flat g.A.Key.Ord.cmp c.args.at v.state) c.self.view_is

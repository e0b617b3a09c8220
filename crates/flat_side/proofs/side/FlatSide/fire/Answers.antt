use Rattle.std.proofs.Common.{◌∙◌, ap, sym, subst}
use Rattle.flat_side.specs.{FlatState, IsKept, due_flat, SideHolding, flat_of}
use Rattle.flat_side.proofs.side.FlatSide.fire.Given as given
use Rattle.flat_side.proofs.side.FlatSide.fire.Goals as goal

-- the side as it was
abbrev before : (g : given.Over) (c : goal.After-self-1 g) → FlatState g.row.A-Key.Denot
before g c = flat_of c.self.inside.parts.items c.self.inside.awaiting.items c.self.inside.own.keys

pub invariant_of-self : goal.invariant_of-self
invariant_of-self g c =
    (subst (IsKept g.A.Key.Ord.cmp) (sym (c.fire_at-fired.ensures.after c.self.inside.own.keys)) (c.every_call_keeps_a_side.ensures.due c.args.now c.args.at (before g c) c.self.invariant.0), tt)

pub returns-clause-after : goal.returns-clause-after
returns-clause-after g c =
    c.fire_at-fired.ensures.after c.self.inside.own.keys
    ∙ ap (λ (v : SideHolding g.row.A-Key.Denot). due_flat g.A.Key.Ord.cmp c.args.now c.args.at v.state) c.self.view_is

use Rattle.std.proofs.Common.{◌-◌, ◌∙◌, ◌≡◌, ℕ, ap, sym, subst}
use Rattle.flat_side.specs.{FlatState, IsKept, periodic_flat, SideHolding, flat_of}
use Rattle.flat_side.proofs.side.FlatSide.periodic_now.Given as given
use Rattle.flat_side.proofs.side.FlatSide.periodic_now.Goals as goal

-- the side as it was
abbrev before : (g : given.Over) (c : goal.After-self-1 g) → FlatState g.row.A-Key.Denot
before g c = flat_of c.self.inside.parts.items c.self.inside.awaiting.items c.self.inside.own.keys

-- what it has become
became : (g : given.Over) (c : goal.After-self-1 g)
    → flat_of c.periodic_at.new.parts.items c.self.inside.awaiting.items c.self.inside.own.keys ≡ periodic_flat (c.from.result - 1) (before g c)
became g c = c.periodic_at.ensures c.self.inside.awaiting.items c.self.inside.own.keys

pub invariant_of-self : goal.invariant_of-self
invariant_of-self g c =
    (subst (IsKept g.A.Key.Ord.cmp) (sym (became g c)) (c.every_call_keeps_a_side.ensures.periodic_now (c.from.result - 1) (before g c) c.self.invariant.0), tt)

pub returns-clause-after : goal.returns-clause-after
returns-clause-after g c =
    became g c
    ∙ (ap (λ (v : SideHolding g.row.A-Key.Denot). periodic_flat (c.from.result - 1) v.state) c.self.view_is
    ∙ ap (λ (n : ℕ). periodic_flat (n - 1) c.args.self.now.state) c.from.ensures)

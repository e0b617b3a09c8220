use Rattle.std.proofs.Common.{◌-◌, ◌∙◌, ap, sym, subst}
use Rattle.flat_side.specs.{FlatState, IsKept, left_flat, flat_of, parts_in}
use Rattle.flat_side.proofs.side.FlatSide.leave_now.Given as given
use Rattle.flat_side.proofs.side.FlatSide.leave_now.Goals as goal

-- the side as it was
abbrev before : (g : given.Over) (c : goal.After-drop-keys g) → FlatState g.row.A-Key.Denot
before g c = flat_of c.self.inside.parts.items c.self.inside.awaiting.items c.self.inside.own.keys

pub invariant_of-self-2 : goal.invariant_of-self-2
invariant_of-self-2 g c = (
  subst (IsKept g.A.Key.Ord.cmp)
      (sym (c.leave_at.ensures.after c.self.inside.own.keys
      ∙ ap (λ sets. left_flat g.A.Key.Ord.cmp (c.from-at.result - 1) c.args.key
      (record { parts = parts_in c.self.inside.parts.items; awaiting = sets; own = c.self.inside.own.keys })) c.in_ok-keys.ensures.sets))
      (c.every_call_keeps_a_side.ensures.leave_now (c.from-at.result - 1) c.args.key (before g c) c.self.invariant.0),
  tt,
)

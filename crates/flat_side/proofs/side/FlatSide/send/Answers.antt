use Rattle.std.proofs.Common.{◌-◌, sym, subst}
use Rattle.flat_side.specs.{FlatState, IsKept, flat_of}
use Rattle.flat_side.proofs.side.FlatSide.send.Goals as goal

pub invariant_of-self : goal.invariant_of-self
invariant_of-self g c =
    let before : FlatState g.row.A-Key.Denot = flat_of c.self.inside.parts.items c.self.inside.awaiting.items c.self.inside.own.keys in (
      subst (IsKept g.A.Key.Ord.cmp) (sym (c.sent_at.ensures c.self.inside.awaiting.items c.self.inside.own.keys))
          (c.every_call_keeps_a_side.ensures.send c.args.now (c.from-at.result - 1) before c.self.invariant.0),
      tt,
    )

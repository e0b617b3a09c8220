use Rattle.std.proofs.Common.{◌-◌, ◌∙◌, ℕ, ap, sym, subst}
use Rattle.msrp.specs.{IsKept, Streams, leave_all_streams, SideHolding, streams_of}
use Rattle.msrp.proofs.side.MsrpSide.leaveall_now.Goals as goal

pub invariant_of-self : goal.invariant_of-self
invariant_of-self c =
    let before : Streams = streams_of c.self.inside.ports.items c.self.inside.awaiting.items c.self.inside.talks.items c.self.inside.listens.items c.self.inside.moment.0 in (
      subst IsKept (sym (c.leave_all_at.ensures c.self.inside.awaiting.items c.self.inside.talks.items c.self.inside.listens.items c.self.inside.moment.0))
          (c.every_call_keeps_a_side.ensures.leaveall_now c.args.now (c.from.result - 1) before c.self.invariant.0),
      tt,
    )

pub returns-clause-after : goal.returns-clause-after
returns-clause-after c =
    c.leave_all_at.ensures c.self.inside.awaiting.items c.self.inside.talks.items c.self.inside.listens.items c.self.inside.moment.0
    ∙ (ap (λ (v : SideHolding). leave_all_streams c.args.now (c.from.result - 1) v.state) c.self.view_is
    ∙ ap (λ (n : ℕ). leave_all_streams c.args.now (n - 1) c.args.self.now.state) c.from.ensures)

use Rattle.std.proofs.Common.{◌-◌, ◌∙◌, ℕ, ap, sym, subst}
use Rattle.msrp.specs.{IsKept, Streams, periodic_streams, SideHolding, streams_of}
use Rattle.msrp.proofs.side.MsrpSide.periodic_now.Goals as goal

pub invariant_of-self : goal.invariant_of-self
invariant_of-self c =
    let before : Streams = streams_of c.self.inside.ports.items c.self.inside.awaiting.items c.self.inside.talks.items c.self.inside.listens.items c.self.inside.moment.0 in (
      subst IsKept (sym (c.periodic_at.ensures c.self.inside.awaiting.items c.self.inside.talks.items c.self.inside.listens.items c.self.inside.moment.0))
          (c.every_call_keeps_a_side.ensures.periodic_now (c.from.result - 1) before c.self.invariant.0),
      tt,
    )

pub returns-clause-after : goal.returns-clause-after
returns-clause-after c =
    c.periodic_at.ensures c.self.inside.awaiting.items c.self.inside.talks.items c.self.inside.listens.items c.self.inside.moment.0
    ∙ (ap (λ (v : SideHolding). periodic_streams (c.from.result - 1) v.state) c.self.view_is
    ∙ ap (λ (n : ℕ). periodic_streams (n - 1) c.args.self.now.state) c.from.ensures)

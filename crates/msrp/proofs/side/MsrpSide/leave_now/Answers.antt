use Rattle.std.proofs.Common.{◌≡◌, ◌∙◌, ◌-◌, ℕ, ap}
use Rattle.std.specs.Prelude.{OnOk}
use Rattle.srp_base.proofs.Arithmetic.{both_err}
use Rattle.msrp.specs.{Streams, left_streams, SideHolding, streams_of}
use Rattle.msrp.proofs.{Places.on_ok, InPlace.kept_either, InPlace.same_streams}
use Rattle.msrp.proofs.side.MsrpSide.leave_now.Goals as goal

pub invariant_of-self : goal.invariant_of-self
invariant_of-self c =
    let before : Streams = streams_of c.self.inside.ports.items c.self.inside.awaiting.items c.self.inside.talks.items c.self.inside.listens.items c.self.inside.moment.0 in
    let ok : OnOk c.leave_at.result ((moment : ℕ) → streams_of c.leave_at.new.ports.items c.leave_at.new.sets.items c.self.inside.talks.items c.self.inside.listens.items moment
    ≡ left_streams (c.from.result - 1) c.args.key (streams_of c.self.inside.ports.items c.self.inside.awaiting.items c.self.inside.talks.items c.self.inside.listens.items moment)) =
    rw (c.as_slice.ensures.value, c.as_slice-2.ensures.value) at c.leave_at.ensures.ok in (
      kept_either c.leave_at.result before _ (left_streams (c.from.result - 1) c.args.key before) c.self.invariant.0
          (c.every_call_keeps_a_side.ensures.leave_now (c.from.result - 1) c.args.key before c.self.invariant.0)
          (on_ok c.leave_at.result ok (λ all. all c.self.inside.moment.0))
          (both_err c.leave_at.result (λ ports sets. same_streams _ _ _ _ _ _ _ ports sets) c.leave_at.ensures.ports c.leave_at.ensures.sets),
      tt,
    )

pub returns-clause-after : goal.returns-clause-after
returns-clause-after c =
    let ok : OnOk c.leave_at.result ((moment : ℕ) → streams_of c.leave_at.new.ports.items c.leave_at.new.sets.items c.self.inside.talks.items c.self.inside.listens.items moment
    ≡ left_streams (c.from.result - 1) c.args.key (streams_of c.self.inside.ports.items c.self.inside.awaiting.items c.self.inside.talks.items c.self.inside.listens.items moment)) =
    rw (c.as_slice.ensures.value, c.as_slice-2.ensures.value) at c.leave_at.ensures.ok in
    on_ok c.leave_at.result ok
    (λ all. all c.self.inside.moment.0
    ∙ (ap (λ (v : SideHolding). left_streams (c.from.result - 1) c.args.key v.state) c.self.view_is
    ∙ ap (λ (n : ℕ). left_streams (n - 1) c.args.key c.args.self.now.state) c.from.ensures))

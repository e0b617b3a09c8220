use Rattle.std.proofs.Common.{◌≡◌, ◌∙◌, ℕ, ap}
use Rattle.std.specs.Prelude.{OnOk}
use Rattle.srp_base.proofs.Arithmetic.{both_err}
use Rattle.msrp.specs.{Streams, settled_streams, SideHolding, streams_of}
use Rattle.msrp.proofs.{Places.on_ok, InPlace.kept_either, InPlace.same_streams}
use Rattle.msrp.proofs.side.MsrpSide.settle_keys.Goals as goal

pub invariant_of-self : goal.invariant_of-self
invariant_of-self c =
    let before : Streams = streams_of c.self.inside.ports.items c.self.inside.awaiting.items c.self.inside.talks.items c.self.inside.listens.items c.self.inside.moment.0 in
    let ok : OnOk c.settle_at.result ((moment : ℕ) → streams_of c.settle_at.new.ports.items c.settle_at.new.sets.items c.self.inside.talks.items c.self.inside.listens.items moment
    ≡ settled_streams c.args.at (streams_of c.self.inside.ports.items c.self.inside.awaiting.items c.self.inside.talks.items c.self.inside.listens.items moment)) =
    rw (c.as_slice.ensures.value, c.as_slice-2.ensures.value) at c.settle_at.ensures.after in (
      kept_either c.settle_at.result before _ (settled_streams c.args.at before) c.self.invariant.0
          (c.settling_keeps_a_side.ensures c.args.at before c.self.invariant.0)
          (on_ok c.settle_at.result ok (λ all. all c.self.inside.moment.0))
          (both_err c.settle_at.result (λ ports sets. same_streams _ _ _ _ _ _ _ ports sets) c.settle_at.ensures.ports c.settle_at.ensures.sets),
      tt,
    )

pub settle_at-requires-clause-kept : goal.settle_at-requires-clause-kept
settle_at-requires-clause-kept c = (c.self.inside.moment.0, rw (c.as_slice.ensures.value, c.as_slice-2.ensures.value) c.self.invariant.0)

pub returns-clause-after : goal.returns-clause-after
returns-clause-after c =
    let ok : OnOk c.settle_at.result ((moment : ℕ) → streams_of c.settle_at.new.ports.items c.settle_at.new.sets.items c.self.inside.talks.items c.self.inside.listens.items moment
    ≡ settled_streams c.args.at (streams_of c.self.inside.ports.items c.self.inside.awaiting.items c.self.inside.talks.items c.self.inside.listens.items moment)) =
    rw (c.as_slice.ensures.value, c.as_slice-2.ensures.value) at c.settle_at.ensures.after in
    on_ok c.settle_at.result ok (λ all. all c.self.inside.moment.0 ∙ ap (λ (v : SideHolding). settled_streams c.args.at v.state) c.self.view_is)

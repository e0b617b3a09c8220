use Rattle.std.proofs.Common.{◌≡◌, ◌∙◌, ℕ, ap}
use Rattle.std.specs.Prelude.{OnOk}
use Rattle.srp_base.proofs.Arithmetic.{both_err}
use Rattle.msrp.specs.{Streams, received_streams, SideHolding, streams_of}
use Rattle.msrp.proofs.{Places.on_ok, InPlace.kept_either, InPlace.same_streams}
use Rattle.msrp.proofs.side.MsrpSide.take.Goals as goal

pub invariant_of-self : goal.invariant_of-self
invariant_of-self c =
    let before : Streams = streams_of c.self.inside.ports.items c.self.inside.awaiting.items c.self.inside.talks.items c.self.inside.listens.items c.self.inside.moment.0 in
    let ok : OnOk c.receive_at.result ((moment : ℕ) → streams_of c.receive_at.new.ports.items c.receive_at.new.sets.items c.self.inside.talks.items c.self.inside.listens.items moment
    ≡ received_streams c.args.now c.args.at c.args.pdu (streams_of c.self.inside.ports.items c.self.inside.awaiting.items c.self.inside.talks.items c.self.inside.listens.items moment)) =
    rw (c.as_slice.ensures.value, c.as_slice-2.ensures.value) at c.receive_at.ensures.ok in (
      kept_either c.receive_at.result before _ (received_streams c.args.now c.args.at c.args.pdu before) c.self.invariant.0
          (c.every_call_keeps_a_side.ensures.receive c.args.now c.args.at c.args.pdu before c.requires.belong c.self.invariant.0)
          (on_ok c.receive_at.result ok (λ all. all c.self.inside.moment.0))
          (both_err c.receive_at.result (λ ports sets. same_streams _ _ _ _ _ _ _ ports sets) c.receive_at.ensures.ports c.receive_at.ensures.sets),
      tt,
    )

pub returns-clause-ok : goal.returns-clause-ok
returns-clause-ok c =
    let ok : OnOk c.receive_at.result ((moment : ℕ) → streams_of c.receive_at.new.ports.items c.receive_at.new.sets.items c.self.inside.talks.items c.self.inside.listens.items moment
    ≡ received_streams c.args.now c.args.at c.args.pdu (streams_of c.self.inside.ports.items c.self.inside.awaiting.items c.self.inside.talks.items c.self.inside.listens.items moment)) =
    rw (c.as_slice.ensures.value, c.as_slice-2.ensures.value) at c.receive_at.ensures.ok in
    on_ok c.receive_at.result ok (λ all. all c.self.inside.moment.0 ∙ ap (λ (v : SideHolding). received_streams c.args.now c.args.at c.args.pdu v.state) c.self.view_is)

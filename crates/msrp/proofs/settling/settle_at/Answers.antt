use Rattle.std.proofs.Common.{◌≡◌, ◌∙◌, List, ap, sym, subst, arith}
use Rattle.std.specs.Prelude.{slice_get, Some}
use Rattle.srp_base.proofs.Options.{some_is}
use Rattle.attribute_propagation.specs.{Dirty.KeySet, Ports.keys_at, Ports.keys_in, Ports.keys_or_none}
use Rattle.msrp_codec.specs.declared.pdu.MsrpKey.{MsrpKey}
use Rattle.msrp.specs.{Streams, IsKept, settled_streams, PortHolding, ports_in, IsPlan}
use Rattle.msrp.proofs.{Carried.same_many, Carried.same_sets, InPlace.same_streams, InPlace.state_is}
use Rattle.msrp.proofs.settling.settle_at.Goals as goal

pub carry_out-requires-clause-place : goal.carry_out-requires-clause-place
carry_out-requires-clause-place c = omega (arith, c.requires.place, same_many _ _ c.room_at.ensures.ports)

pub carry_out-requires-clause-sets : goal.carry_out-requires-clause-sets
carry_out-requires-clause-sets c = omega (arith, c.requires.sets, same_many _ _ c.room_at.ensures.ports, same_sets _ _ c.room_at.ensures.sets)

pub carry_out-requires-clause-plan : goal.carry_out-requires-clause-plan
carry_out-requires-clause-plan c =
    let ports : List PortHolding = c.args.ports.now.items in
    let sets : List (KeySet MsrpKey) = c.args.sets.now.items in
    let here : slice_get (ports_in ports) c.args.at ≡ Some c.port.result.now.state =
    ap (λ xs. slice_get (ports_in xs) c.args.at) (sym c.as_slice-2.ensures.value) ∙ state_is c.as_slice-2.result.now c.args.at c.port.result.now c.port.ensures in
    let keys : c.as_slice-3.result.now ≡ keys_at c.args.at (keys_in sets) =
    c.as_slice-3.ensures ∙ sym (ap (λ (xs : List (KeySet MsrpKey)). keys_at c.args.at (keys_in xs)) (sym c.as_slice.ensures.value) ∙ ap (λ o. keys_or_none o) c.set_at-keys.ensures) in
    let plan : IsPlan c.args.at c.args.talks.now (ports_in ports) (keys_at c.args.at (keys_in sets)) c.in_ok-plan.plan c.port.result.now.state =
    rw (sym keys, sym c.as_slice-2.ensures.value) c.in_ok-plan.ensures in
    rw (c.room_at.ensures.ports, c.room_at.ensures.sets)
    (some_is (IsPlan c.args.at c.args.talks.now (ports_in ports) (keys_at c.args.at (keys_in sets)) c.in_ok-plan.plan) (slice_get (ports_in ports) c.args.at) c.port.result.now.state here plan)

pub carry_out-requires-clause-kept : goal.carry_out-requires-clause-kept
carry_out-requires-clause-kept c = (
  c.requires.kept.0,
  subst IsKept (sym (same_streams _ _ _ _ c.args.talks.now c.args.listens.now c.requires.kept.0 c.room_at.ensures.ports c.room_at.ensures.sets)) c.requires.kept.1,
)

pub returns-clause-after : goal.returns-clause-after
returns-clause-after c = λ moment.
    c.carry_out.ensures moment
    ∙ ap (λ (s : Streams). settled_streams c.args.at s) (same_streams _ _ _ _ c.args.talks.now c.args.listens.now moment c.room_at.ensures.ports c.room_at.ensures.sets)

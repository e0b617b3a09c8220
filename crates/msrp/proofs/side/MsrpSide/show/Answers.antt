use Rattle.std.proofs.Common.{◌≡◌, ◌≤◌, ◌∙◌, Bool, true, List, length, sym, ap, subst, arith}
use Rattle.srp_base.proofs.Lists.{mapped_length}
use Rattle.srp_base.specs.declared.streams.Talker.{Talker}
use Rattle.attribute_propagation.specs.{Dirty.KeySet, Ports.HasRoom, Ports.keys_in}
use Rattle.msrp_codec.specs.declared.pdu.MsrpKey.{MsrpKey}
use Rattle.msrp.specs.{talker_keys, Streams, IsKept, clocked_sets, clocked_streams, IsReadyAs, PortHolding, SideHolding, ports_in, streams_of}
use Rattle.msrp.proofs.Clocked.{moments_before, shown_is}
use Rattle.msrp.proofs.side.MsrpSide.show.Goals as goal

pub show_all-requires-clause-count : goal.show_all-requires-clause-count
show_all-requires-clause-count c =
    omega (
      arith,
      c.self.invariant.0.sets,
      mapped_length (λ (p : PortHolding). p.state) c.self.inside.ports.items,
      mapped_length (λ (set : KeySet MsrpKey). set.keys) c.self.inside.awaiting.items,
      ap (λ (ports : List PortHolding). length ports) c.as_slice-2.ensures.value,
    )

pub show_all-requires-clause-room : goal.show_all-requires-clause-room
show_all-requires-clause-room c =
    let is : c.self.inside.ready ≡ true = ap (λ (v : SideHolding). v.ready) c.self.view_is ∙ c.requires.ready in
    let P : Bool → Type 0 = λ b. IsReadyAs b c.self.inside.talks.items c.self.inside.ports.items c.self.inside.awaiting.items in
    let room : HasRoom (length (talker_keys c.self.inside.talks.items (ports_in c.self.inside.ports.items))) c.self.inside.awaiting.items = subst P is c.self.invariant.1 in
    let Q : List Talker → Type 0 = λ talks. HasRoom (length (talker_keys talks (ports_in c.as_slice-2.result.now))) c.self.inside.awaiting.items in
    let R : List PortHolding → Type 0 = λ ports. HasRoom (length (talker_keys c.self.inside.talks.items (ports_in ports))) c.self.inside.awaiting.items in
    subst Q (sym c.as_slice.ensures.value) (subst R (sym c.as_slice-2.ensures.value) room)

pub clock_all-requires : goal.clock_all-requires
clock_all-requires c =
    moments_before c.self.inside.moment.0 c.args.now.0 (ports_in c.self.inside.ports.items) (rw (ap (λ (v : SideHolding). v.state.moment) c.self.view_is) c.requires.moment) c.self.invariant.0.ports

pub invariant_of-self : goal.invariant_of-self
invariant_of-self c =
    let before : Streams = streams_of c.self.inside.ports.items c.self.inside.awaiting.items c.self.inside.talks.items c.self.inside.listens.items c.self.inside.moment.0 in
    let up : before.moment ≤ c.args.now.0 = rw (ap (λ (v : SideHolding). v.state.moment) c.self.view_is) c.requires.moment in
    let sets : keys_in c.show_all.new.sets.items ≡ clocked_sets c.args.now.0 (talker_keys before.talks before.ports) before.ports before.awaiting =
    rw (c.as_slice.ensures.value, c.as_slice-2.ensures.value) at c.show_all.ensures in (
      subst IsKept (sym (shown_is before c.args.now.0 (ports_in c.clock_all.new.ports.items) (keys_in c.show_all.new.sets.items) c.clock_all.ensures sets))
          (c.every_call_keeps_a_side.ensures.clock c.args.now.0 before up c.self.invariant.0),
      tt,
    )

pub returns-clause-state : goal.returns-clause-state
returns-clause-state c =
    let before : Streams = streams_of c.self.inside.ports.items c.self.inside.awaiting.items c.self.inside.talks.items c.self.inside.listens.items c.self.inside.moment.0 in
    let sets : keys_in c.show_all.new.sets.items ≡ clocked_sets c.args.now.0 (talker_keys before.talks before.ports) before.ports before.awaiting =
    rw (c.as_slice.ensures.value, c.as_slice-2.ensures.value) at c.show_all.ensures in
    shown_is before c.args.now.0 (ports_in c.clock_all.new.ports.items) (keys_in c.show_all.new.sets.items) c.clock_all.ensures sets
    ∙ ap (λ (v : SideHolding). clocked_streams c.args.now.0 v.state) c.self.view_is

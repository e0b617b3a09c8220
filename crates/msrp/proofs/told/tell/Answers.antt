use Rattle.std.proofs.Common.{◌≤◌, ◌<◌, ◌+◌, ◌&&◌, length, ap, sym, ◌∙◌, arith}
use Rattle.attribute_propagation.specs.Dirty.{KeySet}
use Rattle.msrp_codec.specs.declared.pdu.MsrpKey.{MsrpKey}
use Rattle.msrp.specs.{are_counted, all_keys_with}
use Rattle.msrp.proofs.{Marking.as_many_told, Marking.told_here, Places.each-at}
use Rattle.msrp.proofs.told.tell.Goals as goal

pub mark_all_with-requires : goal.mark_all_with-requires
mark_all_with-requires c =
    let below : c.args.at < length c.tell_all.new.sets.items =
    omega (arith, c.requires.place, as_many_told (all_keys_with c.args.told.now) c.args.sets.now.items c.tell_all.new.sets.items c.tell_all.ensures.keys) in
    each-at (λ (set : KeySet MsrpKey). length c.args.known.now + length c.args.known.now ≤ set.spare) c.tell_all.new.sets.items c.args.at c.index_mut.result.now below c.index_mut.ensures.value
    (c.tell_all.ensures.room (length c.args.known.now + length c.args.known.now) c.requires.room)

pub returns-then-heeds : goal.returns-then-heeds
returns-then-heeds c =
    let below : c.args.at < length c.tell_all.new.sets.items =
    omega (arith, c.requires.place, as_many_told (all_keys_with c.args.told.now) c.args.sets.now.items c.tell_all.new.sets.items c.tell_all.ensures.keys) in
    told_here c.args.at c.args.domain c.args.told.now c.args.known.now c.args.sets.now.items c.tell_all.new.sets.items c.index_mut.result.now c.mark_all_with.new.set below c.index_mut.ensures.value
    c.tell_all.ensures.keys c.mark_all_with.ensures (ap (λ b. are_counted c.args.domain && b) (sym c.any_domain.ensures) ∙ (sym c.heeds.ensures ∙ c.if-heeds.true))

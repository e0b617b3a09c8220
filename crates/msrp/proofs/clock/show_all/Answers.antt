use Rattle.std.proofs.Common.{◌≡◌, ◌∙◌, ◌≤◌, ◌<◌, length, refl, sym, arith}
use Rattle.std.specs.Prelude.{slice_get, Some}
use Rattle.std.proofs.Math.ListN.{length-set}
use Rattle.std.proofs.lemmas.Option.{slice_get_read}
use Rattle.msrp.specs.{ports_in, talker_keys}
use Rattle.msrp.proofs.{Clocked.all_shown, Clocked.left_room, Clocked.next_room, Clocked.show_more, InPlace.state_is}
use Rattle.msrp.proofs.clock.show_all.Goals as goal

pub loop-place-init : goal.loop-place-init
loop-place-init c = record { shown = refl; room = c.requires.room; many = refl }

pub index_mut-requires : goal.index_mut-requires
index_mut-requires c = omega (arith, c.loop-place-test.true, c.len-place-end.ensures, c.loop-place.invariant.many)

pub show_at-requires : goal.show_at-requires
show_at-requires c =
    let below : c.loop-place.place < length c.loop-place.sets.items = omega (arith, c.loop-place-test.true, c.len-place-end.ensures, c.loop-place.invariant.many) in
    next_room (length (talker_keys c.args.talks.now (ports_in c.args.ports.now))) c.loop-place.sets.items c.loop-place.place c.index_mut.result.now below
    c.index_mut.ensures.value c.loop-place.invariant.room

pub loop-place-preserved : goal.loop-place-preserved
loop-place-preserved c =
    let below : c.loop-place.place < length c.loop-place.sets.items = omega (arith, c.loop-place-test.true, c.len-place-end.ensures, c.loop-place.invariant.many) in
    let within : c.loop-place.place < length c.args.ports.now = omega (arith, below, c.loop-place.invariant.many, c.requires.count) in
    let here : slice_get (ports_in c.args.ports.now) c.loop-place.place ≡ Some c.index-ports-place.result.state =
    state_is c.args.ports.now c.loop-place.place c.index-ports-place.result
    (slice_get_read c.args.ports.now (length c.args.ports.now) c.loop-place.place c.index-ports-place.result refl within c.index-ports-place.is) in
    record {
      shown = show_more c.args.now.0 (talker_keys c.args.talks.now (ports_in c.args.ports.now)) (ports_in c.args.ports.now) c.loop-place.sets.items c.loop-place.place c.index-ports-place.result.state
          c.index_mut.result.now c.show_at.new.set c.shows_at.result below here c.index_mut.ensures.value c.shows_at.ensures c.show_at.ensures
          ∙ c.loop-place.invariant.shown;
      room = left_room (length (talker_keys c.args.talks.now (ports_in c.args.ports.now))) c.loop-place.sets.items c.loop-place.place c.show_at.new.set c.loop-place.invariant.room;
      many = length-set c.loop-place.sets.items c.loop-place.place c.show_at.new.set ∙ c.loop-place.invariant.many;
    }

pub returns : goal.returns
returns c =
    let end : length c.loop-place.sets.items ≤ c.loop-place.place = omega (arith, c.loop-place-test.false, c.len-place-end.ensures, c.loop-place.invariant.many) in
    sym (all_shown c.args.now.0 (talker_keys c.args.talks.now (ports_in c.args.ports.now)) (ports_in c.args.ports.now) c.loop-place.sets.items c.loop-place.place end) ∙ c.loop-place.invariant.shown

use Rattle.std.proofs.Common.{◌≡◌, ◌≤◌, ◌<◌, ◌+◌, ◌++◌, ◌∙◌, ℕ, List, [], length, map, ap, sym, arith}
use Rattle.std.specs.Prelude.{slice_get, slice_set, Some, vec_capacity}
use Rattle.std.proofs.Math.ListN.{length-set}
use Rattle.srp_base.proofs.{Lists.each-set, Lists.map-set, Lists.mapped_length, Options.opened}
use Rattle.srp_base.specs.declared.numbers.StreamId.{StreamId}
use Rattle.port_ledger.specs.Book.{Book, booked_only_in}
use Rattle.attribute_propagation.specs.{Dirty.KeySet, Ports.keys_at, Ports.keys_in, Ports.keys_or_none, Ports.marked_elsewhere}
use Rattle.msrp_codec.specs.declared.pdu.MsrpKey.{MsrpKey}
use Rattle.msrp.specs.{Stated, key_cmp, listener_keys, settling_keys, streams_in, talker_keys, registrations_of, Streams, with_part, PortHolding, ports_in, streams_of, asked_at, asked_book, missing_rows, new_rows, stated_of, stated_part, stated_with}
use Rattle.msrp.specs.Part.{Part}
use Rattle.msrp.specs.PortState.{PortState}
use Rattle.msrp.proofs.{Carried.book_is, Carried.get-set, Carried.keys_is, Carried.keys_set, Carried.marked-many, Carried.moved_fits, Carried.moved_since, Carried.plan_at, Carried.port_has, Carried.read-set, Carried.set_has, Carried.set_is, Carried.stepped_is, Carried.talkers_fit, Carried.tried_fits, InPlace.fewer, InPlace.port_is, InPlace.state_is, InPlace.states-set}
use Rattle.msrp.proofs.settling.carry_out.Goals as goal

pub mark_moved-requires : goal.mark_moved-requires
mark_moved-requires c =
    let ports : List PortHolding = c.args.ports.now.items in
    let sets : List (KeySet MsrpKey) = c.args.sets.now.items in
    let below : c.args.at < length sets = omega (arith, c.requires.place, c.requires.sets) in
    let plan = plan_at c.args.at c.args.talks.now ports _ c.args.plan.now c.index_mut.result.now c.requires.place c.index_mut.ensures.value c.requires.plan in
    let own = set_has (λ (set : KeySet MsrpKey). vec_capacity c.args.plan.now.stated + vec_capacity c.args.plan.now.moved ≤ set.spare)
    sets c.args.at c.index_mut-2.result.now below c.index_mut-2.ensures.value c.requires.room.own in
    let fit = talkers_fit c.args.at c.args.talks.now ports c.as_slice-4.result.now _ c.args.plan.now c.index_mut.result.now c.decide.new.self c.requires.place c.index_mut.ensures.value plan
    c.as_slice-4.ensures.value (ap (λ (s : PortState). s.part) c.decide.ensures.state) in
    omega (arith, own, fit)

pub state_all-requires-clause-rows : goal.state_all-requires-clause-rows
state_all-requires-clause-rows c =
    let ports : List PortHolding = c.args.ports.now.items in
    let plan = plan_at c.args.at c.args.talks.now ports _ c.args.plan.now c.index_mut.result.now c.requires.place c.index_mut.ensures.value c.requires.plan in
    omega (arith, plan.rows, mapped_length (λ (p : PortHolding). p.state) ports, length-set ports c.args.at c.decide.new.self, ap (λ (xs : List PortHolding). length xs) c.as_slice-5.ensures.value)

pub state_all-requires-clause-room : goal.state_all-requires-clause-room
state_all-requires-clause-room c =
    let ports : List PortHolding = c.args.ports.now.items in
    let sets : List (KeySet MsrpKey) = c.args.sets.now.items in
    let below : c.args.at < length sets = omega (arith, c.requires.place, c.requires.sets) in
    let plan = plan_at c.args.at c.args.talks.now ports _ c.args.plan.now c.index_mut.result.now c.requires.place c.index_mut.ensures.value c.requires.plan in
    let tried = tried_fits c.args.at c.args.talks.now ports c.as_slice-4.result.now sets c.args.plan.now c.index_mut.result.now c.decide.new.self c.index_mut-2.result.now
    c.requires.place c.index_mut.ensures.value (set_is sets c.args.at c.index_mut-2.result.now below c.index_mut-2.ensures.value) plan
    c.as_slice-4.ensures.value (ap (λ (s : PortState). s.part) c.decide.ensures.state) c.as_slice-3.result.now c.as_slice-7.result.now
    (c.as_slice-7.ensures
    ∙ (keys_set sets c.args.at c.mark_moved.new.set c.set_at-keys.result.now.keys below (ap (λ xs. slice_get (keys_in xs) c.args.at) (sym c.as_slice-6.ensures.value) ∙ c.set_at-keys.ensures)
    ∙ c.mark_moved.ensures.keys)) in
    tried

pub restate-requires : goal.restate-requires
restate-requires c =
    let at : ℕ = c.args.at in
    let ports : List PortHolding = c.args.ports.now.items in
    let sets : List (KeySet MsrpKey) = c.args.sets.now.items in
    let x : PortHolding = c.index_mut.result.now in
    let u : KeySet MsrpKey = c.index_mut-2.result.now in
    let below : at < length sets = omega (arith, c.requires.place, c.requires.sets) in
    let plan = plan_at at c.args.talks.now ports _ c.args.plan.now x c.requires.place c.index_mut.ensures.value c.requires.plan in
    let room = port_has (λ (p : PortHolding). c.args.plan.now.missing ≤ p.rows) ports at x c.requires.place c.index_mut.ensures.value c.requires.room.rows in
    let book : Book = asked_book c.as_slice.result.now x.state.ledger in
    let ruled : PortState = record x.state { ledger = book } in
    let here : slice_get (ports_in ports) at ≡ Some x.state = state_is ports at x (port_is ports at x c.requires.place c.index_mut.ensures.value) in
    let set : slice_get (keys_in sets) at ≡ Some u.keys = keys_is sets at u (set_is sets at u below c.index_mut-2.ensures.value) in
    let five : ports_in c.as_slice-5.result.now ≡ slice_set (ports_in ports) at ruled =
    ap (λ xs. ports_in xs) c.as_slice-5.ensures.value ∙ (states-set ports at c.decide.new.self ∙ ap (λ (s : PortState). slice_set (ports_in ports) at s) c.decide.ensures.state) in
    let regs = registrations_of c.args.talks.now c.args.listens.now (ports_in c.as_slice-5.result.now) in
    let stated : c.state_all.new.stated.items ≡ c.args.plan.now.stated.items ++ map (stated_of at c.decide.new.self.state regs) c.as_slice-7.result.now =
    opened (λ (q : PortHolding). c.state_all.new.stated.items ≡ c.args.plan.now.stated.items ++ map (stated_of at q.state regs) c.as_slice-7.result.now)
    (slice_get c.as_slice-5.result.now at) c.decide.new.self
    (ap (λ xs. slice_get xs at) c.as_slice-5.ensures.value ∙ get-set ports at c.decide.new.self c.requires.place) c.state_all.ensures in
    let side : Streams = streams_of ports sets c.args.talks.now c.args.listens.now c.requires.kept.0 in
    let all : c.as_slice-8.result.now ≡ stated_with at side ruled c.as_slice-7.result.now =
    c.as_slice-8.ensures.value
    ∙ (stated
    ∙ (ap (λ xs. xs ++ map (stated_of at c.decide.new.self.state regs) c.as_slice-7.result.now) plan.stated
    ∙ (ap (λ (s : PortState). map (stated_of at s regs) c.as_slice-7.result.now) c.decide.ensures.state
    ∙ ap (λ (ps : List PortState). map (stated_of at ruled (registrations_of c.args.talks.now c.args.listens.now ps)) c.as_slice-7.result.now) five))) in
    let port : c.index_mut-3.result.now ≡ c.decide.new.self = read-set ports at c.index_mut-3.result.now c.decide.new.self c.requires.place c.index_mut-3.ensures.value in
    let part : c.index_mut-3.result.now.state.part ≡ x.state.part = ap (λ (p : PortHolding). p.state.part) port ∙ ap (λ (s : PortState). s.part) c.decide.ensures.state in
    let few = c.rows_come_for_awaiting_keys.ensures at side x.state u.keys c.requires.kept.1 here set book c.as_slice-7.result.now in
    let come : new_rows c.as_slice-8.result.now c.index_mut-3.result.now.state.part ≡ new_rows (stated_with at side ruled c.as_slice-7.result.now) x.state.part =
    ap (λ (xs : List Stated). new_rows xs c.index_mut-3.result.now.state.part) all ∙ ap (λ (s : Part). new_rows (stated_with at side ruled c.as_slice-7.result.now) s) part in
    let miss : missing_rows (keys_at at (keys_in sets)) x.state.part ≡ missing_rows u.keys x.state.part = ap (λ o. missing_rows (keys_or_none o) x.state.part) set in
    omega (arith, come, few, miss, plan.missing, room, ap (λ (p : PortHolding). p.rows) port, c.decide.ensures.rows)

pub tell_moved-requires-clause-told : goal.tell_moved-requires-clause-told
tell_moved-requires-clause-told c =
    let plan = plan_at c.args.at c.args.talks.now c.args.ports.now.items _ c.args.plan.now c.index_mut.result.now c.requires.place c.index_mut.ensures.value c.requires.plan in
    plan.told

pub tell_moved-requires-clause-room : goal.tell_moved-requires-clause-room
tell_moved-requires-clause-room c =
    let plan = plan_at c.args.at c.args.talks.now c.args.ports.now.items _ c.args.plan.now c.index_mut.result.now c.requires.place c.index_mut.ensures.value c.requires.plan in
    let few = moved_fits c.args.at c.args.talks.now (ports_in c.args.ports.now.items) _ c.args.plan.now c.index_mut.result.now.state plan
    c.as_slice.result.now c.as_slice-2.result.now c.decide.new.moved.items c.as_slice.ensures.value c.as_slice-2.ensures c.decide.ensures.moved in
    omega (arith, few, plan.telling, ap (λ (ss : List StreamId). length ss) c.as_slice-9.ensures.value)

pub tell_moved-requires-clause-spare : goal.tell_moved-requires-clause-spare
tell_moved-requires-clause-spare c =
    let ports : List PortHolding = c.args.ports.now.items in
    let sets : List (KeySet MsrpKey) = c.args.sets.now.items in
    let below : c.args.at < length sets = omega (arith, c.requires.place, c.requires.sets) in
    let plan = plan_at c.args.at c.args.talks.now ports _ c.args.plan.now c.index_mut.result.now c.requires.place c.index_mut.ensures.value c.requires.plan in
    let few = moved_fits c.args.at c.args.talks.now (ports_in ports) _ c.args.plan.now c.index_mut.result.now.state plan c.as_slice.result.now c.as_slice-2.result.now c.decide.new.moved.items
    c.as_slice.ensures.value c.as_slice-2.ensures c.decide.ensures.moved in
    let count : length c.as_slice-9.result.now ≡ length c.decide.new.moved.items = ap (λ (ss : List StreamId). length ss) c.as_slice-9.ensures.value in
    let own = set_has (λ (set : KeySet MsrpKey). vec_capacity c.args.plan.now.stated + vec_capacity c.args.plan.now.moved ≤ set.spare)
    sets c.args.at c.index_mut-2.result.now below c.index_mut-2.ensures.value c.requires.room.own in
    let fit = talkers_fit c.args.at c.args.talks.now ports c.as_slice-4.result.now _ c.args.plan.now c.index_mut.result.now c.decide.new.self c.requires.place c.index_mut.ensures.value plan
    c.as_slice-4.ensures.value (ap (λ (s : PortState). s.part) c.decide.ensures.state) in
    each-set (λ (set : KeySet MsrpKey). length c.as_slice-9.result.now ≤ set.spare) sets c.args.at c.mark_moved.new.set
    (omega (arith, few, count, own, fit, c.mark_moved.ensures.spare))
    (fewer (length c.as_slice-9.result.now) (vec_capacity c.args.plan.now.moved) sets (omega (arith, few, count)) c.requires.room.others)

pub empty_at-requires : goal.empty_at-requires
empty_at-requires c =
    let sets : List (KeySet MsrpKey) = slice_set c.args.sets.now.items c.args.at c.mark_moved.new.set in
    omega (
      arith,
      c.requires.place,
      c.requires.sets,
      length-set c.args.sets.now.items c.args.at c.mark_moved.new.set,
      mapped_length (λ (set : KeySet MsrpKey). set.keys) sets,
      mapped_length (λ (set : KeySet MsrpKey). set.keys) c.tell_moved.new.sets.items,
      ap (λ (ss : List (List MsrpKey)). length ss) c.tell_moved.ensures,
      marked-many 0 c.args.at (listener_keys c.as_slice-9.result.now) (keys_in sets),
    )

pub returns : goal.returns
returns c =
    let at : ℕ = c.args.at in
    let ports : List PortHolding = c.args.ports.now.items in
    let sets : List (KeySet MsrpKey) = c.args.sets.now.items in
    let x : PortHolding = c.index_mut.result.now in
    let u : KeySet MsrpKey = c.index_mut-2.result.now in
    let below : at < length sets = omega (arith, c.requires.place, c.requires.sets) in
    let plan = plan_at at c.args.talks.now ports _ c.args.plan.now x c.requires.place c.index_mut.ensures.value c.requires.plan in
    let book : Book = asked_book c.as_slice.result.now x.state.ledger in
    let ruled : PortState = record x.state { ledger = book } in
    let set : slice_get (keys_in sets) at ≡ Some u.keys = keys_is sets at u (set_is sets at u below c.index_mut-2.ensures.value) in
    let decided : ports_in (slice_set ports at c.decide.new.self) ≡ slice_set (ports_in ports) at ruled =
    states-set ports at c.decide.new.self ∙ ap (λ (s : PortState). slice_set (ports_in ports) at s) c.decide.ensures.state in
    let four : ports_in c.as_slice-4.result.now ≡ slice_set (ports_in ports) at ruled = ap (λ xs. ports_in xs) c.as_slice-4.ensures.value ∙ decided in
    let five : ports_in c.as_slice-5.result.now ≡ slice_set (ports_in ports) at ruled = ap (λ xs. ports_in xs) c.as_slice-5.ensures.value ∙ decided in
    let marked : c.as_slice-7.result.now ≡ c.mark_moved.new.set.keys =
    c.as_slice-7.ensures
    ∙ keys_set sets at c.mark_moved.new.set c.set_at-keys.result.now.keys below (ap (λ xs. slice_get (keys_in xs) at) (sym c.as_slice-6.ensures.value) ∙ c.set_at-keys.ensures) in
    let stated : c.state_all.new.stated.items
    ≡ c.args.plan.now.stated.items ++ map (stated_of at c.decide.new.self.state (registrations_of c.args.talks.now c.args.listens.now (ports_in c.as_slice-5.result.now))) c.as_slice-7.result.now =
    opened
    (λ (q : PortHolding). c.state_all.new.stated.items
    ≡ c.args.plan.now.stated.items ++ map (stated_of at q.state (registrations_of c.args.talks.now c.args.listens.now (ports_in c.as_slice-5.result.now))) c.as_slice-7.result.now)
    (slice_get c.as_slice-5.result.now at) c.decide.new.self
    (ap (λ xs. slice_get xs at) c.as_slice-5.ensures.value ∙ get-set ports at c.decide.new.self c.requires.place) c.state_all.ensures in
    let port : c.index_mut-3.result.now.state ≡ ruled =
    ap (λ (p : PortHolding). p.state) (read-set ports at c.index_mut-3.result.now c.decide.new.self c.requires.place c.index_mut-3.ensures.value) ∙ c.decide.ensures.state in
    stepped_is at c.args.talks.now c.args.listens.now (ports_in ports) _ (keys_in sets) _ x.state u.keys
    (record {
      book = book;
      moved = c.decide.new.moved.items;
      stated = c.as_slice-8.result.now;
      tried = c.as_slice-7.result.now;
      here = state_is ports at x (port_is ports at x c.requires.place c.index_mut.ensures.value);
      set = set;
      book_is = book_is at c.args.talks.now c.args.listens.now (ports_in ports) x.state u.keys c.as_slice.result.now
          (c.as_slice.ensures.value ∙ (plan.asked ∙ ap (λ o. map (asked_at at c.args.talks.now (ports_in ports) x.state) (streams_in (keys_or_none o))) set));
      moved_is = c.decide.ensures.moved
          ∙ (ap (λ ss. ss ++ (booked_only_in book.entries c.as_slice-2.result.now ++ booked_only_in c.as_slice-2.result.now book.entries)) plan.moved
          ∙ moved_since c.nothing_changed_where_both_lists_are_empty.ensures.bookings x.state.ledger book c.as_slice-2.result.now (c.as_slice-2.ensures ∙ plan.before));
      tried_is = marked ∙ (c.mark_moved.ensures.keys
          ∙ (ap (λ ss. settling_keys ss (talker_keys c.args.talks.now (ports_in c.as_slice-4.result.now)) u.keys) c.as_slice-3.ensures.value
          ∙ ap (λ ps. settling_keys c.decide.new.moved.items (talker_keys c.args.talks.now ps) u.keys) four));
      stated_is = c.as_slice-8.ensures.value
          ∙ (stated
          ∙ (ap (λ xs. xs ++ map (stated_of at c.decide.new.self.state (registrations_of c.args.talks.now c.args.listens.now (ports_in c.as_slice-5.result.now))) c.as_slice-7.result.now) plan.stated
          ∙ (ap (λ (s : PortState). map (stated_of at s (registrations_of c.args.talks.now c.args.listens.now (ports_in c.as_slice-5.result.now))) c.as_slice-7.result.now) c.decide.ensures.state
          ∙ ap (λ (ps : List PortState). map (stated_of at ruled (registrations_of c.args.talks.now c.args.listens.now ps)) c.as_slice-7.result.now) five)));
      last_is = states-set (slice_set ports at c.decide.new.self) at c.restate.new.self
          ∙ (ap (λ ps. slice_set ps at c.restate.new.self.state) decided
          ∙ ap (λ (s : PortState). slice_set (slice_set (ports_in ports) at ruled) at s) (c.restate.ensures ∙ ap (λ (s : PortState). with_part (stated_part c.as_slice-8.result.now s.part) s) port));
      done_is = c.empty_at.ensures ∙ ap (λ ss. slice_set ss at [])
          (c.tell_moved.ensures
          ∙ (ap (λ ss. marked_elsewhere key_cmp at (listener_keys ss) (keys_in (slice_set sets at c.mark_moved.new.set))) c.as_slice-9.ensures.value
          ∙ ap (λ ws. marked_elsewhere key_cmp at (listener_keys c.decide.new.moved.items) ws)
          (map-set (λ (set : KeySet MsrpKey). set.keys) sets at c.mark_moved.new.set ∙ ap (λ ks. slice_set (keys_in sets) at ks) (sym marked))));
    })

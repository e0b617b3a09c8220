use Rattle.std.proofs.Common.{◌≡◌, ℕ, false, refl}
use Rattle.std.specs.Prelude.{slice_get, Some, if◌then◌else◌, map}
use Rattle.std.specs.declared.cmp.Ordering.{Ordering}
use Rattle.srp_base.proofs.Lists.{each-get}
use Rattle.mrp_participant.specs.{Lookup.key_of, Row.after_leave_due, Row.periodic_row, State.AreRows, State.after, State.is_periodic_due, State.row_sent, State.due_state, State.left_keys, State.left_state, State.leave_all_state, State.periodic_state, State.sent_state}
use Rattle.flat_side.specs.Part.{Part}
use Rattle.flat_side.specs.{said_events, received_part, told_by_receipt, FlatState, with_told_part, with_part_at, left_key, HasKeyRows, IsProper}
use Rattle.flat_side.proofs.{Keeping.KeyLaws, Keeping.leaving_told, KeyLemmas.proper-at, KeyLemmas.proper-retold, KeyLemmas.proper-replaced, KeyLemmas.rows-received, KeyLemmas.rows-both, KeyLemmas.rows-mapped, KeyLemmas.rows-filtered, KeyLemmas.rows-left, KeyLemmas.left-alone, KeyLemmas.told-alone}
use Rattle.flat_side.proofs.laws.every_call_keeps_a_side_proper.Goals as goal

rows_at : {K : Type 0} (cmp : K → K → Ordering) (IsKey : K → Type 0) (side : FlatState K) (at : ℕ) (s : Part K) → IsProper cmp IsKey side → slice_get side.parts at ≡ Some s → AreRows cmp s.rows
rows_at cmp IsKey side at s proper here = each-get (λ p. AreRows cmp p.rows) side.parts at s proper.kept.rows here

pub returns-clause-receive : goal.returns-clause-receive
returns-clause-receive g c = λ now at leave_all events side keys proper.
    let cmp = g.A.Key.Ord.cmp in
    let IsKey = g.A.FlatApp.is_key in
    let laws : KeyLaws cmp = record { order = g.met.A.Key.Ord.total; one = g.met.A.MrpApp.one_key; told = c.each_port_is_told.ensures } in
    proper-at cmp laws IsKey side (λ s. with_told_part cmp at (received_part cmp now leave_all events s) (told_by_receipt cmp now leave_all events s) side) (slice_get side.parts at) proper (λ s here.
    let rows = rows_at cmp IsKey side at s proper here in
    let t : Part g.row.A-Key.Denot = received_part cmp now leave_all events s in
    let new_rows = c.rows_stay_rows.ensures.receive s now leave_all (said_events events) rows in
    let own : HasKeyRows cmp IsKey t = rows-received cmp laws IsKey s t (after now s.leave_time) leave_all events
    (proper.keys.parts at s here) keys (c.each_key_after_receive.ensures s now leave_all (said_events events) rows) in
    proper-retold cmp laws IsKey side proper at s here t (told_by_receipt cmp now leave_all events s) new_rows
    (c.declarations_stay.ensures.receive s now leave_all (said_events events) rows)
    (c.receive_tells_each_change.ensures.told s now leave_all (said_events events) rows)
    own
    (told-alone cmp laws IsKey t (told_by_receipt cmp now leave_all events s) (map key_of t.rows) own
    (λ k. c.told_keys_ascend.ensures.receive_rows s.rows t.rows k) (λ k. (c.a_row_where_something_is_kept.ensures.place t new_rows k).1)))

pub returns-clause-due : goal.returns-clause-due
returns-clause-due g c = λ now at side proper.
    let cmp = g.A.Key.Ord.cmp in
    let IsKey = g.A.FlatApp.is_key in
    let laws : KeyLaws cmp = record { order = g.met.A.Key.Ord.total; one = g.met.A.MrpApp.one_key; told = c.each_port_is_told.ensures } in
    proper-at cmp laws IsKey side (λ s. with_told_part cmp at (due_state now s) (left_keys now s) side) (slice_get side.parts at) proper (λ s here.
    let rows = rows_at cmp IsKey side at s proper here in
    let own = proper.keys.parts at s here in
    proper-retold cmp laws IsKey side proper at s here (due_state now s) (left_keys now s) (c.rows_stay_rows.ensures.due s now rows)
    (c.declarations_stay.ensures.due s now rows)
    (c.due_tells_each_change.ensures.told s now rows)
    (rows-both cmp laws IsKey s (due_state now s) own (after_leave_due now.0) (λ r. if is_periodic_due now s then periodic_row r else r) (c.each_key_after_due.ensures s now rows))
    (told-alone cmp laws IsKey s (left_keys now s) (map key_of s.rows) own (λ k. c.told_keys_ascend.ensures.due_rows s now k) (λ k. (c.a_row_where_something_is_kept.ensures.place s rows k).1)))

pub returns-clause-leave_now : goal.returns-clause-leave_now
returns-clause-leave_now g c = λ at key side proper.
    let cmp = g.A.Key.Ord.cmp in
    let IsKey = g.A.FlatApp.is_key in
    let laws : KeyLaws cmp = record { order = g.met.A.Key.Ord.total; one = g.met.A.MrpApp.one_key; told = c.each_port_is_told.ensures } in
    proper-at cmp laws IsKey side (λ s. with_told_part cmp at (left_state cmp key s) (left_key cmp key s) side) (slice_get side.parts at) proper (λ s here.
    let rows = rows_at cmp IsKey side at s proper here in
    let own = proper.keys.parts at s here in
    proper-retold cmp laws IsKey side proper at s here (left_state cmp key s) (left_key cmp key s) (c.rows_stay_rows.ensures.leave_due s key rows)
    (c.declarations_stay.ensures.leave_due s key rows)
    (λ v. leaving_told cmp laws s key v (c.what_is_asked_holds.ensures.leave_due s key rows v))
    (rows-left cmp laws IsKey s (left_state cmp key s) key own (c.one_key_changes.ensures.leave_due s key rows))
    (left-alone cmp laws IsKey s key own))

pub returns-clause-leaveall_now : goal.returns-clause-leaveall_now
returns-clause-leaveall_now g c = λ now at side proper.
    let cmp = g.A.Key.Ord.cmp in
    let IsKey = g.A.FlatApp.is_key in
    let laws : KeyLaws cmp = record { order = g.met.A.Key.Ord.total; one = g.met.A.MrpApp.one_key; told = c.each_port_is_told.ensures } in
    proper-at cmp laws IsKey side (λ s. with_part_at at (leave_all_state now s) side) (slice_get side.parts at) proper (λ s here.
    proper-replaced cmp laws IsKey side proper at s here (leave_all_state now s) (rows_at cmp IsKey side at s proper here) (λ key. refl) (λ key. refl) (proper.keys.parts at s here))

pub returns-clause-spoil : goal.returns-clause-spoil
returns-clause-spoil g c = λ at side proper.
    let cmp = g.A.Key.Ord.cmp in
    let IsKey = g.A.FlatApp.is_key in
    let laws : KeyLaws cmp = record { order = g.met.A.Key.Ord.total; one = g.met.A.MrpApp.one_key; told = c.each_port_is_told.ensures } in
    proper-at cmp laws IsKey side (λ (s : Part g.row.A-Key.Denot). with_part_at at (record s { sound = false }) side) (slice_get side.parts at) proper (λ s here.
    proper-replaced cmp laws IsKey side proper at s here (record s { sound = false }) (rows_at cmp IsKey side at s proper here) (λ key. refl) (λ key. refl) (proper.keys.parts at s here))

pub returns-clause-periodic_now : goal.returns-clause-periodic_now
returns-clause-periodic_now g c = λ at side proper.
    let cmp = g.A.Key.Ord.cmp in
    let IsKey = g.A.FlatApp.is_key in
    let laws : KeyLaws cmp = record { order = g.met.A.Key.Ord.total; one = g.met.A.MrpApp.one_key; told = c.each_port_is_told.ensures } in
    proper-at cmp laws IsKey side (λ s. with_part_at at (periodic_state s) side) (slice_get side.parts at) proper (λ s here.
    let rows = rows_at cmp IsKey side at s proper here in
    proper-replaced cmp laws IsKey side proper at s here (periodic_state s) (c.rows_stay_rows.ensures.periodic_due s rows)
    (c.declarations_stay.ensures.periodic_due s) (c.registrations_stay.ensures.periodic_due s)
    (rows-mapped cmp laws IsKey s (periodic_state s) (proper.keys.parts at s here) periodic_row (c.each_key_after_periodic.ensures s)))

pub returns-clause-send : goal.returns-clause-send
returns-clause-send g c = λ now at side proper.
    let cmp = g.A.Key.Ord.cmp in
    let IsKey = g.A.FlatApp.is_key in
    let base = g.A.MrpApp.base in
    let octets = g.A.MrpApp.octets in
    let laws : KeyLaws cmp = record { order = g.met.A.Key.Ord.total; one = g.met.A.MrpApp.one_key; told = c.each_port_is_told.ensures } in
    proper-at cmp laws IsKey side (λ s. with_part_at at (sent_state base octets cmp now s) side) (slice_get side.parts at) proper (λ s here.
    let rows = rows_at cmp IsKey side at s proper here in
    proper-replaced cmp laws IsKey side proper at s here (sent_state base octets cmp now s) (c.rows_stay_rows.ensures.send s now rows)
    (c.declarations_stay.ensures.send s now rows) (c.registrations_stay.ensures.send s now rows)
    (rows-filtered cmp laws IsKey s (sent_state base octets cmp now s) (proper.keys.parts at s here) (λ r. row_sent base octets cmp now s r) (c.each_key_after_send.ensures s now rows)))

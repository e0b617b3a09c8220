use Rattle.std.proofs.Common.{false, refl}
use Rattle.std.specs.Prelude.{slice_get}
use Rattle.mrp_participant.specs.{Lookup.find, Row.after_leave, State.after, State.due_state, State.is_active, State.is_periodic_due, State.leave_all_state, State.left_keys, State.left_state, State.periodic_state, State.takes}
use Rattle.msrp_codec.specs.Content.{Belongs, base_octets, octets_of}
use Rattle.msrp.specs.Part.{Part}
use Rattle.msrp.specs.{key_cmp, received_part, sent_part, told_by_receipt, left_key, with_port_at, with_told_port, with_part}
use Rattle.msrp.proofs.{Contents.each-changed, Contents.each-due, Contents.each-periodic, Contents.each-received, Contents.each-sent, Contents.left_own, Contents.own-changed, Contents.own-due, Contents.own-periodic, Contents.own-received, Contents.own-sent, Contents.own_row, Keeping.port_kept, ProperLemmas.proper-at, ProperLemmas.proper-replaced, ProperLemmas.proper-retold, ProperLemmas.ranges_at, Ranges.IsWithin, Ranges.range_from, Ranges.range_row, Telling.leaving_told}
use Rattle.msrp.proofs.laws.every_call_keeps_a_side_proper.Goals as goal

pub returns-clause-receive : goal.returns-clause-receive
returns-clause-receive c = λ now at pdu side belong fits proper.
    proper-at side (λ p. with_told_port at (with_part (received_part now pdu p.part) p) (told_by_receipt now pdu p.part) side) (slice_get side.ports at) proper (λ p here.
    let s : Part = p.part in
    let t : Part = received_part now pdu s in
    let port = port_kept side proper.kept at p here in
    let law = c.each_key_after_receive.ensures s now pdu.leave_all pdu.events port.rows in
    proper-retold c.each_port_is_told.ensures side proper at p here c.a_place_for_each_key.ensures.registered t (told_by_receipt now pdu s)
    (c.rows_stay_rows.ensures.receive s now pdu.leave_all pdu.events port.rows)
    (own-received s t (after now s.leave_time) pdu.leave_all pdu.events port.contents belong law)
    (range_from t (each-received IsWithin s t (after now s.leave_time) pdu.leave_all pdu.events (range_row s (ranges_at side proper at p here)) fits law))
    (c.declarations_stay.ensures.receive s now pdu.leave_all pdu.events port.rows)
    (c.receive_tells_each_change.ensures.told s now pdu.leave_all pdu.events port.rows))

pub returns-clause-due : goal.returns-clause-due
returns-clause-due c = λ now at side proper.
    proper-at side (λ p. with_told_port at (with_part (due_state now p.part) p) (left_keys now p.part) side) (slice_get side.ports at) proper (λ p here.
    let s : Part = p.part in
    let t : Part = due_state now s in
    let port = port_kept side proper.kept at p here in
    let law = c.each_key_after_due.ensures s now port.rows in
    proper-retold c.each_port_is_told.ensures side proper at p here c.a_place_for_each_key.ensures.registered t (left_keys now s) (c.rows_stay_rows.ensures.due s now port.rows)
    (own-due s t now.0 (is_periodic_due now s) port.contents law)
    (range_from t (each-due IsWithin s t now.0 (is_periodic_due now s) (range_row s (ranges_at side proper at p here)) law))
    (c.declarations_stay.ensures.due s now port.rows) (c.due_tells_each_change.ensures.told s now port.rows))

pub returns-clause-leave_now : goal.returns-clause-leave_now
returns-clause-leave_now c = λ at key side proper.
    proper-at side (λ p. with_told_port at (with_part (left_state key_cmp key p.part) p) (left_key key p.part) side) (slice_get side.ports at) proper (λ p here.
    let s : Part = p.part in
    let t : Part = left_state key_cmp key s in
    let port = port_kept side proper.kept at p here in
    let law = c.one_key_changes.ensures.leave_due s key port.rows in
    let fit = range_row s (ranges_at side proper at p here) in
    proper-retold c.each_port_is_told.ensures side proper at p here c.a_place_for_each_key.ensures.registered t (left_key key s) (c.rows_stay_rows.ensures.leave_due s key port.rows)
    (own-changed s t key (after_leave (find key_cmp key s.rows)) port.contents law (left_own Belongs key (find key_cmp key s.rows) (own_row s port.contents key)))
    (range_from t (each-changed IsWithin s t key (after_leave (find key_cmp key s.rows)) fit law (left_own IsWithin key (find key_cmp key s.rows) (fit key))))
    (c.declarations_stay.ensures.leave_due s key port.rows)
    (λ k. leaving_told s key k (c.what_is_asked_holds.ensures.leave_due s key port.rows k)))

pub returns-clause-leaveall_now : goal.returns-clause-leaveall_now
returns-clause-leaveall_now c = λ now at side proper.
    proper-at side (λ p. with_port_at at (with_part (leave_all_state now p.part) p) side) (slice_get side.ports at) proper (λ p here.
    let port = port_kept side proper.kept at p here in
    let fit = ranges_at side proper at p here in
    proper-replaced c.each_port_is_told.ensures side proper at p here (leave_all_state now p.part) port.rows
    (record { declared = port.contents.declared; registered = port.contents.registered }) (record { declared = fit.declared; registered = fit.registered }) (λ key. refl) (λ key. refl))

pub returns-clause-spoil : goal.returns-clause-spoil
returns-clause-spoil c = λ at side proper.
    proper-at side (λ p. let s : Part = p.part in with_port_at at (with_part (record s { sound = false }) p) side) (slice_get side.ports at) proper (λ p here.
    let s : Part = p.part in
    let port = port_kept side proper.kept at p here in
    let fit = ranges_at side proper at p here in
    proper-replaced c.each_port_is_told.ensures side proper at p here (record s { sound = false }) port.rows
    (record { declared = port.contents.declared; registered = port.contents.registered }) (record { declared = fit.declared; registered = fit.registered }) (λ key. refl) (λ key. refl))

pub returns-clause-periodic_now : goal.returns-clause-periodic_now
returns-clause-periodic_now c = λ at side proper.
    proper-at side (λ p. with_port_at at (with_part (periodic_state p.part) p) side) (slice_get side.ports at) proper (λ p here.
    let s : Part = p.part in
    let t : Part = periodic_state s in
    let port = port_kept side proper.kept at p here in
    let law = c.each_key_after_periodic.ensures s in
    proper-replaced c.each_port_is_told.ensures side proper at p here t (c.rows_stay_rows.ensures.periodic_due s port.rows)
    (own-periodic s t port.contents law) (range_from t (each-periodic IsWithin s t (range_row s (ranges_at side proper at p here)) law))
    (c.declarations_stay.ensures.periodic_due s) (c.registrations_stay.ensures.periodic_due s))

pub returns-clause-send : goal.returns-clause-send
returns-clause-send c = λ now at side proper.
    proper-at side (λ p. with_port_at at (with_part (sent_part now p.part) p) side) (slice_get side.ports at) proper (λ p here.
    let s : Part = p.part in
    let t : Part = sent_part now s in
    let port = port_kept side proper.kept at p here in
    let law = c.each_key_after_send.ensures s now port.rows in
    proper-replaced c.each_port_is_told.ensures side proper at p here t (c.rows_stay_rows.ensures.send s now port.rows)
    (own-sent s t (is_active s.leave_all) (takes base_octets octets_of key_cmp s) (after now s.leave_time) port.contents law)
    (range_from t (each-sent IsWithin s t (is_active s.leave_all) (takes base_octets octets_of key_cmp s) (after now s.leave_time) (range_row s (ranges_at side proper at p here)) law))
    (c.declarations_stay.ensures.send s now port.rows) (c.registrations_stay.ensures.send s now port.rows))

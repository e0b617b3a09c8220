use Rattle.std.proofs.Common.{false, refl}
use Rattle.std.specs.Prelude.{slice_get}
use Rattle.mrp_participant.specs.State.{due_state, left_keys, left_state, leave_all_state, periodic_state, sent_state}
use Rattle.flat_side.specs.Part.{Part}
use Rattle.flat_side.specs.{said_events, received_part, told_by_receipt, with_told_part, with_part_at, left_key}
use Rattle.flat_side.proofs.{Keeping.KeyLaws, Keeping.kept-at, Keeping.kept-replaced, Keeping.kept-retold, Keeping.leaving_told, Keeping.rows-at, Keeping.request-keeps, SettlingLemmas.Laws, SettlingLemmas.settle-keeps}
use Rattle.flat_side.proofs.laws.every_call_keeps_a_side.Goals as goal

pub returns-clause-receive : goal.returns-clause-receive
returns-clause-receive g c = λ now at leave_all events side kept.
    let cmp = g.A.Key.Ord.cmp in
    let laws : KeyLaws cmp = record { order = g.met.A.Key.Ord.total; one = g.met.A.MrpApp.one_key; told = c.each_port_is_told.ensures } in
    kept-at cmp laws side (λ s. with_told_part cmp at (received_part cmp now leave_all events s) (told_by_receipt cmp now leave_all events s) side) (slice_get side.parts at) kept (λ s here rows.
    kept-retold cmp laws side kept at s here (received_part cmp now leave_all events s) (told_by_receipt cmp now leave_all events s)
    (c.declarations_stay.ensures.receive s now leave_all (said_events events) rows)
    (c.receive_tells_each_change.ensures.told s now leave_all (said_events events) rows)
    (c.rows_stay_rows.ensures.receive s now leave_all (said_events events) rows)) (rows-at cmp laws side at kept)

pub returns-clause-due : goal.returns-clause-due
returns-clause-due g c = λ now at side kept.
    let cmp = g.A.Key.Ord.cmp in
    let laws : KeyLaws cmp = record { order = g.met.A.Key.Ord.total; one = g.met.A.MrpApp.one_key; told = c.each_port_is_told.ensures } in
    kept-at cmp laws side (λ s. with_told_part cmp at (due_state now s) (left_keys now s) side) (slice_get side.parts at) kept (λ s here rows.
    kept-retold cmp laws side kept at s here (due_state now s) (left_keys now s)
    (c.declarations_stay.ensures.due s now rows) (c.due_tells_each_change.ensures.told s now rows) (c.rows_stay_rows.ensures.due s now rows)) (rows-at cmp laws side at kept)

pub returns-clause-leave_now : goal.returns-clause-leave_now
returns-clause-leave_now g c = λ at key side kept.
    let cmp = g.A.Key.Ord.cmp in
    let laws : KeyLaws cmp = record { order = g.met.A.Key.Ord.total; one = g.met.A.MrpApp.one_key; told = c.each_port_is_told.ensures } in
    kept-at cmp laws side (λ s. with_told_part cmp at (left_state cmp key s) (left_key cmp key s) side) (slice_get side.parts at) kept (λ s here rows.
    kept-retold cmp laws side kept at s here (left_state cmp key s) (left_key cmp key s)
    (c.declarations_stay.ensures.leave_due s key rows)
    (λ v. leaving_told cmp laws s key v (c.what_is_asked_holds.ensures.leave_due s key rows v))
    (c.rows_stay_rows.ensures.leave_due s key rows)) (rows-at cmp laws side at kept)

pub returns-clause-leaveall_now : goal.returns-clause-leaveall_now
returns-clause-leaveall_now g c = λ now at side kept.
    let cmp = g.A.Key.Ord.cmp in
    let laws : KeyLaws cmp = record { order = g.met.A.Key.Ord.total; one = g.met.A.MrpApp.one_key; told = c.each_port_is_told.ensures } in
    kept-at cmp laws side (λ s. with_part_at at (leave_all_state now s) side) (slice_get side.parts at) kept (λ s here rows.
    kept-replaced cmp laws side kept at s here (leave_all_state now s) rows (λ key. refl) (λ key. refl)) (rows-at cmp laws side at kept)

pub returns-clause-periodic_now : goal.returns-clause-periodic_now
returns-clause-periodic_now g c = λ at side kept.
    let cmp = g.A.Key.Ord.cmp in
    let laws : KeyLaws cmp = record { order = g.met.A.Key.Ord.total; one = g.met.A.MrpApp.one_key; told = c.each_port_is_told.ensures } in
    kept-at cmp laws side (λ s. with_part_at at (periodic_state s) side) (slice_get side.parts at) kept (λ s here rows.
    kept-replaced cmp laws side kept at s here (periodic_state s) (c.rows_stay_rows.ensures.periodic_due s rows)
    (c.declarations_stay.ensures.periodic_due s) (c.registrations_stay.ensures.periodic_due s)) (rows-at cmp laws side at kept)

pub returns-clause-spoil : goal.returns-clause-spoil
returns-clause-spoil g c = λ at side kept.
    let cmp = g.A.Key.Ord.cmp in
    let laws : KeyLaws cmp = record { order = g.met.A.Key.Ord.total; one = g.met.A.MrpApp.one_key; told = c.each_port_is_told.ensures } in
    kept-at cmp laws side (λ (s : Part g.row.A-Key.Denot). with_part_at at (record s { sound = false }) side) (slice_get side.parts at) kept (λ s here rows.
    kept-replaced cmp laws side kept at s here (record s { sound = false }) rows (λ key. refl) (λ key. refl)) (rows-at cmp laws side at kept)

pub returns-clause-send : goal.returns-clause-send
returns-clause-send g c = λ now at side kept.
    let cmp = g.A.Key.Ord.cmp in
    let base = g.A.MrpApp.base in
    let octets = g.A.MrpApp.octets in
    let laws : KeyLaws cmp = record { order = g.met.A.Key.Ord.total; one = g.met.A.MrpApp.one_key; told = c.each_port_is_told.ensures } in
    kept-at cmp laws side (λ s. with_part_at at (sent_state base octets cmp now s) side) (slice_get side.parts at) kept (λ s here rows.
    kept-replaced cmp laws side kept at s here (sent_state base octets cmp now s) (c.rows_stay_rows.ensures.send s now rows)
    (c.declarations_stay.ensures.send s now rows) (c.registrations_stay.ensures.send s now rows)) (rows-at cmp laws side at kept)

pub returns-clause-settle : goal.returns-clause-settle
returns-clause-settle g c = λ at side kept.
    let acts : Laws g.A.Key.Ord.cmp = record {
      declare_rows = λ s key. c.rows_stay_rows.ensures.declare s key tt;
      withdraw_rows = λ s key. c.rows_stay_rows.ensures.withdraw s key;
      declare_asked = λ s key. c.what_is_asked_holds.ensures.declare s key tt;
      withdraw_asked = λ s key. c.what_is_asked_holds.ensures.withdraw s key;
      declare_stays = λ s key. c.registrations_stay.ensures.declare s key tt;
      withdraw_stays = λ s key. c.registrations_stay.ensures.withdraw s key;
    } in
    settle-keeps g.A.Key.Ord.cmp (record { order = g.met.A.Key.Ord.total; one = g.met.A.MrpApp.one_key; told = c.each_port_is_told.ensures }) acts at side kept

pub returns-clause-request : goal.returns-clause-request
returns-clause-request g c = λ key declared side kept.
    request-keeps g.A.Key.Ord.cmp (record { order = g.met.A.Key.Ord.total; one = g.met.A.MrpApp.one_key; told = c.each_port_is_told.ensures })
    c.each_key_awaits.ensures.marked c.each_key_awaits.ensures.cleared c.keys_stay_ascending.ensures.marked c.keys_stay_ascending.ensures.cleared key side kept declared

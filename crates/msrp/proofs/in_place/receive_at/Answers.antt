use Rattle.std.proofs.Common.{◌≡◌, ◌&&◌, true, List, [], if◌then◌else◌, length, ap, sym, ◌∙◌, arith}
use Rattle.std.specs.Prelude.{slice_get, Some}
use Rattle.std.specs.List.{list_any}
use Rattle.srp_base.proofs.{Arithmetic.on_err, Lists.each-get, Options.one_some}
use Rattle.mrp_participant.specs.State.{AreRows, changed_keys}
use Rattle.attribute_propagation.specs.Ports.{keys_in}
use Rattle.msrp_codec.specs.declared.pdu.MsrpKey.{MsrpKey}
use Rattle.msrp.specs.PortState.{PortState}
use Rattle.msrp.specs.{key_cmp, received_part, same_content, told_by_receipt, are_counted, PortHolding, ports_in, is_domain, known_keys, told_sets}
use Rattle.msrp.proofs.{Contents.MsrpHeard, InPlace.fewer, InPlace.known_there, InPlace.port_is, InPlace.same_states, InPlace.state_is, InPlace.told_heard, InPlace.told_is}
use Rattle.msrp.proofs.in_place.receive_at.Goals as goal

pub returns-in_err-told-clause-ports : goal.returns-in_err-told-clause-ports
returns-in_err-told-clause-ports c =
    on_err c.from_residual-in_err-told.result
    (same_states c.args.ports.now.items c.args.at c.index_mut.result.now c.receive.new.self c.index_mut.ensures.value c.in_err-told.ensures.err)

pub tell-requires-clause-room : goal.tell-requires-clause-room
tell-requires-clause-room c =
    let x : PortHolding = c.index_mut.result.now in
    let here : slice_get c.args.ports.now.items c.args.at ≡ Some x = port_is c.args.ports.now.items c.args.at x c.requires.place c.index_mut.ensures.value in
    let told : c.as_slice-3.result.now ≡ told_by_receipt c.args.now (record { leave_all = c.args.msgs.now.leave_all; events = c.args.msgs.now.events }) x.state.part =
    c.as_slice-3.ensures ∙ (c.in_ok-told.ensures.keys ∙ ap (λ (p : PortState). changed_keys key_cmp same_content x.state.part.rows p.part.rows) c.in_ok-told.ensures.after) in
    let rows : AreRows key_cmp x.state.part.rows
    = each-get (λ (p : PortState). AreRows key_cmp p.part.rows) (ports_in c.args.ports.now.items) c.args.at x.state c.requires.rows
    (state_is c.args.ports.now.items c.args.at x here) in
    let count : length c.as_slice-4.result.now ≡ c.len-2.result = omega (arith, c.as_slice-4.ensures.len, c.len-2.ensures) in
    fewer _ _ c.room_to_tell.new.sets.items
    (omega (arith, ap (λ (ks : List MsrpKey). length ks) told, c.told_keys_are_few.ensures.receive x.state.part c.args.now c.args.msgs.now.leave_all c.args.msgs.now.events rows, c.len.ensures, count))
    c.in_ok-room_to_tell.ensures.room

pub returns-clause-ok : goal.returns-clause-ok
returns-clause-ok c =
    let x : PortHolding = c.index_mut.result.now in
    let here : slice_get c.args.ports.now.items c.args.at ≡ Some x = port_is c.args.ports.now.items c.args.at x c.requires.place c.index_mut.ensures.value in
    let look : slice_get c.args.ports.now.items c.args.at ≡ Some c.port.result.now = ap (λ xs. slice_get xs c.args.at) (sym c.as_slice.ensures.value) ∙ c.port.ensures in
    let told : c.as_slice-3.result.now ≡ told_by_receipt c.args.now (record { leave_all = c.args.msgs.now.leave_all; events = c.args.msgs.now.events }) x.state.part =
    c.as_slice-3.ensures ∙ (c.in_ok-told.ensures.keys ∙ ap (λ (p : PortState). changed_keys key_cmp same_content x.state.part.rows p.part.rows) c.in_ok-told.ensures.after) in
    let rows : AreRows key_cmp x.state.part.rows
    = each-get (λ (p : PortState). AreRows key_cmp p.part.rows) (ports_in c.args.ports.now.items) c.args.at x.state c.requires.rows
    (state_is c.args.ports.now.items c.args.at x here) in
    let domain : c.domain-domain.result ≡ x.state.domain = c.domain-domain.ensures ∙ ap (λ (p : PortHolding). p.state.domain) (one_some _ _ _ look here) in
    let marked : keys_in c.tell.new.sets.items ≡ told_sets c.args.at x.state.domain c.as_slice-3.result.now c.as_slice-4.result.now (keys_in c.args.sets.now.items) =
    c.tell.ensures ∙ (ap (λ d. told_sets c.args.at d c.as_slice-3.result.now c.as_slice-4.result.now (keys_in c.room_to_tell.new.sets.items)) domain
    ∙ ap (λ s. told_sets c.args.at x.state.domain c.as_slice-3.result.now c.as_slice-4.result.now s) c.in_ok-room_to_tell.ensures.keys) in
    let is : c.as_slice-4.result.now ≡ (if are_counted x.state.domain && c.heard_domain.result then known_keys c.args.talks.now c.args.listens.now (ports_in c.args.ports.now.items) else []) =
    c.as_slice-4.ensures.value ∙ (c.in_ok-known.ensures.keys
    ∙ (ap (λ b. if b then known_keys c.args.talks.now c.args.listens.now (ports_in c.as_slice.result.now) else []) (c.heeds.ensures ∙ ap (λ d. are_counted d && c.heard_domain.result) domain)
    ∙ ap (λ ps. if are_counted x.state.domain && c.heard_domain.result then known_keys c.args.talks.now c.args.listens.now (ports_in ps) else []) c.as_slice.ensures.value)) in
    let only : list_any is_domain c.as_slice-3.result.now ≡ true → c.heard_domain.result ≡ true =
    λ h. c.heard_domain.ensures ∙ (ap (λ es. list_any (λ (e : MsrpHeard). is_domain e.1) es) c.as_slice-2.ensures
    ∙ told_heard c.args.now c.args.msgs.now.leave_all c.args.msgs.now.events x.state.part
    (c.receive_tells_each_change.ensures.only x.state.part c.args.now c.args.msgs.now.leave_all c.args.msgs.now.events rows)
    (c.each_key_after_receive.ensures x.state.part c.args.now c.args.msgs.now.leave_all c.args.msgs.now.events rows)
    (ap (λ ks. list_any is_domain ks) (sym told) ∙ h)) in
    λ moment.
    told_is c.args.ports.now.items c.args.sets.now.items c.tell.new.sets.items c.args.talks.now c.args.listens.now moment c.args.at x c.receive.new.self
    (received_part c.args.now (record { leave_all = c.args.msgs.now.leave_all; events = c.args.msgs.now.events }))
    c.as_slice-3.result.now (told_by_receipt c.args.now (record { leave_all = c.args.msgs.now.leave_all; events = c.args.msgs.now.events }))
    c.as_slice-4.result.now c.requires.place c.index_mut.ensures.value c.in_ok-told.ensures.after told
    (known_there x.state.domain c.as_slice-3.result.now c.heard_domain.result c.as_slice-4.result.now (known_keys c.args.talks.now c.args.listens.now (ports_in c.args.ports.now.items)) only is) marked

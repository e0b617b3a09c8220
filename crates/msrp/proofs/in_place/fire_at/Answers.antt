use Rattle.std.proofs.Common.{◌≡◌, ◌&&◌, true, List, [], if◌then◌else◌, length, ap, sym, ◌∙◌, arith}
use Rattle.std.specs.Prelude.{slice_get, Some}
use Rattle.std.specs.List.{list_any}
use Rattle.srp_base.proofs.{Arithmetic.on_err, Options.one_some, Options.some_is}
use Rattle.mrp_participant.specs.State.{due_count, due_state, left_keys}
use Rattle.attribute_propagation.specs.Ports.{count_of, keys_in}
use Rattle.msrp_codec.specs.declared.pdu.MsrpKey.{MsrpKey}
use Rattle.msrp.specs.Part.{Part}
use Rattle.msrp.specs.{are_counted, PortHolding, ports_in, is_domain, is_domain_leaving, known_keys, told_sets}
use Rattle.msrp.proofs.InPlace.{fewer, known_there, left_leaving, port_is, same_states, state_is, told_is}
use Rattle.msrp.proofs.in_place.fire_at.Goals as goal

pub returns-in_err-fired-clause-ports : goal.returns-in_err-fired-clause-ports
returns-in_err-fired-clause-ports c =
    on_err c.from_residual-in_err-fired.result
    (same_states c.args.ports.now.items c.args.at c.index_mut.result.now c.due.new.self c.index_mut.ensures.value c.in_err-fired.ensures.err)

pub tell-requires-clause-room : goal.tell-requires-clause-room
tell-requires-clause-room c =
    let x : PortHolding = c.index_mut.result.now in
    let here : slice_get c.args.ports.now.items c.args.at ≡ Some x = port_is c.args.ports.now.items c.args.at x c.requires.place c.index_mut.ensures.value in
    let look_2 : slice_get c.args.ports.now.items c.args.at ≡ Some c.port-2.result.now = ap (λ xs. slice_get xs c.args.at) (sym c.as_slice.ensures.value) ∙ c.port-2.ensures in
    let told : c.as_slice-2.result.now ≡ left_keys c.args.now x.state.part = c.as_slice-2.ensures ∙ c.in_ok-fired.ensures.keys in
    let rows : c.rows-rows.result ≡ length x.state.part.rows =
    c.rows-rows.ensures ∙ (ap (λ (s : Part). length s.rows) c.part.ensures ∙ ap (λ (p : PortHolding). length p.state.part.rows) (one_some _ _ _ look_2 here)) in
    let count : length c.as_slice-3.result.now ≡ c.len.result = omega (arith, c.as_slice-3.ensures.len, c.len.ensures) in
    fewer _ _ c.room_to_tell.new.sets.items
    (omega (arith, ap (λ (ks : List MsrpKey). length ks) told, c.told_keys_are_few.ensures.due x.state.part c.args.now, rows, count)) c.in_ok-room_to_tell.ensures.room

pub returns-clause-ok : goal.returns-clause-ok
returns-clause-ok c =
    let x : PortHolding = c.index_mut.result.now in
    let here : slice_get c.args.ports.now.items c.args.at ≡ Some x = port_is c.args.ports.now.items c.args.at x c.requires.place c.index_mut.ensures.value in
    let look : slice_get c.args.ports.now.items c.args.at ≡ Some c.port.result.now = ap (λ xs. slice_get xs c.args.at) (sym c.as_slice.ensures.value) ∙ c.port.ensures in
    let look_3 : slice_get c.args.ports.now.items c.args.at ≡ Some c.port-3.result.now = ap (λ xs. slice_get xs c.args.at) (sym c.as_slice.ensures.value) ∙ c.port-3.ensures in
    let told : c.as_slice-2.result.now ≡ left_keys c.args.now x.state.part = c.as_slice-2.ensures ∙ c.in_ok-fired.ensures.keys in
    let domain : c.domain-domain.result ≡ x.state.domain = c.domain-domain.ensures ∙ ap (λ (p : PortHolding). p.state.domain) (one_some _ _ _ look here) in
    let marked : keys_in c.tell.new.sets.items ≡ told_sets c.args.at x.state.domain c.as_slice-2.result.now c.as_slice-3.result.now (keys_in c.args.sets.now.items) =
    c.tell.ensures ∙ (ap (λ d. told_sets c.args.at d c.as_slice-2.result.now c.as_slice-3.result.now (keys_in c.room_to_tell.new.sets.items)) domain
    ∙ ap (λ s. told_sets c.args.at x.state.domain c.as_slice-2.result.now c.as_slice-3.result.now s) c.in_ok-room_to_tell.ensures.keys) in
    let is : c.as_slice-3.result.now ≡ (if are_counted x.state.domain && c.may_leave.result then known_keys c.args.talks.now c.args.listens.now (ports_in c.args.ports.now.items) else []) =
    c.as_slice-3.ensures.value ∙ (c.in_ok-known.ensures.keys
    ∙ (ap (λ b. if b then known_keys c.args.talks.now c.args.listens.now (ports_in c.as_slice.result.now) else []) (c.heeds.ensures ∙ ap (λ d. are_counted d && c.may_leave.result) domain)
    ∙ ap (λ ps. if are_counted x.state.domain && c.may_leave.result then known_keys c.args.talks.now c.args.listens.now (ports_in ps) else []) c.as_slice.ensures.value)) in
    let only : list_any is_domain c.as_slice-2.result.now ≡ true → c.may_leave.result ≡ true =
    λ h. c.may_leave.ensures ∙ (ap (λ (s : Part). list_any is_domain_leaving s.rows) (c.part-2.ensures ∙ ap (λ (p : PortHolding). p.state.part) (one_some _ _ _ look_3 here))
    ∙ left_leaving c.args.now x.state.part (ap (λ ks. list_any is_domain ks) (sym told) ∙ h)) in
    λ moment.
    told_is c.args.ports.now.items c.args.sets.now.items c.tell.new.sets.items c.args.talks.now c.args.listens.now moment c.args.at x c.due.new.self (due_state c.args.now)
    c.as_slice-2.result.now (left_keys c.args.now) c.as_slice-3.result.now c.requires.place c.index_mut.ensures.value c.in_ok-fired.ensures.after told
    (known_there x.state.domain c.as_slice-2.result.now c.may_leave.result c.as_slice-3.result.now (known_keys c.args.talks.now c.args.listens.now (ports_in c.args.ports.now.items)) only is) marked

pub returns-clause-count : goal.returns-clause-count
returns-clause-count c =
    let x : PortHolding = c.index_mut.result.now in
    let here : slice_get c.args.ports.now.items c.args.at ≡ Some x = port_is c.args.ports.now.items c.args.at x c.requires.place c.index_mut.ensures.value in
    some_is (λ p. c.in_ok-fired.fired ≡ count_of (due_count c.args.now p.part)) _ x.state (state_is c.args.ports.now.items c.args.at x here) c.in_ok-fired.ensures.count

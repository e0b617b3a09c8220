use Rattle.std.proofs.Common.{◌≡◌, ◌&&◌, List, [], ◌∷◌, if◌then◌else◌, ap, sym, ◌∙◌}
use Rattle.std.specs.Prelude.{slice_get, Some}
use Rattle.srp_base.proofs.Options.{one_some, some_is}
use Rattle.mrp_participant.specs.{Lookup.find, Row.is_leaving_in, State.left_state}
use Rattle.attribute_propagation.specs.Ports.{keys_in}
use Rattle.msrp_codec.specs.declared.pdu.MsrpKey.{MsrpKey}
use Rattle.msrp.specs.{key_cmp, are_counted, PortHolding, ports_in, known_keys, told_sets, left_key}
use Rattle.msrp.proofs.InPlace.{known_there, port_is, state_is, told_is}
use Rattle.msrp.proofs.in_place.leave_at.Goals as goal

pub returns-clause-ok : goal.returns-clause-ok
returns-clause-ok c =
    let x : PortHolding = c.index_mut.result.now in
    let here : slice_get c.args.ports.now.items c.args.at ≡ Some x = port_is c.args.ports.now.items c.args.at x c.requires.place c.index_mut.ensures.value in
    let look : slice_get c.args.ports.now.items c.args.at ≡ Some c.port.result.now = ap (λ xs. slice_get xs c.args.at) (sym c.as_slice.ensures.value) ∙ c.port.ensures in
    let look_2 : slice_get c.args.ports.now.items c.args.at ≡ Some c.port-2.result.now = ap (λ xs. slice_get xs c.args.at) (sym c.as_slice.ensures.value) ∙ c.port-2.ensures in
    let domain : c.domain-domain.result ≡ x.state.domain = c.domain-domain.ensures ∙ ap (λ (p : PortHolding). p.state.domain) (one_some _ _ _ look here) in
    let told : c.told_where-told.result.now ≡ left_key c.args.key x.state.part =
    c.told_where-told.ensures ∙ (ap (λ (ks : List MsrpKey). if c.is_leaving-was.result then ks else []) c.as_slice-2.ensures
    ∙ (ap (λ b. if b then c.args.key ∷ [] else []) c.is_leaving-was.ensures ∙ ap (λ (p : PortHolding). left_key c.args.key p.state.part) (one_some _ _ _ look_2 here))) in
    let marked : keys_in c.tell.new.sets.items ≡ told_sets c.args.at x.state.domain c.told_where-told.result.now c.as_slice-3.result.now (keys_in c.args.sets.now.items) =
    c.tell.ensures ∙ (ap (λ d. told_sets c.args.at d c.told_where-told.result.now c.as_slice-3.result.now (keys_in c.room_to_tell.new.sets.items)) domain
    ∙ ap (λ s. told_sets c.args.at x.state.domain c.told_where-told.result.now c.as_slice-3.result.now s) c.in_ok-room_to_tell.ensures.keys) in
    let is : c.as_slice-3.result.now ≡ (if are_counted x.state.domain && c.any_domain.result then known_keys c.args.talks.now c.args.listens.now (ports_in c.args.ports.now.items) else []) =
    c.as_slice-3.ensures.value ∙ (c.in_ok-known.ensures.keys
    ∙ (ap (λ b. if b then known_keys c.args.talks.now c.args.listens.now (ports_in c.as_slice.result.now) else []) (c.heeds.ensures ∙ ap (λ d. are_counted d && c.any_domain.result) domain)
    ∙ ap (λ ps. if are_counted x.state.domain && c.any_domain.result then known_keys c.args.talks.now c.args.listens.now (ports_in ps) else []) c.as_slice.ensures.value)) in
    λ moment.
    told_is c.args.ports.now.items c.args.sets.now.items c.tell.new.sets.items c.args.talks.now c.args.listens.now moment c.args.at x c.leave_due.new.self (left_state key_cmp c.args.key)
    c.told_where-told.result.now (left_key c.args.key) c.as_slice-3.result.now c.requires.place c.index_mut.ensures.value c.leave_due.ensures told
    (known_there x.state.domain c.told_where-told.result.now c.any_domain.result c.as_slice-3.result.now (known_keys c.args.talks.now c.args.listens.now (ports_in c.args.ports.now.items))
    (λ h. c.any_domain.ensures ∙ h) is) marked

pub returns-clause-was : goal.returns-clause-was
returns-clause-was c =
    let x : PortHolding = c.index_mut.result.now in
    let here : slice_get c.args.ports.now.items c.args.at ≡ Some x = port_is c.args.ports.now.items c.args.at x c.requires.place c.index_mut.ensures.value in
    let look_2 : slice_get c.args.ports.now.items c.args.at ≡ Some c.port-2.result.now = ap (λ xs. slice_get xs c.args.at) (sym c.as_slice.ensures.value) ∙ c.port-2.ensures in
    some_is (λ p. c.is_leaving-was.result ≡ is_leaving_in (find key_cmp c.args.key p.part.rows)) _ x.state (state_is c.args.ports.now.items c.args.at x here)
    (c.is_leaving-was.ensures ∙ ap (λ (p : PortHolding). is_leaving_in (find key_cmp c.args.key p.state.part.rows)) (one_some _ _ _ look_2 here))

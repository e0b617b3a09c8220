use Rattle.std.proofs.Common.{◌≡◌, ◌≤◌, ◌∙◌, length, List, ap, sym, subst}
use Rattle.srp_base.proofs.{Lists.each-get, Arithmetic.on_err}
use Rattle.mrp_participant.specs.State.{AreRows, changed_keys, received_state}
use Rattle.attribute_propagation.specs.Ports.{marked_elsewhere}
use Rattle.flat_side.specs.Part.{Part}
use Rattle.flat_side.specs.{same_content}
use Rattle.flat_side.proofs.Changing.{fewer, part_is, same_states, state_is, told_is}
use Rattle.flat_side.proofs.port.receive_at.Given as given
use Rattle.flat_side.proofs.port.receive_at.Goals as goal

pub returns-in_err-told-clause-parts : goal.returns-in_err-told-clause-parts
returns-in_err-told-clause-parts g c =
    on_err c.from_residual-in_err-told.result
    (same_states c.args.parts.now.items c.args.at c.index_mut.result.now c.receive.new.self c.index_mut.ensures.value c.in_err-told.ensures.err)

-- what is told
told : (g : given.Over) (c : goal.After-as_slice g) → c.as_slice.result.now ≡ changed_keys g.A.Key.Ord.cmp same_content c.index_mut.result.now.state.rows
    (received_state g.A.Key.Ord.cmp c.args.now c.args.msgs.now.leave_all c.args.msgs.now.events c.index_mut.result.now.state).rows
told g c =
    c.as_slice.ensures ∙ (c.in_ok-told.ensures.keys
    ∙ ap (λ (t : Part g.row.A-Key.Denot). changed_keys g.A.Key.Ord.cmp same_content c.index_mut.result.now.state.rows t.rows) c.in_ok-told.ensures.after)

pub tell_elsewhere-requires : goal.tell_elsewhere-requires
tell_elsewhere-requires g c =
    let here = state_is c.args.parts.now.items c.args.at c.index_mut.result.now (part_is c.args.parts.now.items c.args.at c.index_mut.result.now c.requires.place c.index_mut.ensures.value) in
    let rows : AreRows g.A.Key.Ord.cmp c.index_mut.result.now.state.rows = each-get (λ (s : Part g.row.A-Key.Denot). AreRows g.A.Key.Ord.cmp s.rows) _ _ _ c.requires.rows here in
    let few : length c.as_slice.result.now ≤ length c.args.msgs.now.events =
    subst (λ (keys : List g.row.A-Key.Denot). length keys ≤ length c.args.msgs.now.events) (sym (told g c))
    (c.told_keys_are_few.ensures.receive c.index_mut.result.now.state c.args.now c.args.msgs.now.leave_all c.args.msgs.now.events rows) in
    fewer (length c.as_slice.result.now) c.len.result c.room_everywhere.new.sets.items (subst (λ n. length c.as_slice.result.now ≤ n) (sym c.len.ensures) few) c.in_ok-room_everywhere.ensures.room

pub returns-clause-ok : goal.returns-clause-ok
returns-clause-ok g c = λ own.
    told_is g.A.Key.Ord.cmp c.args.parts.now.items c.args.sets.now.items c.tell_elsewhere.new.sets.items own c.args.at c.index_mut.result.now c.receive.new.self
    (received_state g.A.Key.Ord.cmp c.args.now c.args.msgs.now.leave_all c.args.msgs.now.events) c.as_slice.result.now
    (λ s. changed_keys g.A.Key.Ord.cmp same_content s.rows (received_state g.A.Key.Ord.cmp c.args.now c.args.msgs.now.leave_all c.args.msgs.now.events s).rows)
    c.requires.place c.index_mut.ensures.value c.in_ok-told.ensures.after
    (c.as_slice.ensures ∙ (c.in_ok-told.ensures.keys
    ∙ ap (λ (t : Part g.row.A-Key.Denot). changed_keys g.A.Key.Ord.cmp same_content c.index_mut.result.now.state.rows t.rows) c.in_ok-told.ensures.after))
    (c.tell_elsewhere.ensures ∙ ap (λ sets. marked_elsewhere g.A.Key.Ord.cmp c.args.at c.as_slice.result.now sets) c.in_ok-room_everywhere.ensures.keys)

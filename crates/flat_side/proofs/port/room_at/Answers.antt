use Rattle.std.proofs.Common.{◌≡◌, ◌≤◌, ◌∙◌, length, List, ap, sym, subst}
use Rattle.srp_base.proofs.Arithmetic.{on_ok}
use Rattle.attribute_propagation.specs.{Dirty.KeySet, Ports.HasRoom, Ports.keys_at, Ports.keys_in, Ports.keys_or_none}
use Rattle.flat_side.specs.{HasPortRoom}
use Rattle.flat_side.proofs.Changing.{same_states, set_holds}
use Rattle.flat_side.proofs.port.room_at.Goals as goal

pub returns-in_err-rows-clause-parts : goal.returns-in_err-rows-clause-parts
returns-in_err-rows-clause-parts g c =
    same_states c.args.parts.now.items c.args.at c.index_mut.result.now c.part_room.new.part c.index_mut.ensures.value c.part_room.ensures.state

pub returns-clause-parts : goal.returns-clause-parts
returns-clause-parts g c =
    same_states c.args.parts.now.items c.args.at c.index_mut.result.now c.part_room.new.part c.index_mut.ensures.value c.part_room.ensures.state

pub returns-clause-room : goal.returns-clause-room
returns-clause-room g c =
    let awaits : length (keys_at c.args.at (keys_in c.room_everywhere.new.sets.items)) ≡ c.len-waiting.result =
    ap (λ (sets : List (List g.row.A-Key.Denot)). length (keys_at c.args.at sets)) c.room_everywhere.ensures.keys
    ∙ (ap (λ (sets : List (KeySet g.row.A-Key.Denot)). length (keys_at c.args.at (keys_in sets))) (sym c.as_slice.ensures.value)
    ∙ (ap (λ o. length (keys_or_none o)) c.set_at.ensures ∙ sym c.len-waiting.ensures)) in
    on_ok c.room_everywhere.result (λ room.
    set_holds (HasPortRoom (length (keys_at c.args.at (keys_in c.room_everywhere.new.sets.items))) c.room_everywhere.new.sets.items)
    c.args.parts.now.items c.args.at c.part_room.new.part c.requires.part
    (record {
      fires = c.in_ok-rows.ensures.ready;
      settles = subst (λ n. n ≤ c.part_room.new.part.spare) (sym awaits) c.in_ok-rows.ensures.spare;
      tells = subst (λ n. HasRoom n c.room_everywhere.new.sets.items) c.in_ok-rows.ensures.rows room;
    })) c.room_everywhere.ensures.room

use Rattle.std.proofs.Common.{◌++◌, ◌+◌, ◌∷◌, [], drop, sym, ap, ◌∙◌, List, ℕ, append_assoc, arith}
use Rattle.mrp_participant.specs.Lookup.{key_of}
use Rattle.world_core.specs.{is_registered_row, registered_vids}
use Rattle.world_core.proofs.{Picked.pick_none, Picked.pick_one, reservation.vids_of.Goals.in-Some+in_ok-push, reservation.vids_of.Goals.in_default}
use Rattle.world_core.proofs.reservation.vids_of.Goals as goal

pub loop-i-preserved : goal.loop-i-preserved
loop-i-preserved c =
    let rows = c.args.part.now.state.rows in
    let i = c.loop-i.i in
    elim c.match-registered_row.branch [
      | in-Some+in_ok-push w ↦ rw w.vids-is (rw w.in_ok-push.ensures.items
          (append_assoc c.loop-i.vids.items (w.in-Some.vid ∷ []) (registered_vids (drop (i + 1) rows))
          ∙ (ap (λ (vs : List ℕ). c.loop-i.vids.items ++ vs) (sym (pick_one is_registered_row key_of i rows w.in-Some.vid (omega arith) w.in-Some.ensures)) ∙ c.loop-i.invariant)))
      | in_default w ↦ rw w.vids-is
          (ap (λ (vs : List ℕ). c.loop-i.vids.items ++ vs) (sym (pick_none is_registered_row key_of i rows (omega arith) (λ d. w.in_default.ensures d))) ∙ c.loop-i.invariant)
    ]

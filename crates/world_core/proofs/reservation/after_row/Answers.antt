use Rattle.std.proofs.Common.{sym}
use Rattle.std.specs.Prelude.{◌==◌}
use Rattle.mrp_participant.specs.Lookup.{key_of}
use Rattle.world_core.specs.{is_registered_row}
use Rattle.world_core.proofs.{Picked.pass_none, Picked.pass_same, Picked.pass_other, Picked.pass_end, reservation.after_row.Goals.else-next-vids-via-then-next-vids+else-eq, reservation.after_row.Goals.else-next-vids-via-else-next-vids}
use Rattle.world_core.proofs.reservation.after_row.Goals as goal

pub returns-in_default-clause-same : goal.returns-in_default-clause-same
returns-in_default-clause-same c =
    pass_none is_registered_row key_of (λ x y. x == y) c.args.vids.now c.args.next c.args.i c.args.part.now.state.rows c.requires.index (λ d. c.in_default.ensures d)

pub returns-then-eq-clause-same : goal.returns-then-eq-clause-same
returns-then-eq-clause-same c =
    pass_same is_registered_row key_of (λ x y. x == y) c.args.vids.now c.args.next c.args.i c.args.part.now.state.rows c.in-Some.vid
    c.index-vids-next.result c.requires.index c.if-next-vids.true c.in-Some.ensures c.index-vids-next.is (sym c.if-eq.ensures)

pub returns-else-next-vids-clause-other : goal.returns-else-next-vids-clause-other
returns-else-next-vids-clause-other c =
    elim c.else-next-vids.branch [
      | else-next-vids-via-then-next-vids+else-eq w ↦
          pass_other is_registered_row key_of (λ x y. x == y) c.args.vids.now c.args.next c.args.i c.args.part.now.state.rows c.in-Some.vid
          w.index-vids-next.result c.requires.index w.if-next-vids.true c.in-Some.ensures w.index-vids-next.is (sym w.if-eq.ensures)
      | else-next-vids-via-else-next-vids w ↦
          pass_end is_registered_row key_of (λ x y. x == y) c.args.vids.now c.args.next c.args.i c.args.part.now.state.rows c.in-Some.vid c.requires.index w.if-next-vids.false c.in-Some.ensures
    ]

use Rattle.std.proofs.Common.{get_or, sym}
use Rattle.std.specs.Prelude.{◌==◌}
use Rattle.std.proofs.lemmas.List.{get_or_default}
use Rattle.srp_base.specs.declared.numbers.StreamId.{StreamId}
use Rattle.stream_importance.specs.declared.entry.Entry.{Entry}
use Rattle.port_ledger.specs.Decision.{is_booked}
use Rattle.world_core.proofs.{Picked.pass_none, Picked.pass_same, Picked.pass_other, Picked.pass_end, reservation.after_entry.Goals.else-next-streams-via-then-next-streams+else-eq, reservation.after_entry.Goals.else-next-streams-via-else-next-streams}
use Rattle.world_core.proofs.reservation.after_entry.Goals as goal

pub returns-in_default-clause-same : goal.returns-in_default-clause-same
returns-in_default-clause-same c =
    pass_none is_booked (λ (x : Entry). x.want.stream) (λ x y. x.0 == y.0) c.args.streams.now c.args.next c.args.i c.args.ledger.now.book.entries c.requires.index (λ d. c.in_default.ensures d)

pub returns-then-eq-clause-same : goal.returns-then-eq-clause-same
returns-then-eq-clause-same c =
    let here : StreamId = get_or c.args.streams.now c.args.next (record { 0 = 0 }) in
    pass_same is_booked (λ (x : Entry). x.want.stream) (λ x y. x.0 == y.0) c.args.streams.now c.args.next
    c.args.i c.args.ledger.now.book.entries c.in-Some.stream here c.requires.index c.if-next-streams.true
    c.in-Some.ensures (get_or_default c.args.streams.now c.args.next (record { 0 = 0 }) here c.if-next-streams.true) (sym c.if-eq.ensures)

pub returns-else-next-streams-clause-other : goal.returns-else-next-streams-clause-other
returns-else-next-streams-clause-other c =
    elim c.else-next-streams.branch [
      | else-next-streams-via-then-next-streams+else-eq w ↦
          let here : StreamId = get_or c.args.streams.now c.args.next (record { 0 = 0 }) in
          pass_other is_booked (λ (x : Entry). x.want.stream) (λ x y. x.0 == y.0) c.args.streams.now c.args.next
          c.args.i c.args.ledger.now.book.entries c.in-Some.stream here c.requires.index w.if-next-streams.true
          c.in-Some.ensures (get_or_default c.args.streams.now c.args.next (record { 0 = 0 }) here w.if-next-streams.true) (sym w.if-eq.ensures)
      | else-next-streams-via-else-next-streams w ↦
          pass_end is_booked (λ (x : Entry). x.want.stream) (λ x y. x.0 == y.0) c.args.streams.now c.args.next c.args.i
          c.args.ledger.now.book.entries c.in-Some.stream c.requires.index w.if-next-streams.false c.in-Some.ensures
    ]

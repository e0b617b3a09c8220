use Rattle.std.proofs.Common.{◌∙◌, ap, refl}
use Rattle.turn_lock.specs.{Waits, at_stage}
use Rattle.turn_lock.proofs.TurnLemmas.{is_ready, turns}
use Rattle.turn_lock.proofs.turn.turn.Goals as goal

pub await_turn-requires-clause-seat : goal.await_turn-requires-clause-seat
await_turn-requires-clause-seat g c =
    let rests = c.requires.seat.1 in
    let drew = c.draw-ticket.ensures.draws rests.0 rests.1 in
    (c.draw-ticket.ensures.seat ∙ c.requires.seat.0, (at_stage rests.0 (Waits drew.0), drew.0, drew.2, refl, drew.1))

pub make_in_slot-answer-requires : goal.make_in_slot-answer-requires
make_in_slot-answer-requires g c =
    let rests = c.requires.seat.1 in
    let drew = c.draw-ticket.ensures.draws rests.0 rests.1 in
    let took = c.await_turn.ensures.takes (at_stage rests.0 (Waits drew.0)) drew.0 drew.2 refl in
    (c.await_turn.ensures.seat ∙ (c.draw-ticket.ensures.seat ∙ c.requires.seat.0), (took.kept, ap (λ m. m.1) took.now))

pub advance-requires-clause-seat : goal.advance-requires-clause-seat
advance-requires-clause-seat g c = (
  c.make_in_slot-answer.ensures.seat.0 ∙ (c.await_turn.ensures.seat ∙ (c.draw-ticket.ensures.seat ∙ c.requires.seat.0)),
  is_ready g.S.Sequential.does c.args.number c.draw-ticket.result c.args.ask c.args.seat.now.me c.draw-ticket.new.seat.me c.await_turn.new.seat.me
      c.make_in_slot-answer.new.seat.me c.make_in_slot-answer.result
      c.requires.seat.1 c.requires.number c.draw-ticket.ensures.draws c.await_turn.ensures.takes c.make_in_slot-answer.ensures.seat.1 c.make_in_slot-answer.ensures.makes,
)

pub returns-clause-turns : goal.returns-clause-turns
returns-clause-turns g c =
    turns g.S.Sequential.does c.args.number c.draw-ticket.result c.args.ask c.args.seat.now.me c.draw-ticket.new.seat.me c.await_turn.new.seat.me
    c.make_in_slot-answer.new.seat.me c.advance.new.seat.me c.make_in_slot-answer.result
    c.draw-ticket.ensures.draws c.await_turn.ensures.takes c.make_in_slot-answer.ensures.seat.1 c.make_in_slot-answer.ensures.makes c.advance.ensures.gives_on

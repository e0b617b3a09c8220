use Rattle.std.proofs.Common.{sym, subst}
use Rattle.turn_lock.specs.{Log, HasEndedAll}
use Rattle.turn_lock.proofs.CloseLemmas.{ends}
use Rattle.turn_lock.proofs.close.shut.Goals as goal

pub returns : goal.returns
returns g c = λ known is.
    let key = c.args.board.shared.key in
    subst (λ (h : Log g.row.S-Ask.Denot g.row.S-Answer.Denot). HasEndedAll g.S.Sequential.does key.start.value key.passes known c.take-kept.result.state h) (sym c.from_vec.ensures)
    (ends g.S.Sequential.does key.start.value key.passes _ _ c.args.seat.id c.args.seat.me c.requires.seat.1 c.close_with-closed.ensures.values.2 c.take-kept.result c.take-kept.ensures.value known is)

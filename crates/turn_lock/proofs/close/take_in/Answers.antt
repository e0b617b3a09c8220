use Rattle.std.proofs.Common.{arith, ◌∙◌, ap, sym, subst}
use Rattle.atomic_table.specs.Table.{Joins}
use Rattle.turn_lock.specs.{View, Spent, IsInTurn, taker}
use Rattle.turn_lock.proofs.DealLemmas.{takes_in}
use Rattle.turn_lock.proofs.close.take_in.Goals as goal

pub join_seat-requires : goal.join_seat-requires
join_seat-requires g c =
    let key = c.args.board.now.key in
    let words = c.requires.board.0 in
    let free = c.requires.seat.1 in
    let other = c.other.invariant in
    let first = ap (λ m. m.0) free.1 in
    let second = ap (λ m. m.0) other.me_is in (
      c.requires.seat.0,
      ap (λ p. p.lock.table) c.other.view_is ∙ c.requires.other,
      ap (λ m. m.1) other.me_is,
      omega arith,
      subst (λ (x : View g.row.S.Denot g.row.S-Ask.Denot g.row.S-Answer.Denot × View g.row.S.Denot g.row.S-Ask.Denot g.row.S-Answer.Denot).
          Joins (IsInTurn g.S.Sequential.does key.start.value key.passes) c.args.seat.now.id x.0 c.other.inside.seat.id x.1 (taker x.0 x.1) Spent) (λ i. (sym first i, sym second i))
          (takes_in g.S.Sequential.does key.start.value key.passes c.args.seat.now.id c.other.inside.seat.id free.0 other.known other.at_rest),
    )

use Rattle.std.proofs.Common.{arith, ◌≡◌, [], ◌∙◌, true, refl, ap, sym, subst}
use Rattle.atomic_table.specs.Table.{Splits}
use Rattle.turn_lock.specs.{Known, View, Living, Idle, IsInTurn, dealt_known, Seated, dealer, next_view, seen_by}
use Rattle.turn_lock.proofs.DealLemmas.{deals_on}
use Rattle.turn_lock.proofs.begin.deal_one.Goals as goal

pub split_seat-next-requires : goal.split_seat-next-requires
split_seat-next-requires g c =
    let from = c.requires.0 in
    let key = c.args.board.now.key in
    let terms = c.args.terms.now in
    let words = from.0.0 in
    let known : Known g.row.S.Denot g.row.S-Ask.Denot g.row.S-Answer.Denot = dealt_known terms.start.value terms.passes c.args.number in (
      from.2,
      omega arith,
      subst (λ (v : View g.row.S.Denot g.row.S-Ask.Denot g.row.S-Answer.Denot). Splits (IsInTurn g.S.Sequential.does key.start.value key.passes) c.args.seat.id v
          (dealer v) (next_view v)) (sym (ap (λ m. m.0) from.3))
          (deals_on g.S.Sequential.does key.start.value key.passes c.args.seat.id known refl refl c.requires.1),
    )

pub returns-clause-left : goal.returns-clause-left
returns-clause-left g c =
    let from = c.requires.0 in
    let terms = c.args.terms.now in
    let split = c.split_seat-next.ensures in
    let known : Known g.row.S.Denot g.row.S-Ask.Denot g.row.S-Answer.Denot
    = record { start = terms.start.value; passes = terms.passes; number = c.args.number; dealt = true; stage = Idle; seen = []; ended = [] } in
    let now : c.split_seat-next.new.seat.me ≡ (Living known, []) = split.2 ∙ ap (λ (m : Seated g.row.S.Denot g.row.S-Ask.Denot g.row.S-Answer.Denot). (dealer m.0, m.1)) from.3 in (
      record { known = known; me_is = now; at_rest = refl; start_is = refl; passes_are = refl; number_is = refl; none_ended = refl; in_range = (from.4, from.5) },
      split.0,
      ap (λ m. seen_by m.0) now,
    )

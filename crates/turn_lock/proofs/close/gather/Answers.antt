use Rattle.std.proofs.Common.{rules, ◌≡◌, ◌∷◌, [], ◌++◌, ◌∙◌, List, map, All, subst}
use Rattle.turn_lock.specs.{PassOf, ended_of, having_ended}
use Rattle.turn_lock.proofs.CloseLemmas.{took_one, all_front}
use Rattle.turn_lock.proofs.close.gather.Goals as goal

pub take_in-requires-clause-seat : goal.take_in-requires-clause-seat
take_in-requires-clause-seat g c =
    let free = c.requires.seat.1 in
    let taken = c.loop-other.invariant.1 free.0 free.1 in
    (c.loop-other.invariant.0 ∙ c.requires.seat.0, (having_ended free.0 taken.0, taken.1))

pub loop-other-preserved : goal.loop-other-preserved
loop-other-preserved g c =
    let other = c.in-Some.other in
    let left = c.pop.new.self.items in
    let popped : c.loop-other.others.items ≡ left ++ other ∷ [] = search rules in (
      c.take_in.ensures.seat ∙ c.loop-other.invariant.0,
      (λ known is.
          let taken = c.loop-other.invariant.1 known is in (
            ended_of other ∷ taken.0,
            c.take_in.ensures.takes (having_ended known taken.0) taken.1,
            took_one c.args.others.items left other taken.0
                (subst (λ (l : List (PassOf g.row.S.Denot g.row.S-Ask.Denot g.row.S-Answer.Denot)). map ended_of l ++ taken.0 ≡ map ended_of c.args.others.items) popped
                taken.2),
          )),
      all_front (λ (p : PassOf g.row.S.Denot g.row.S-Ask.Denot g.row.S-Answer.Denot). p.lock.table ≡ c.args.board.now.table_id) left other
          (subst (All (λ (p : PassOf g.row.S.Denot g.row.S-Ask.Denot g.row.S-Answer.Denot). p.lock.table ≡ c.args.board.now.table_id)) popped c.loop-other.invariant.2),
    )

pub returns-clause-takes : goal.returns-clause-takes
returns-clause-takes g c = λ known is.
    let taken = c.loop-other.invariant.1 known is in
    let none : c.loop-other.others.items ≡ [] = search rules in
    (taken.0, taken.1, subst (λ (l : List (PassOf g.row.S.Denot g.row.S-Ask.Denot g.row.S-Answer.Denot)). map ended_of l ++ taken.0 ≡ map ended_of c.args.others.items) none taken.2)

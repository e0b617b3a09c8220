use Rattle.std.proofs.Common.{rules, ◌≡◌, ⊎_elim, inl, inr, ◌≤◌, ◌==◌, ℕ, ◌∷◌, [], ◌++◌, ◌∙◌, List, map, All, true, sym, ap, subst}
use Rattle.std.proofs.lemmas.List.{append-nil}
use Rattle.std.specs.List.{list_any}
use Rattle.turn_lock.specs.{Log, PassOf, is_given, HasClosed, ended_of, having_ended}
use Rattle.turn_lock.proofs.CloseLemmas.{all_front, all_last, given_split, closes}
use Rattle.turn_lock.proofs.lock.TurnLock.end.Goals as goal

pub gather-requires-clause-seat : goal.gather-requires-clause-seat
gather-requires-clause-seat g c =
    let left = c.pop.new.self.items in
    let last = c.in-Some.last in
    let popped : c.args.passes.items ≡ left ++ last ∷ [] = search rules in
    let lock_is = all_last (λ (p : PassOf g.row.S.Denot g.row.S-Ask.Denot g.row.S-Answer.Denot). p.lock ≡ c.args.self) left last
    (subst (All (λ (p : PassOf g.row.S.Denot g.row.S-Ask.Denot g.row.S-Answer.Denot). p.lock ≡ c.args.self)) popped c.requires.locks) in
    let is = c.last_seat-seat.ensures.pass in
    (c.last_seat-seat.ensures.table ∙ (ap (λ l. l.table) lock_is ∙ sym (ap (λ l. l.table) c.self.view_is)), (is.known, is.me_is))

pub gather-requires-clause-others : goal.gather-requires-clause-others
gather-requires-clause-others g c = λ k d below.
    let left = c.pop.new.self.items in
    let last = c.in-Some.last in
    let popped : c.args.passes.items ≡ left ++ last ∷ [] = search rules in
    let locks = all_front (λ (p : PassOf g.row.S.Denot g.row.S-Ask.Denot g.row.S-Answer.Denot). p.lock ≡ c.args.self) left last
    (subst (All (λ (p : PassOf g.row.S.Denot g.row.S-Ask.Denot g.row.S-Answer.Denot). p.lock ≡ c.args.self)) popped c.requires.locks) in
    ap (λ l. l.table) (locks k d below) ∙ sym (ap (λ l. l.table) c.self.view_is)

pub shut-requires-clause-seat : goal.shut-requires-clause-seat
shut-requires-clause-seat g c =
    let left = c.pop.new.self.items in
    let last = c.in-Some.last in
    let popped : c.args.passes.items ≡ left ++ last ∷ [] = search rules in
    let lock_is = all_last (λ (p : PassOf g.row.S.Denot g.row.S-Ask.Denot g.row.S-Answer.Denot). p.lock ≡ c.args.self) left last
    (subst (All (λ (p : PassOf g.row.S.Denot g.row.S-Ask.Denot g.row.S-Answer.Denot). p.lock ≡ c.args.self)) popped c.requires.locks) in
    let is = c.last_seat-seat.ensures.pass in
    let taken = c.gather.ensures.takes is.known is.me_is in
    let ended : taken.0 ++ is.known.ended ≡ map ended_of left = (λ i. taken.2 i ++ is.none_ended i) ∙ append-nil (map ended_of left) in
    let count : c.self.inside.board.shared.key.passes ≡ c.args.self.passes = c.self.invariant.1 ∙ ap (λ l. l.passes) c.self.view_is in (
      c.gather.ensures.seat ∙ (c.last_seat-seat.ensures.table ∙ (ap (λ l. l.table) lock_is ∙ sym (ap (λ l. l.table) c.self.view_is))),
      (
        having_ended is.known taken.0,
        taken.1,
        is.at_rest,
        (λ number one low.
            ⊎_elim (λ same. inl (is.number_is ∙ same))
            (λ there. inr (subst (λ (l : List (ℕ × Log g.row.S-Ask.Denot g.row.S-Answer.Denot)). list_any
            (λ (p : ℕ × Log g.row.S-Ask.Denot g.row.S-Answer.Denot). p.0 == number) l ≡ true) (sym ended) there))
            (given_split left last number (subst (λ (l : List (PassOf g.row.S.Denot g.row.S-Ask.Denot g.row.S-Answer.Denot)). is_given l number ≡ true) popped
            (c.requires.given number one (subst (λ (n : ℕ). number ≤ n) count low))))),
      ),
    )

pub returns : goal.returns
returns g c =
    let left = c.pop.new.self.items in
    let last = c.in-Some.last in
    let popped : c.args.passes.items ≡ left ++ last ∷ [] = search rules in
    let is = c.last_seat-seat.ensures.pass in
    let taken = c.gather.ensures.takes is.known is.me_is in
    let ended : taken.0 ++ is.known.ended ≡ map ended_of left = (λ i. taken.2 i ++ is.none_ended i) ∙ append-nil (map ended_of left) in
    let key = c.self.inside.board.shared.key in
    let count : c.args.self.passes ≡ key.passes = sym (c.self.invariant.1 ∙ ap (λ l. l.passes) c.self.view_is) in
    subst (λ (l : List (PassOf g.row.S.Denot g.row.S-Ask.Denot g.row.S-Answer.Denot)). HasClosed g.S.Sequential.does c.args.self l c.shut.result.state c.shut.result.history) (sym popped)
    (closes g.S.Sequential.does key.start.value key.passes c.args.self left last (having_ended is.known taken.0) c.shut.result.state c.shut.result.history
    (sym (ap (λ l. l.start) c.self.view_is)) count is.number_is (c.last_seat-seat.ensures.seen is.known is.me_is) ended
    (λ number one low. subst (λ (l : List (PassOf g.row.S.Denot g.row.S-Ask.Denot g.row.S-Answer.Denot)). is_given l number ≡ true) popped (c.requires.given number one low))
    (c.shut.ensures (having_ended is.known taken.0) taken.1))

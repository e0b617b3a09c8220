-- The pieces of one turn, put together.
use Rattle.std.proofs.Common.{◌≡◌, ◌≢◌, ◌==◌, ℕ, ◌%◌, ◌^◌, [], ◌∷◌, ◌++◌, Bool, cond, eq-eqb, ne_eqb, sym, refl, ap, ◌∙◌, subst, Result, Ok, Err, IfOk, OnErr}
use Rattle.std.proofs.lemmas.{List.append-nil, List.Elements.filter-append}
use mathlib.Core.Option.{none}
use Rattle.atomic_table.specs.Table.{step}
use Rattle.turn_lock.specs.{Kept, Known, Stage, Waits, Holds, Living, Entry, Log, number_of, calls_of, BeginsWith, last_state, IsHistory, Seated, at_stage, having_seen, looked, Took, Goes_on, Stands, HasCalled, HasLooked, Rests, Awaits, Draws, Makes, Lends, Takes, IsReady, GivesOn}
use Rattle.turn_lock.specs.Turns.{Turns}
use Rattle.turn_lock.proofs.{HistoryLemmas.last-append, HistoryLemmas.said_last, SeatLemmas.known_or, StepLemmas.elim_waits}

module _ {Ask Answer : Type 0} where
  -- the calls of a number in one more call of it, and in one of another
  pub calls_mine : (history : Log Ask Answer) (number : ℕ) (ask : Ask) (answer : Answer)
      → calls_of number (history ++ (number, ask, answer) ∷ []) ≡ calls_of number history ++ (number, ask, answer) ∷ []
  calls_mine history number ask answer =
      filter-append (λ (e : Entry Ask Answer). number_of e == number) history ((number, ask, answer) ∷ [])
      ∙ ap (λ (b : Bool). calls_of number history ++ cond b ((number, ask, answer) ∷ []) []) (eq-eqb number number refl)

  pub calls_others : (n number : ℕ) (ask : Ask) (answer : Answer) → n ≢ number → calls_of n ((number, ask, answer) ∷ []) ≡ []
  calls_others n number ask answer apart = ap (λ (b : Bool). cond b ((number, ask, answer) ∷ []) []) (ne_eqb number n (λ e. apart (sym e)))

module _ {S Ask Answer : Type 0} (does : S → Ask → Answer × S) where
  one_ticket_of : (me : Seated S Ask Answer) (ticket : ℕ) → Awaits me ticket → (known : Known S Ask Answer) (t : ℕ) → me ≡ (Living known, []) → known.stage ≡ Waits t → ticket ≡ t % 2 ^ 64
  one_ticket_of me ticket waits known t is stage =
      let same : waits.0 ≡ known = ap (λ (m : Seated S Ask Answer). known_or known m.0) (sym waits.2 ∙ is) in
      waits.4 ∙ ap (λ (x : ℕ). x % 2 ^ 64) (ap (elim_waits t) (sym waits.3 ∙ (ap (λ (k : Known S Ask Answer). k.stage) same ∙ stage)))

  looked_at : (before after : Seated S Ask Answer) (found : ℕ) → looked does (step 0 0 0 0 none) before found after → (known : Known S Ask Answer) (t : ℕ)
      → before ≡ (Living known, []) → known.stage ≡ Waits t
      → (found ≡ t % 2 ^ 64 → Took does known t after) × (found ≢ t % 2 ^ 64 → after ≡ (Living known, []))
  looked_at before after found told known t is stage =
      subst (λ (m : Seated S Ask Answer). looked does (step 0 0 0 0 none) m found after) is told t stage refl

  -- a look that finds the own ticket takes the slot
  pub takes_it : (before after : Seated S Ask Answer) (found ticket : ℕ) → looked does (step 0 0 0 0 none) before found after → Awaits before ticket → found ≡ ticket → Takes does before after
  takes_it before after found ticket told waits own known t is stage = (looked_at before after found told known t is stage).0 (own ∙ one_ticket_of before ticket waits known t is stage)

  called : (known : Known S Ask Answer) (number : ℕ) (ask : Ask) (t : ℕ) (taken : Seated S Ask Answer) (took : Took does (at_stage known (Waits t)) t taken) (left : Kept S Ask Answer)
      (answer : Answer) → known.number ≡ number
      → (left.history.items ≡ took.kept.history.items ++ (number, ask, answer) ∷ []) → (does took.kept.state ask ≡ (answer, left.state))
      → HasCalled does known.start number known.seen ask answer left.history.items
  called known number ask t taken took left answer numbered history step =
      let kept = took.kept in
      let said : answer ≡ (does (last_state does known.start kept.history.items) ask).0 = sym (ap (λ (p : Answer × S). p.0) step) ∙ ap (λ (z : S). (does z ask).0) took.stands.0 in record {
        earlier = kept.history.items;
        call_is_last = history;
        front = took.front;
        answer_is = said;
        legal = subst (IsHistory does known.start) (sym history) (said_last does known.start kept.history.items (number, ask, answer) took.stands.1 said);
        own = ap (calls_of number) history
            ∙ (calls_mine kept.history.items number ask answer
            ∙ ap (λ (h : Log Ask Answer). h ++ (number, ask, answer) ∷ []) (subst (λ (n : ℕ). calls_of n kept.history.items ≡ calls_of n known.seen) numbered took.own));
      }

  looked_on : (known : Known S Ask Answer) (number t : ℕ) (taken : Seated S Ask Answer) (took : Took does (at_stage known (Waits t)) t taken) (left : Kept S Ask Answer) → known.number ≡ number
      → left.history.items ≡ took.kept.history.items → HasLooked does known.start number known.seen left.history.items
  looked_on known number t taken took left numbered history = record {
    front = subst (λ (h : Log Ask Answer). BeginsWith h known.seen) (sym history) took.front;
    legal = subst (IsHistory does known.start) (sym history) took.stands.1;
    own = ap (calls_of number) history ∙ subst (λ (n : ℕ). calls_of n took.kept.history.items ≡ calls_of n known.seen) numbered took.own;
  }

  module _ {E : Type 0} where
    -- what a step leaves in the slot goes on from what was seen
    goes_on : (known : Known S Ask Answer) (kept left : Kept S Ask Answer) (ask : Ask) (result : Result Answer E) → known.seen ≡ kept.history.items → Stands does known.start kept
        → Makes does known.number ask kept result left → Goes_on does known left
    goes_on known kept left ask (Ok answer) seen stands makes =
        let made = makes.0 in
        let said : answer ≡ (does (last_state does known.start kept.history.items) ask).0 = sym (ap (λ (p : Answer × S). p.0) made.1) ∙ ap (λ (z : S). (does z ask).0) stands.0 in record {
          added = (known.number, ask, answer) ∷ [];
          history_is = made.0 ∙ ap (λ (h : Log Ask Answer). h ++ (known.number, ask, answer) ∷ []) (sym seen);
          mine = λ n apart. calls_others n known.number ask answer apart;
          stands = (
            sym (ap (λ (p : Answer × S). p.1) made.1)
                ∙ (ap (λ (z : S). (does z ask).1) stands.0
                ∙ (sym (last-append does known.start kept.history.items (known.number, ask, answer)) ∙ ap (last_state does known.start) (sym made.0))),
            subst (IsHistory does known.start) (sym made.0) (said_last does known.start kept.history.items (known.number, ask, answer) stands.1 said),
          );
        }
    goes_on known kept left ask (Err e) seen stands makes =
        let made = makes.1 in record {
          added = [];
          history_is = made.0 ∙ (sym seen ∙ sym (append-nil known.seen));
          mine = λ n apart. refl;
          stands = (made.1 ∙ (stands.0 ∙ ap (last_state does known.start) (sym made.0)), subst (IsHistory does known.start) (sym made.0) stands.1);
        }

    -- after the wait and the step, the turn may be given on
    pub is_ready : (number ticket : ℕ) (ask : Ask) (first drawn taken made : Seated S Ask Answer) (result : Result Answer E) → Rests first
        → ((known : Known S Ask Answer) → first ≡ (Living known, []) → known.number ≡ number)
        → Draws first ticket drawn → Takes does drawn taken → made.0 ≡ taken.0
        → ((kept : Kept S Ask Answer) → Lends taken kept → (left : Kept S Ask Answer) × Lends made left × Makes does number ask kept result left) → IsReady does made
    is_ready number ticket ask first drawn taken made result rests numbered draws takes same_view makes =
        let known = rests.0 in
        let drew = draws known rests.1 in
        let t = drew.0 in
        let took = takes (at_stage known (Waits t)) t drew.2 refl in
        let kept = took.kept in
        let made_it = makes kept (ap (λ (m : Seated S Ask Answer). m.1) took.now) in
        let now : Known S Ask Answer = having_seen (at_stage known (Holds t)) kept.history.items in (
          now,
          t,
          made_it.0,
          (λ i. ((same_view ∙ ap (λ (m : Seated S Ask Answer). m.0) took.now) i, made_it.1 i)),
          refl,
          goes_on now kept made_it.0 ask result refl took.stands (subst (λ (n : ℕ). Makes does n ask kept result made_it.0) (sym (numbered known rests.1)) made_it.2),
        )

    -- a whole turn
    pub turns : (number ticket : ℕ) (ask : Ask) (first drawn taken made last : Seated S Ask Answer) (result : Result Answer E)
        → Draws first ticket drawn → Takes does drawn taken → made.0 ≡ taken.0
        → ((kept : Kept S Ask Answer) → Lends taken kept → (left : Kept S Ask Answer) × Lends made left × Makes does number ask kept result left)
        → GivesOn made last → Turns does number ask first result last
    turns number ticket ask first drawn taken made last result draws takes same_view makes gives known is idle numbered =
        let drew = draws known is in
        let t = drew.0 in
        let took = takes (at_stage known (Waits t)) t drew.2 refl in
        let kept = took.kept in
        let made_it = makes kept (ap (λ (m : Seated S Ask Answer). m.1) took.now) in
        let left = made_it.0 in
        let seen : Log Ask Answer = left.history.items in (
          seen,
          gives (having_seen (at_stage known (Holds t)) kept.history.items) left (λ i. ((same_view ∙ ap (λ (m : Seated S Ask Answer). m.0) took.now) i, made_it.1 i))
              ∙ ap (λ (z : Stage). (Living (having_seen (at_stage known z) seen), [])) (sym idle),
          (elim result as (λ (r : Result Answer E). Makes does number ask kept r left → IfOk r (λ answer. HasCalled does known.start number known.seen ask answer seen)) [
            | Ok answer ↦ λ m. called known number ask t taken took left answer numbered m.0.0 m.0.1
            | Err e ↦ λ m. tt
          ]) made_it.2,
          (elim result as (λ (r : Result Answer E). Makes does number ask kept r left → OnErr r (HasLooked does known.start number known.seen seen)) [
            | Ok answer ↦ λ m. tt
            | Err e ↦ λ m. looked_on known number t taken took left numbered m.1.0
          ]) made_it.2,
        )

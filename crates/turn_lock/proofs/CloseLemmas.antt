-- Once all seats but one were taken in, no ticket is out, and the slot is at home.
use Rattle.std.proofs.Common.{◌≡◌, ◌==◌, ◌||◌, ◌⊎◌, inl, inr, ⊎_elim, ℕ, zero, suc, ◌+◌, ◌≤◌, List, [], ◌∷◌, ◌++◌, map, All, Bool, true, false, sym, refl, ap, ◌∙◌, subst, arith, eqb-true}
use mathlib.Core.List.{map-append}
use Rattle.std.proofs.lemmas.List.{append_assoc}
use Rattle.std.specs.List.{list_any}
use Rattle.std.proofs.lemmas.Bool.{false_from_ne_true as is_clear}
use Rattle.srp_base.proofs.Bools.{or_true as or_cases}
use mathlib.Core.Option.{Option, some, some-injective}
use lib.ListN.{get_elem?}
use Rattle.atomic_table.specs.Table.{Final, Seen}
use Rattle.turn_lock.specs.{Kept, Known, View, Spent, Living, Log, last_state, IsHistory, tickets_at, tickets_of, ticket_count, at_home, HasEnded, IsInTurn, Seated, Lock, PassOf, is_given, HasCallsOf, HasClosed, HasEndedAll, ended_of, IsLast}
use Rattle.turn_lock.proofs.{SeatLemmas.at_below, SeatLemmas.same_known, StepLemmas.not_both}

module _ {A : Type 0} where
  -- an element that passes the test, with what holds of each
  pub passing : (test : A → Bool) (P : A → Type 0) (xs : List A) → All P xs → list_any test xs ≡ true → (x : A) × P x × (test x ≡ true)
  passing test P [] all any = absurd (not_both false any refl)
  passing test P (x ∷ xs) all any = ⊎_elim (λ e. (x, all 0 x (omega arith), e)) (λ e. passing test P xs (λ k d below. all (suc k) d (omega arith)) e) (or_cases (test x) (list_any test xs) any)

module _ {S Ask Answer : Type 0} where
  no_tickets : (views : List (View S Ask Answer)) → ((j : ℕ) (u : View S Ask Answer) → get_elem? views j ≡ some u → tickets_of u ≡ 0) → ticket_count views ≡ 0
  no_tickets [] each = refl
  no_tickets (u ∷ views) each = let a = each 0 u refl in let b = no_tickets views (λ j w there. each (suc j) w there) in omega (arith, a, b)

  -- a pass that is in the list is the last one, or one of those before it
  pub given_split : (others : List (PassOf S Ask Answer)) (last : PassOf S Ask Answer) (number : ℕ) → is_given (others ++ last ∷ []) number ≡ true
      → (last.number ≡ number) ⊎ (list_any (λ (p : ℕ × Log Ask Answer). p.0 == number) (map ended_of others) ≡ true)
  given_split [] last number given = ⊎_elim (λ e. inl (eqb-true last.number number e)) (λ e. inr e) (or_cases (last.number == number) false given)
  given_split (p ∷ others) last number given =
      let rest : Bool = list_any (λ (q : ℕ × Log Ask Answer). q.0 == number) (map ended_of others) in
      ⊎_elim (λ e. inr (ap (λ (b : Bool). b || rest) e))
      (λ e. ⊎_elim (λ same. inl same) (λ there. inr (or_right (p.number == number) rest there)) (given_split others last number e))
      (or_cases (p.number == number) (is_given (others ++ last ∷ []) number) given) where
        or_right : (a b : Bool) → b ≡ true → (a || b) ≡ true
        or_right true b e = refl
        or_right false b e = e

module _ {S Ask Answer : Type 0} (does : S → Ask → Answer × S) (start : S) (passes : ℕ) where
  -- the slot's value at the end
  pub ends : (ws : List ℕ) (xs : List (Kept S Ask Answer)) (seat : ℕ) (me : Seated S Ask Answer) → IsLast me passes → Final (Seen (IsInTurn does start passes) seat me.0) ws xs
      → (kept : Kept S Ask Answer) → get_elem? xs 0 ≡ some kept → (known : Known S Ask Answer) → me ≡ (Living known, []) → HasEndedAll does start passes known kept.state kept.history.items
  ends ws xs seat me is_last final kept at_slot given is =
      let s = final.0 in
      let r = final.1.0 in
      let known = is_last.0 in
      let same_given : known ≡ given = same_known known given (ap (λ (m : Seated S Ask Answer). some m.0) (sym is_last.1 ∙ is)) in
      let at : get_elem? s.views seat ≡ some (Living known) = final.1.1 ∙ ap (λ (m : Seated S Ask Answer). some m.0) is_last.1 in
      let true_of = r.living seat known at in
      let idle : tickets_at known.stage ≡ 0 = ap tickets_at is_last.2 in
      let each : (j : ℕ) (u : View S Ask Answer) → get_elem? s.views j ≡ some u → tickets_of u ≡ 0 = λ j u there.
      let below = at_below s.views j u there in
      let long = r.dealt.1 in
      ⊎_elim
      (λ own. let e = true_of.number_is in let here : j ≡ seat = omega (arith, e, own) in
      ap tickets_of (some-injective u (Living known) (sym there ∙ (subst (λ (k : ℕ). get_elem? s.views k ≡ some (Living known)) (sym here) at))) ∙ idle)
      (λ ended. let found = passing (λ (p : ℕ × Log Ask Answer). p.0 == j + 1) (HasEnded r.history s.views) known.ended true_of.ended ended in
      let number : found.0.0 ≡ j + 1 = eqb-true found.0.0 (j + 1) found.2 in
      let place_is = found.1.2.1 in
      let here : found.1.2.0 ≡ j = omega (arith, number, place_is) in
      ap tickets_of (some-injective u Spent (sym there ∙ (subst (λ (k : ℕ). get_elem? s.views k ≡ some Spent) here found.1.2.2))))
      (is_last.3 (j + 1) (omega arith) (omega (arith, below, long))) in
      let none_out = no_tickets s.views each in
      let all_served = r.tickets in
      let at_rest : r.out ≡ false = is_clear r.out (λ out. let b = r.busy out in absurd (omega (arith, b, none_out, all_served))) in
      let slot_is : s.homes ≡ some r.kept ∷ [] = r.slot ∙ ap (λ (b : Bool). at_home b r.kept ∷ []) at_rest in
      let same : r.kept ≡ kept = some-injective r.kept kept (sym (final.4 0 r.kept (ap (λ (hs : List (Option (Kept S Ask Answer))). get_elem? hs 0) slot_is)) ∙ at_slot) in
      let home = r.home at_rest in
      let history : r.history ≡ kept.history.items = sym home.0 ∙ ap (λ (k : Kept S Ask Answer). k.history.items) same in
      subst (λ (k : Known S Ask Answer). HasEndedAll does start passes k kept.state kept.history.items) same_given
      (subst (λ (h : Log Ask Answer). HasEndedAll does start passes known kept.state h) history (record {
        legal = r.legal;
        last = sym (ap (λ (k : Kept S Ask Answer). k.state) same) ∙ home.1;
        own = (true_of.front, true_of.own);
        others = λ k d below. let h = true_of.ended k d below in (h.0, h.1);
        no_others = λ number past. r.unmade number (λ one. let p = past one in let q = r.dealt.1 in omega (arith, p, q));
      }))

module _ {S Ask Answer : Type 0} (does : S → Ask → Answer × S) (start : S) (passes : ℕ) where
  -- the last state of the lock, said of all passes that were given
  pub closes : (lock : Lock S) (others : List (PassOf S Ask Answer)) (last : PassOf S Ask Answer) (known : Known S Ask Answer) (state : S) (history : Log Ask Answer)
      → lock.start ≡ start → lock.passes ≡ passes → known.number ≡ last.number → known.seen ≡ last.seen → known.ended ≡ map ended_of others
      → ((number : ℕ) → 1 ≤ number → number ≤ lock.passes → is_given (others ++ last ∷ []) number ≡ true)
      → HasEndedAll does start passes known state history → HasClosed does lock (others ++ last ∷ []) state history
  closes lock others last known state history start_is passes_are number_is seen_is ended_is given h = record {
    legal = subst (λ (z : S). IsHistory does z history) (sym start_is) h.legal;
    last = h.last ∙ ap (λ (z : S). last_state does z history) (sym start_is);
    calls = each_of history others last (subst (All (λ (p : ℕ × Log Ask Answer). HasCallsOf history p.0 p.1)) ended_is h.others)
        (subst (λ (x : ℕ × Log Ask Answer). HasCallsOf history x.0 x.1) (λ i. (number_is i, seen_is i)) h.own);
    no_others = λ number past. h.no_others number (λ one. let p = past one in omega (arith, p, passes_are));
    given = given;
  } where
    each_of : (h : Log Ask Answer) (before : List (PassOf S Ask Answer)) (p : PassOf S Ask Answer)
        → All (λ (q : ℕ × Log Ask Answer). HasCallsOf h q.0 q.1) (map ended_of before) → HasCallsOf h p.number p.seen
        → All (λ (q : PassOf S Ask Answer). HasCallsOf h q.number q.seen) (before ++ p ∷ [])
    each_of h [] p all one zero d below = one
    each_of h [] p all one (suc k) d below = absurd (omega arith)
    each_of h (q ∷ before) p all one zero d below = all 0 (q.number, q.seen) (omega arith)
    each_of h (q ∷ before) p all one (suc k) d below = each_of h before p (λ j e low. all (suc j) e (omega arith)) one k d (omega arith)

-- what holds of all holds of those before the last
pub all_front : {X : Type 0} (P : X → Type 0) (xs : List X) (y : X) → All P (xs ++ y ∷ []) → All P xs
all_front P [] y all k d below = absurd (omega arith)
all_front P (x ∷ xs) y all zero d below = all 0 d (omega arith)
all_front P (x ∷ xs) y all (suc k) d below = all_front P xs y (λ j e low. all (suc j) e (omega arith)) k d (omega arith)

-- and of the last
pub all_last : {X : Type 0} (P : X → Type 0) (xs : List X) (y : X) → All P (xs ++ y ∷ []) → P y
all_last P [] y all = all 0 y (omega arith)
all_last P (x ∷ xs) y all = all_last P xs y (λ j e low. all (suc j) e (omega arith))

module _ {S Ask Answer : Type 0} where
  -- one more pass was taken in
  pub took_one : (all left : List (PassOf S Ask Answer)) (other : PassOf S Ask Answer) (taken : List (ℕ × Log Ask Answer)) → map ended_of (left ++ other ∷ []) ++ taken ≡ map ended_of all
      → map ended_of left ++ ended_of other ∷ taken ≡ map ended_of all
  took_one all left other taken e = sym (append_assoc (map ended_of left) (ended_of other ∷ []) taken)
      ∙ (ap (λ (l : List (ℕ × Log Ask Answer)). l ++ taken) (sym (map-append ended_of left (other ∷ []))) ∙ e)

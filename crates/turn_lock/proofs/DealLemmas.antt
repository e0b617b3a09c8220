-- Opening a lock's table, dealing a pass from a seat, and taking a seat in keep the rule of the table.
use Rattle.std.proofs.Common.{◌≡◌, ◌≢◌, ◌⊎◌, inl, inr, ⊎_elim, ℕ, zero, suc, ◌+◌, ◌^◌, ◌<◌, ◌≤◌, List, [], ◌∷◌, ◌++◌, length, set, All, true, false, sym, refl, ap, ◌∙◌, subst, arith, length-set, length-append}
use Rattle.std.proofs.lemmas.List.{append-nil}
use mathlib.Core.Option.{some, some-injective, some-ne-none}
use lib.ListN.{get_elem?}
use Rattle.atomic_table.specs.Table.{Splits, Joins, opening}
use Rattle.atomic_table.proofs.Lists.{at_set, set_here, set_else, at_longer}
use Rattle.turn_lock.specs.{Kept, Known, Idle, View, Spent, Living, Log, calls_of, tickets_at, first_view, HasEnded, IsTrue, IsInTurn, dealer, next_view, taker}
use Rattle.turn_lock.proofs.{HistoryLemmas.nothing_said, SeatLemmas.living_not_spent, SeatLemmas.same_known, SeatLemmas.tickets-set, SeatLemmas.tickets-append, SeatLemmas.at_below, SeatLemmas.all_ended_stay, MoveLemmas.spent_stays, StepLemmas.not_both}

at_end : {A : Type 0} (views : List A) (a b : A) (j : ℕ) → get_elem? (views ++ a ∷ []) j ≡ some b → (get_elem? views j ≡ some b) ⊎ ((j ≡ length views) × (a ≡ b))
at_end [] a b zero e = inr (refl, some-injective a b e)
at_end [] a b (suc j) e = absurd (some-ne-none b (sym e))
at_end (x ∷ xs) a b zero e = inl e
at_end (x ∷ xs) a b (suc j) e = ⊎_elim (λ t. inl t) (λ t. let n = t.0 in inr (omega arith, t.1)) (at_end xs a b j e)

all_cons : {X : Type 0} (P : X → Type 0) (x : X) (xs : List X) → P x → All P xs → All P (x ∷ xs)
all_cons P x xs first others zero d below = first
all_cons P x xs first others (suc k) d below = others k d (omega arith)

module _ {S Ask Answer : Type 0} (does : S → Ask → Answer × S) (start : S) (passes : ℕ) where
  -- a table with one seat, which knows its lock's state and number of passes, and with the state in the slot
  pub opens : (kept : Kept S Ask Answer) → kept.state ≡ start → kept.history.items ≡ [] → 0 < passes → passes < 2 ^ 32
      → IsInTurn does start passes (opening (0 ∷ 0 ∷ []) (kept ∷ []) (first_view start passes))
  opens kept state empty some_passes few = record {
    drawn = 0;
    served = 0;
    owner = λ t. 0;
    out = false;
    history = [];
    kept = kept;
    words = refl;
    tickets = refl;
    few = few;
    dealt = (omega arith, omega arith);
    slot = refl;
    home = λ _. (empty, state);
    busy = λ out. absurd (not_both false out refl);
    legal = nothing_said does start;
    unmade = λ n past. refl;
    living = λ j u there. first_is j u there;
  } where
    first_is : (j : ℕ) (u : Known S Ask Answer) → get_elem? (first_view {S = S} {Ask = Ask} {Answer = Answer} start passes ∷ []) j ≡ some (Living u)
        → IsTrue start passes 0 0 (λ t. 0) false [] (first_view {S = S} {Ask = Ask} {Answer = Answer} start passes ∷ []) j u
    first_is zero u there = subst (λ (z : Known S Ask Answer). IsTrue start passes 0 0 (λ t. 0) false [] (first_view {S = S} {Ask = Ask} {Answer = Answer} start passes ∷ []) 0 z)
        (same_known (record { start = start; passes = passes; number = 1; dealt = false; stage = Idle; seen = []; ended = [] }) u there)
        (record {
          start_is = refl;
          passes_are = refl;
          number_is = omega arith;
          deals = λ _. omega arith;
          front = ([], refl);
          own = refl;
          ended = λ k d below. absurd (omega arith);
          stage = tt;
        })
    first_is (suc j) u there = absurd (some-ne-none (Living u) (sym there))

  -- splitting a seat: the next pass is dealt
  pub deals_on : (seat : ℕ) (known : Known S Ask Answer) → known.stage ≡ Idle → known.dealt ≡ false → known.number < known.passes
      → Splits (IsInTurn does start passes) seat (Living known) (dealer (Living known)) (next_view (Living known))
  deals_on seat known idle undealt more s r at =
      let true_of = r.living seat known at in
      let n : ℕ = length s.views in
      let last : seat + 1 ≡ n = true_of.deals undealt in
      let left : View S Ask Answer = dealer (Living known) in
      let right : View S Ask Answer = next_view (Living known) in
      let views : List (View S Ask Answer) = set s.views seat left ++ right ∷ [] in
      let long : length views ≡ n + 1 = omega (arith, length-append (set s.views seat left) (right ∷ []), length-set s.views seat left) in
      let stay : (place : ℕ) → get_elem? s.views place ≡ some Spent → (get_elem? views place ≡ some Spent) × (calls_of {Ask = Ask} {Answer = Answer} (place + 1) [] ≡ []) =
      λ place there. (at_longer (set s.views seat left) (right ∷ []) place Spent (spent_stays does start passes s.views seat known left at place there).1, refl) in
      let kept_ended : (u : Known S Ask Answer) → All (HasEnded r.history s.views) u.ended → All (HasEnded r.history views) u.ended =
      λ u all. subst (λ (h : Log Ask Answer). All (HasEnded h views) u.ended) (append-nil r.history) (all_ended_stay r.history [] s.views views u.ended stay all) in record {
        drawn = r.drawn;
        served = r.served;
        owner = r.owner;
        out = r.out;
        history = r.history;
        kept = r.kept;
        words = r.words;
        tickets = let a = r.tickets in let b = tickets-set s.views seat (Living known) left at in let c = tickets-append (set s.views seat left) right in omega arith;
        few = r.few;
        dealt = let a = true_of.passes_are in let b = true_of.number_is in (omega (arith, long), omega (arith, long, a, b, more, last));
        slot = r.slot;
        home = r.home;
        busy = r.busy;
        legal = r.legal;
        unmade = λ number past. r.unmade number (λ one. let p = past one in omega (arith, long, p));
        living = λ j u there. ⊎_elim
            (λ here. ⊎_elim
            (λ t. let same : _ ≡ u = same_known
            (record { start = known.start; passes = known.passes; number = known.number; dealt = true; stage = known.stage; seen = known.seen; ended = known.ended })
            u (ap some t.1) in
            subst (λ (z : ℕ × Known S Ask Answer). IsTrue start passes r.served r.drawn r.owner r.out r.history views z.0 z.1) (λ i. (sym t.0 i, same i)) (record {
              start_is = true_of.start_is;
              passes_are = true_of.passes_are;
              number_is = true_of.number_is;
              deals = λ d. absurd (not_both true refl d);
              front = true_of.front;
              own = true_of.own;
              ended = kept_ended known true_of.ended;
              stage = true_of.stage;
            }))
            (λ t. let other = r.living j u t.1 in let apart : j ≢ seat = t.0 in record {
              start_is = other.start_is;
              passes_are = other.passes_are;
              number_is = other.number_is;
              deals = λ d. let e = other.deals d in absurd (apart (omega arith));
              front = other.front;
              own = other.own;
              ended = kept_ended u other.ended;
              stage = other.stage;
            })
            (at_set s.views seat j left (Living u) here))
            (λ t. let same : _ ≡ u = same_known
            (record { start = known.start; passes = known.passes; number = known.number + 1; dealt = false; stage = Idle; seen = []; ended = [] }) u (ap some t.1) in
            let there' : j ≡ n = t.0 ∙ length-set s.views seat left in
            let number : known.number + 1 ≡ n + 1 = let b = true_of.number_is in omega arith in
            subst (λ (z : ℕ × Known S Ask Answer). IsTrue start passes r.served r.drawn r.owner r.out r.history views z.0 z.1) (λ i. (sym there' i, same i)) (record {
              start_is = true_of.start_is;
              passes_are = true_of.passes_are;
              number_is = number;
              deals = λ _. sym long;
              front = (r.history, refl);
              own = r.unmade (known.number + 1) (λ _. omega (arith, number));
              ended = λ k d below. absurd (omega arith);
              stage = tt;
            }))
            (at_end (set s.views seat left) right (Living u) j there);
      }

  -- joining a seat: its number and what it has seen are known from now on, and it is spent
  pub takes_in : (seat other : ℕ) (known joined : Known S Ask Answer) → joined.stage ≡ Idle
      → Joins (IsInTurn does start passes) seat (Living known) other (Living joined) (taker (Living known) (Living joined)) Spent
  takes_in seat other known joined idle s r at apart there =
      let both : View S Ask Answer = taker (Living known) (Living joined) in
      let one : List (View S Ask Answer) = set s.views seat both in
      let views : List (View S Ask Answer) = set one other Spent in
      let there' : get_elem? s.views other ≡ some (Living joined) = sym (set_else s.views seat other both apart) ∙ there in
      let true_of = r.living seat known at in
      let true_joined = r.living other joined there' in
      let long : length views ≡ length s.views = length-set one other Spent ∙ length-set s.views seat both in
      let below = at_below one other (Living joined) there in
      let stay : (place : ℕ) → get_elem? s.views place ≡ some Spent → (get_elem? views place ≡ some Spent) × (calls_of {Ask = Ask} {Answer = Answer} (place + 1) [] ≡ []) =
      λ place spent.
      let first = spent_stays does start passes s.views seat known both at place spent in
      ((spent_stays does start passes one other joined Spent there place first.1).1, refl) in
      let kept_ended : (u : Known S Ask Answer) → All (HasEnded r.history s.views) u.ended → All (HasEnded r.history views) u.ended =
      λ u all. subst (λ (h : Log Ask Answer). All (HasEnded h views) u.ended) (append-nil r.history) (all_ended_stay r.history [] s.views views u.ended stay all) in record {
        drawn = r.drawn;
        served = r.served;
        owner = r.owner;
        out = r.out;
        history = r.history;
        kept = r.kept;
        words = r.words;
        tickets =
            let a = r.tickets in
            let b = tickets-set s.views seat (Living known) both at in
            let c = tickets-set one other (Living joined) Spent there in
            let d : tickets_at joined.stage ≡ 0 = ap tickets_at idle in
            omega arith;
        few = r.few;
        dealt = subst (λ (n : ℕ). (0 < n) × (n ≤ passes)) (sym long) r.dealt;
        slot = r.slot;
        home = r.home;
        busy = r.busy;
        legal = r.legal;
        unmade = λ number past. r.unmade number (λ one. let p = past one in omega (arith, long, p));
        living = λ j u here. ⊎_elim
            (λ t. absurd (living_not_spent u (sym (ap some t.1))))
            (λ outer. ⊎_elim
            (λ t. let same : _ ≡ u = same_known
            (record {
              start = known.start;
              passes = known.passes;
              number = known.number;
              dealt = known.dealt;
              stage = known.stage;
              seen = known.seen;
              ended =
                  (joined.number, joined.seen) ∷ known.ended;
            }) u (ap some t.1) in
            subst (λ (z : ℕ × Known S Ask Answer). IsTrue start passes r.served r.drawn r.owner r.out r.history views z.0 z.1) (λ i. (sym t.0 i, same i)) (record {
              start_is = true_of.start_is;
              passes_are = true_of.passes_are;
              number_is = true_of.number_is;
              deals = λ d. true_of.deals d ∙ sym long;
              front = true_of.front;
              own = true_of.own;
              ended = all_cons (HasEnded r.history views) (joined.number, joined.seen) known.ended
                  (true_joined.front, true_joined.own, (other, true_joined.number_is, set_here one other Spent below)) (kept_ended known true_of.ended);
              stage = true_of.stage;
            }))
            (λ t. let it = r.living j u t.1 in record {
              start_is = it.start_is;
              passes_are = it.passes_are;
              number_is = it.number_is;
              deals = λ d. it.deals d ∙ sym long;
              front = it.front;
              own = it.own;
              ended = kept_ended u it.ended;
              stage = it.stage;
            })
            (at_set s.views seat j both (Living u) outer.1))
            (at_set one other j Spent (Living u) here);
      }

-- As many rounds of judging as there are entries come to the decided set.
use Rattle.std.proofs.Common.{◌≡◌, ℕ, zero, suc, ◌+◌, Bool, false, cond, List, [], ◌∷◌, map, filter, length, refl, sym, ◌∙◌, ap, subst, arith}
use Rattle.std.specs.Prelude.{nat_le}
use Rattle.std.specs.List.{AllByRecursion}
use Rattle.std.proofs.lemmas.List.Sorted.{IsPermutation-sym, length_permutation}
use Rattle.stream_importance.specs.declared.{entry.Entry.Entry, slope.Caps.Caps}
use Rattle.stream_importance.specs.{Bandwidth.cap_of, Importance.IsImportanceOrder}
use Rattle.port_ledger.specs.{entry_slope, comes_after, does_fit, set_after, decided_set, decided_entries, with_moments, marks_of, IsDecision, Decides, AreOfDifferentStreams, importance_order}
use Rattle.port_ledger.proofs.{Running.total, Running.total-head, Running.total-tail, Running.Holds, Running.IsRanked, Running.all_with, Ranking.IsPermutation-ranked, Ranking.ranked_is_ranked, Ranking.part-IsPermutation, Ranking.all_permuted, Ranking.holds_permuted, Marking.all_of, Marking.choice, Marking.choice_above, Marking.map_agree, Marking.marks_of-settled, Marking.holds_from_decision, Marking.decision_from_holds, Marking.decision_exists}

-- two choices agree on the first entries
abbrev AgreeOn : ℕ → (b c : Entry → Bool) → List Entry → Type 0
AgreeOn zero b c xs = Unit {0}
AgreeOn (suc n) b c [] = Unit {0}
AgreeOn (suc n) b c (x ∷ xs) = (b x ≡ c x) × AgreeOn n b c xs

all_agree : (n : ℕ) (b c : Entry → Bool) (xs : List Entry) → n ≡ length xs → AgreeOn n b c xs
    → AllByRecursion (λ x. b x ≡ c x) xs
all_agree n b c [] e h = tt
all_agree zero b c (x ∷ xs) e h = absurd (omega (arith, e))
all_agree (suc n) b c (x ∷ xs) e h = (h.0, all_agree n b c xs (omega (arith, e)) h.1)

-- an entry is let in beside what another choice lets in of those before it
abbrev FollowsFrom : ℕ → Caps → ℕ → (b c : Entry → Bool) → List Entry → Entry → Type 0
FollowsFrom now caps sum b c set x = c x ≡ nat_le (sum + total b now x set + entry_slope x) (cap_of caps x.want.class)

-- the first entry is judged as the other choice judges it
first_same : (now : ℕ) (o : IsImportanceOrder now) (caps : Caps) (s t : ℕ) (b c d : Entry → Bool) (x : Entry) (xs : List Entry)
    → s ≡ t → IsRanked now (x ∷ xs) → FollowsFrom now caps s b c (x ∷ xs) x → Holds now caps t d (x ∷ xs) x
    → c x ≡ d x
first_same now o caps s t b c d x xs same order follows holds = grind (arith, total, total-head)

-- after each round one more entry is judged as the decided set judges it
one_more : (now : ℕ) (o : IsImportanceOrder now) (caps : Caps) (n s t : ℕ) (b c d : Entry → Bool) (xs : List Entry)
    → s ≡ t → IsRanked now xs → AllByRecursion (FollowsFrom now caps s b c xs) xs
    → AllByRecursion (Holds now caps t d xs) xs → AgreeOn n b d xs → AgreeOn (suc n) c d xs
one_more now o caps n s t b c d [] same order follows holds agree = tt
one_more now o caps zero s t b c d (x ∷ xs) same order follows holds agree =
    (first_same now o caps s t b c d x xs same order follows.0 holds.0, tt)
one_more now o caps (suc m) s t b c d (x ∷ xs) same order follows holds agree =
    let sums : s + cond (b x) (entry_slope x) 0 ≡ t + cond (d x) (entry_slope x) 0 =
    ap (λ k. k + cond (b x) (entry_slope x) 0) same ∙ ap (λ v. t + cond v (entry_slope x) 0) agree.0 in (
      first_same now o caps s t b c d x xs same order follows.0 holds.0,
      one_more now o caps m (s + cond (b x) (entry_slope x) 0) (t + cond (d x) (entry_slope x) 0) b c d xs sums order.1
          (all_with xs order.0 follows.1 (λ y before h. h ∙ ap (λ k. nat_le (k + entry_slope y) (cap_of caps y.want.class)) (sym (total-tail b now x y xs s before))))
          (all_with xs order.0 holds.1 (λ y before h. h ∙ ap (λ k. nat_le (k + entry_slope y) (cap_of caps y.want.class)) (sym (total-tail d now x y xs t before))))
          agree.1,
    )

-- whom a round finds
abbrev found_in : (rounds now : ℕ) → Caps → List Entry → Entry → Bool
found_in zero now caps entries x = false
found_in (suc n) now caps entries x = does_fit now caps (set_after n now caps entries) x

filter-none : (xs : List Entry) → [] ≡ filter (λ _. false) xs
filter-none [] = refl
filter-none (x ∷ xs) = filter-none xs

set_after-found : (n now : ℕ) (caps : Caps) (xs : List Entry)
    → set_after n now caps xs ≡ filter (found_in n now caps xs) xs
unfolding set_after
set_after-found zero now caps xs = filter-none xs
set_after-found (suc n) now caps xs = refl

follows_from : (n now : ℕ) (caps : Caps) (xs : List Entry) (x : Entry)
    → FollowsFrom now caps 0 (found_in n now caps xs) (found_in (suc n) now caps xs) (importance_order now xs) x
follows_from n now caps xs x =
    ap (λ set. does_fit now caps set x) (set_after-found n now caps xs)
    ∙ (sym (choice_above (found_in n now caps xs) now caps xs x)
    ∙ ap (λ k. nat_le (0 + k + entry_slope x) (cap_of caps x.want.class))
    (sym (part-IsPermutation (found_in n now caps xs) (comes_after now x) xs (importance_order now xs) (IsPermutation-ranked now xs))))

rounds_agree : (n now : ℕ) (o : IsImportanceOrder now) (caps : Caps) (b : Entry → Bool) (xs : List Entry)
    → IsRanked now (importance_order now xs) → AllByRecursion (Holds now caps 0 b (importance_order now xs)) (importance_order now xs)
    → AgreeOn n (found_in n now caps xs) b (importance_order now xs)
rounds_agree zero now o caps b xs is_ranked holds = tt
rounds_agree (suc n) now o caps b xs is_ranked holds =
    one_more now o caps n 0 0 (found_in n now caps xs) (found_in (suc n) now caps xs) b (importance_order now xs) refl is_ranked
    (all_of (importance_order now xs) (follows_from n now caps xs)) holds (rounds_agree n now o caps b xs is_ranked holds)

pub filter_agree : (b c : Entry → Bool) (xs : List Entry) → AllByRecursion (λ x. b x ≡ c x) xs → filter b xs ≡ filter c xs
filter_agree b c [] h = refl
filter_agree b c (x ∷ xs) h = ap (λ v. cond v (x ∷ filter b xs) (filter b xs)) h.0 ∙ ap (λ ys. cond (c x) (x ∷ ys) ys) (filter_agree b c xs h.1)

-- a choice that holds is the decided set
decided_set_is : (now : ℕ) (o : IsImportanceOrder now) (caps : Caps) (b : Entry → Bool) (xs : List Entry)
    → AreOfDifferentStreams xs → AllByRecursion (Holds now caps 0 b (importance_order now xs)) (importance_order now xs)
    → decided_set now caps xs ≡ filter b xs
decided_set_is now o caps b xs different holds =
    let agree : AllByRecursion (λ x. found_in (length xs) now caps xs x ≡ b x) (importance_order now xs) =
    all_agree (length xs) (found_in (length xs) now caps xs) b (importance_order now xs) (sym (length_permutation xs (importance_order now xs) (IsPermutation-ranked now xs)))
    (rounds_agree (length xs) now o caps b xs (ranked_is_ranked now o xs different) holds) in
    set_after-found (length xs) now caps xs
    ∙ filter_agree (found_in (length xs) now caps xs) b xs
    (all_permuted (λ x. found_in (length xs) now caps xs x ≡ b x) (importance_order now xs) xs (IsPermutation-sym xs (importance_order now xs) (IsPermutation-ranked now xs)) agree)

-- the entries after a decision are those that the choice settles
pub decided_by_choice : (now : ℕ) (o : IsImportanceOrder now) (caps : Caps) (b : Entry → Bool) (xs : List Entry)
    → AreOfDifferentStreams xs → AllByRecursion (Holds now caps 0 b xs) xs
    → decided_entries now caps xs ≡ with_moments now xs (map b xs)
unfolding decided_entries
decided_by_choice now o caps b xs different holds =
    let set : decided_set now caps xs ≡ filter b xs =
    decided_set_is now o caps b xs different (holds_permuted now caps 0 b xs (importance_order now xs) (IsPermutation-ranked now xs) holds) in
    ap (with_moments now xs)
    (ap (λ ys. map (does_fit now caps ys) xs) set
    ∙ sym (map_agree b (does_fit now caps (filter b xs)) xs (all_with xs holds holds (λ x k _. k ∙ choice_above b now caps xs x))))

-- of one decision there is one outcome
pub decided_only : (now : ℕ) (o : IsImportanceOrder now) (caps : Caps) (before after : List Entry)
    → AreOfDifferentStreams before → Decides now caps before after → after ≡ decided_entries now caps before
decided_only now o caps before after different d = grind (arith, decided_by_choice, choice, holds_from_decision)

pub decides_by_choice : (now : ℕ) (o : IsImportanceOrder now) (caps : Caps) (b : Entry → Bool) (xs after : List Entry)
    → AllByRecursion (Holds now caps 0 b xs) xs → after ≡ with_moments now xs (map b xs) → Decides now caps xs after
decides_by_choice now o caps b xs after holds e =
    let marks : map b xs ≡ marks_of after = sym (ap marks_of e ∙ marks_of-settled now b xs) in
    record {
      decision = subst (λ (ms : List Bool). IsDecision now caps xs ms) marks (decision_from_holds now caps b xs holds);
      moments = e ∙ ap (with_moments now xs) marks;
    }

pub decided_decides : (now : ℕ) (o : IsImportanceOrder now) (caps : Caps) (xs : List Entry)
    → AreOfDifferentStreams xs → Decides now caps xs (decided_entries now caps xs)
decided_decides now o caps xs different =
    let found = decision_exists now o caps xs different in
    let b : Entry → Bool = choice now caps xs found.0 in
    let holds : AllByRecursion (Holds now caps 0 b xs) xs = holds_from_decision now caps xs found.0 found.1 in
    decides_by_choice now o caps b xs (decided_entries now caps xs) holds (decided_by_choice now o caps b xs different holds)

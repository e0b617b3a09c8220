-- A choice of entries and the marks beside them; there is exactly one marking.
use Rattle.std.proofs.Common.{◌≡◌, ℕ, ◌+◌, Bool, cond, List, [], ◌∷◌, map, filter, refl, sym, ◌∙◌, ap, arith, zero-add}
use Rattle.std.specs.Prelude.{nat_le}
use Rattle.std.specs.{List.AllByRecursion, List.Sorted.IsPermutation}
use Rattle.std.proofs.lemmas.List.Sorted.{IsPermutation-sym}
use Rattle.stream_importance.specs.declared.{entry.Entry.Entry, slope.Caps.Caps}
use Rattle.stream_importance.specs.{Importance.IsImportanceOrder, Bandwidth.cap_of}
use Rattle.port_ledger.specs.{stream_of, entry_slope, does_fit, marked_set, IsDecision, IsAscending, AreOfDifferentStreams, marks_of, with_moments, importance_order}
use Rattle.port_ledger.proofs.{Running.total, Running.above-filter, Running.Holds, Running.Runs, Running.IsRanked, Running.holds_from_runs, Running.runs_from_holds, Running.runs_agree, Running.all_with, Ranking.IsPermutation-ranked, Ranking.ranked_is_ranked, Ranking.holds_permuted, Ranking.all_permuted, Ranking.different_permuted, LettingIn.is_among, LettingIn.streams_let_in, LettingIn.taken_runs}

pub marked-map : (b : Entry → Bool) (xs : List Entry) → marked_set xs (map b xs) ≡ filter b xs
marked-map b [] = refl
marked-map b (x ∷ xs) = ap (λ ys. cond (b x) (x ∷ ys) ys) (marked-map b xs)

pub map_agree : {X Y : Type 0} (f g : X → Y) (xs : List X) → AllByRecursion (λ x. f x ≡ g x) xs → map f xs ≡ map g xs
map_agree f g [] h = refl
map_agree f g (x ∷ xs) h = ap (λ y. y ∷ map f xs) h.0 ∙ ap (λ ys. g x ∷ ys) (map_agree f g xs h.1)

pub all_of : {X : Type 0} {P : X → Type 0} (xs : List X) → ((x : X) → P x) → AllByRecursion P xs
all_of [] f = tt
all_of (x ∷ xs) f = (f x, all_of xs f)

-- what stands above, by the set and by the choice
pub choice_above : (b : Entry → Bool) (now : ℕ) (caps : Caps) (xs : List Entry) (x : Entry)
    → nat_le (0 + total b now x xs + entry_slope x) (cap_of caps x.want.class) ≡ does_fit now caps (filter b xs) x
choice_above b now caps xs x = ap (λ n. nat_le (n + entry_slope x) (cap_of caps x.want.class)) (zero-add (total b now x xs) ∙ sym (above-filter b now x xs))

pub decision_from_holds : (now : ℕ) (caps : Caps) (b : Entry → Bool) (xs : List Entry)
    → AllByRecursion (Holds now caps 0 b xs) xs → IsDecision now caps xs (map b xs)
decision_from_holds now caps b xs h =
    map_agree b (does_fit now caps (filter b xs)) xs (all_with xs h h (λ x k _. k ∙ choice_above b now caps xs x))
    ∙ ap (λ set. map (does_fit now caps set) xs) (sym (marked-map b xs))

-- the choice that a marking stands for
abbrev pub choice : ℕ → Caps → List Entry → List Bool → Entry → Bool
choice now caps xs marks = does_fit now caps (marked_set xs marks)

pub marked-choice : (now : ℕ) (caps : Caps) (xs : List Entry) (marks : List Bool) → IsDecision now caps xs marks
    → marked_set xs marks ≡ filter (choice now caps xs marks) xs
marked-choice now caps xs marks d = ap (marked_set xs) d ∙ marked-map (choice now caps xs marks) xs

pub holds_from_decision : (now : ℕ) (caps : Caps) (xs : List Entry) (marks : List Bool)
    → IsDecision now caps xs marks → AllByRecursion (Holds now caps 0 (choice now caps xs marks) xs) xs
holds_from_decision now caps xs marks d = grind (arith, all_of, marked-choice, choice_above)

-- a choice that holds, run in the order of importance
pub ranked_runs : (now : ℕ) (o : IsImportanceOrder now) (caps : Caps) (b : Entry → Bool) (xs : List Entry)
    → AreOfDifferentStreams xs → AllByRecursion (Holds now caps 0 b xs) xs → Runs caps 0 b (importance_order now xs)
ranked_runs now o caps b xs different h =
    runs_from_holds now o caps 0 b (importance_order now xs) (ranked_is_ranked now o xs different)
    (holds_permuted now caps 0 b xs (importance_order now xs) (IsPermutation-ranked now xs) h)

pub decision_unique : (now : ℕ) (o : IsImportanceOrder now) (caps : Caps) (xs : List Entry)
    → AreOfDifferentStreams xs → (marks others : List Bool) → IsDecision now caps xs marks
    → IsDecision now caps xs others → marks ≡ others
decision_unique now o caps xs different marks others d e =
    let b : Entry → Bool = choice now caps xs marks in
    let c : Entry → Bool = choice now caps xs others in
    let agree : AllByRecursion (λ x. b x ≡ c x) (importance_order now xs) =
    runs_agree caps 0 0 b c (importance_order now xs) refl (ranked_runs now o caps b xs different (holds_from_decision now caps xs marks d))
    (ranked_runs now o caps c xs different (holds_from_decision now caps xs others e)) in
    let back : AllByRecursion (λ x. b x ≡ c x) xs = all_permuted (λ x. b x ≡ c x) (importance_order now xs) xs (IsPermutation-sym xs (importance_order now xs) (IsPermutation-ranked now xs)) agree in
    d ∙ (map_agree b c xs back ∙ sym e)

-- what a pass in the order of importance lets in is decided
pub decision_from_pass : (now : ℕ) (o : IsImportanceOrder now) (caps : Caps) (xs order : List Entry)
    → IsPermutation xs order → IsRanked now order → AreOfDifferentStreams order
    → IsDecision now caps xs (map (λ x. is_among (streams_let_in caps 0 order) (stream_of x)) xs)
decision_from_pass now o caps xs order p r different =
    let b : Entry → Bool = λ x. is_among (streams_let_in caps 0 order) (stream_of x) in
    decision_from_holds now caps b xs
    (holds_permuted now caps 0 b order xs (IsPermutation-sym xs order p) (holds_from_runs now o caps 0 b order r (taken_runs caps 0 order different)))

-- streams that ascend differ
pub different_from_ascending : (xs : List Entry) → IsAscending xs → AreOfDifferentStreams xs
different_from_ascending [] up = tt
different_from_ascending (x ∷ xs) up = (all_with xs up.0 up.0 (λ y l _ e. omega (arith, l, e)), different_from_ascending xs up.1)

-- a choice is what its settled entries show
pub marks_of-settled : (now : ℕ) (b : Entry → Bool) (xs : List Entry) → marks_of (with_moments now xs (map b xs)) ≡ map b xs
marks_of-settled now b [] = refl
marks_of-settled now b (x ∷ xs) = grind (arith, marks_of-settled now b xs)

pub decision_exists : (now : ℕ) (o : IsImportanceOrder now) (caps : Caps) (xs : List Entry)
    → AreOfDifferentStreams xs → (marks : List Bool) × IsDecision now caps xs marks
decision_exists now o caps xs different = (
  map (λ x. is_among (streams_let_in caps 0 (importance_order now xs)) (stream_of x)) xs,
  decision_from_pass now o caps xs (importance_order now xs) (IsPermutation-ranked now xs) (ranked_is_ranked now o xs different)
      (different_permuted xs (importance_order now xs) (IsPermutation-ranked now xs) different),
)

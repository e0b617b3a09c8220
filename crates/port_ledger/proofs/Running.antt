-- Going through the entries in the order of importance with a running sum meets the condition on the set,
-- and whatever meets the condition comes of going so.
use Rattle.std.proofs.Common.{◌≡◌, ℕ, ◌+◌, Bool, true, false, cond, List, [], ◌∷◌, filter, sum_by, refl, sym, ◌∙◌, ap, arith, zero-add}
use Rattle.std.specs.Prelude.{nat_le}
use Rattle.std.specs.List.{AllByRecursion}
use Rattle.std.proofs.lemmas.{List.Sums.sum_by-cons, Bool.eq-eqb, Bool.and_parts, Bool.and_left, Bool.and_right, Bool.false_from_ne_true, Bool.not_from_true, Bool.cond-false, Bool.cond-true}
use Rattle.stream_importance.specs.declared.{entry.Entry.Entry, slope.Caps.Caps}
use Rattle.stream_importance.specs.{Bandwidth.cap_of, Importance.IsImportanceOrder}
use Rattle.port_ledger.specs.{entry_slope, comes_after, above}
pub use Rattle.port_ledger.specs.Front.{IsRanked, Runs}

-- what the chosen entries of one kind take, as a sum over all entries
abbrev pub part : (Entry → Bool) → (Entry → Bool) → List Entry → ℕ
part b kind [] = 0
part b kind (e ∷ es) = cond (b e) (cond (kind e) (entry_slope e) 0) 0 + part b kind es

-- what of a chosen set goes before x
abbrev pub total : (Entry → Bool) → ℕ → Entry → List Entry → ℕ
total b now x = part b (comes_after now x)

pub sum-filter-cons : (kind : Entry → Bool) (e : Entry) (es : List Entry)
    → sum_by entry_slope (filter kind (e ∷ es)) ≡ cond (kind e) (entry_slope e) 0 + sum_by entry_slope (filter kind es)
sum-filter-cons kind e es =
    elim (kind e) as (λ v. sum_by entry_slope (cond v (e ∷ filter kind es) (filter kind es)) ≡ cond v (entry_slope e) 0 + sum_by entry_slope (filter kind es))
    [ true ↦ sum_by-cons entry_slope e (filter kind es) | false ↦ sym (zero-add (sum_by entry_slope (filter kind es))) ]

pub sum-filter : (b kind : Entry → Bool) (es : List Entry)
    → sum_by entry_slope (filter kind (filter b es)) ≡ part b kind es
sum-filter b kind [] = refl
sum-filter b kind (e ∷ es) = grind (arith, sum-filter b kind es, sum-filter-cons, zero-add)

pub above-filter : (b : Entry → Bool) (now : ℕ) (x : Entry) (es : List Entry)
    → above now x (filter b es) ≡ total b now x es
above-filter b now x es = sum-filter b (comes_after now x) es

-- the same by the condition on the set, beside a sum that went before
abbrev pub Holds : ℕ → Caps → ℕ → (Entry → Bool) → List Entry → Entry → Type 0
Holds now caps sum b set x = b x ≡ nat_le (sum + total b now x set + entry_slope x) (cap_of caps x.want.class)

pub all_with : {X : Type 0} {P Q R : X → Type 0} (xs : List X) → AllByRecursion P xs → AllByRecursion Q xs
    → ((x : X) → P x → Q x → R x) → AllByRecursion R xs
all_with [] p q f = tt
all_with (x ∷ xs) p q f = (f x p.0 q.0, all_with xs p.1 q.1 f)

-- of two entries one goes before the other at most
goes_one_way : (now : ℕ) (o : IsImportanceOrder now) (x y : Entry) → comes_after now y x ≡ true
    → comes_after now x y ≡ false
goes_one_way now o x y h = grind (arith, and_right, false_from_ne_true, and_parts)

not_itself : (now : ℕ) (x : Entry) → comes_after now x x ≡ false
not_itself now x = grind (arith, and_left, not_from_true, eq-eqb)

-- an entry that goes before x counts where it is chosen, and another doesn't
pub weight-no : (b g : Bool) (s : ℕ) → g ≡ false → cond b (cond g s 0) 0 ≡ 0
weight-no b g s h1 = grind (arith, cond-false)

pub weight-yes : (b g : Bool) (s : ℕ) → g ≡ true → cond b (cond g s 0) 0 ≡ cond b s 0
weight-yes b g s h1 = grind (arith, cond-true)

-- nothing that goes after x goes before it
total-none : (b : Entry → Bool) (now : ℕ) (o : IsImportanceOrder now) (x : Entry) (es : List Entry)
    → AllByRecursion (λ y. comes_after now y x ≡ true) es → total b now x es ≡ 0
total-none b now o x [] h = refl
total-none b now o x (e ∷ es) h = grind (arith, total-none b now o x es h.1, weight-no, goes_one_way)

-- at the head nothing goes before
pub total-head : (b : Entry → Bool) (now : ℕ) (o : IsImportanceOrder now) (x : Entry) (xs : List Entry)
    → AllByRecursion (λ y. comes_after now y x ≡ true) xs → total b now x (x ∷ xs) ≡ 0
total-head b now o x xs h = grind (arith, weight-no, not_itself, total-none)

-- further on the head counts where it is chosen
pub total-tail : (b : Entry → Bool) (now : ℕ) (x y : Entry) (xs : List Entry) (sum : ℕ)
    → comes_after now y x ≡ true
    → sum + cond (b x) (entry_slope x) 0 + total b now y xs ≡ sum + total b now y (x ∷ xs)
total-tail b now x y xs sum h = grind (arith, weight-yes)

pub holds_from_runs : (now : ℕ) (o : IsImportanceOrder now) (caps : Caps) (sum : ℕ) (b : Entry → Bool) (xs : List Entry)
    → IsRanked now xs → Runs caps sum b xs → AllByRecursion (Holds now caps sum b xs) xs
holds_from_runs now o caps sum b [] importance_order runs = tt
holds_from_runs now o caps sum b (x ∷ xs) importance_order runs =
    let none : sum ≡ sum + total b now x (x ∷ xs) = omega (arith, total-head b now o x xs importance_order.0) in
    let head : b x ≡ nat_le (sum + total b now x (x ∷ xs) + entry_slope x) (cap_of caps x.want.class) = runs.0 ∙ ap (λ n. nat_le (n + entry_slope x) (cap_of caps x.want.class)) none in
    let rest : AllByRecursion (Holds now caps (sum + cond (b x) (entry_slope x) 0) b xs) xs = holds_from_runs now o caps (sum + cond (b x) (entry_slope x) 0) b xs importance_order.1 runs.1 in
    (head, all_with xs importance_order.0 rest (λ y before h. h ∙ ap (λ n. nat_le (n + entry_slope y) (cap_of caps y.want.class)) (total-tail b now x y xs sum before)))

pub runs_from_holds : (now : ℕ) (o : IsImportanceOrder now) (caps : Caps) (sum : ℕ) (b : Entry → Bool) (xs : List Entry)
    → IsRanked now xs → AllByRecursion (Holds now caps sum b xs) xs → Runs caps sum b xs
runs_from_holds now o caps sum b [] importance_order holds = tt
runs_from_holds now o caps sum b (x ∷ xs) importance_order holds =
    let none : sum + total b now x (x ∷ xs) ≡ sum = omega (arith, total-head b now o x xs importance_order.0) in
    let rest : AllByRecursion (Holds now caps (sum + cond (b x) (entry_slope x) 0) b xs) xs
    = all_with xs importance_order.0 holds.1
    (λ y before h. h ∙ ap (λ n. nat_le (n + entry_slope y) (cap_of caps y.want.class)) (sym (total-tail b now x y xs sum before))) in (
      holds.0 ∙ ap (λ n. nat_le (n + entry_slope x) (cap_of caps x.want.class)) none,
      runs_from_holds now o caps (sum + cond (b x) (entry_slope x) 0) b xs importance_order.1 rest,
    )

-- a pass comes out in one way
pub runs_agree : (caps : Caps) (s t : ℕ) (b c : Entry → Bool) (xs : List Entry) → s ≡ t → Runs caps s b xs
    → Runs caps t c xs → AllByRecursion (λ x. b x ≡ c x) xs
runs_agree caps s t b c [] e p q = tt
runs_agree caps s t b c (x ∷ xs) e p q =
    let same : b x ≡ c x = p.0 ∙ (ap (λ n. nat_le (n + entry_slope x) (cap_of caps x.want.class)) e ∙ sym q.0) in
    let sums : s + cond (b x) (entry_slope x) 0 ≡ t + cond (c x) (entry_slope x) 0 = ap (λ n. n + cond (b x) (entry_slope x) 0) e ∙ ap (λ v. t + cond v (entry_slope x) 0) same in
    (same, runs_agree caps (s + cond (b x) (entry_slope x) 0) (t + cond (c x) (entry_slope x) 0) b c xs sums p.1 q.1)

-- two choices that agree on the entries run alike
pub runs_like : (caps : Caps) (s t : ℕ) (b c : Entry → Bool) (xs : List Entry) → s ≡ t
    → AllByRecursion (λ x. b x ≡ c x) xs → Runs caps s b xs → Runs caps t c xs
runs_like caps s t b c [] e same runs = tt
runs_like caps s t b c (x ∷ xs) e same runs =
    let sums : s + cond (b x) (entry_slope x) 0 ≡ t + cond (c x) (entry_slope x) 0 = ap (λ n. n + cond (b x) (entry_slope x) 0) e ∙ ap (λ v. t + cond v (entry_slope x) 0) same.0 in (
      sym same.0 ∙ (runs.0 ∙ ap (λ n. nat_le (n + entry_slope x) (cap_of caps x.want.class)) e),
      runs_like caps (s + cond (b x) (entry_slope x) 0) (t + cond (c x) (entry_slope x) 0) b c xs sums same.1 runs.1,
    )

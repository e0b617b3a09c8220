-- A decision stands when moments are set and time passes.
use Rattle.std.proofs.Common.{◌≡◌, ℕ, ◌+◌, ◌<◌, ◌≤◌, Bool, true, false, not, ◌==◌, cond, List, [], ◌∷◌, map, Option, is_some, refl, sym, ◌∙◌, ap, subst, arith}
use Rattle.std.specs.{declared.cmp.Ordering.Ordering, declared.cmp.Ordering.TheVariants.Greater, Ordering.nat_cmp, Ordering.is_lt, Ordering.ordering_then, List.AllByRecursion}
use Rattle.std.proofs.lemmas.{Bool.and_parts, Bool.and_from, Bool.cases_order, Bool.leb-false, Bool.lt-leb, Bool.Decides.nat_tests}
use Rattle.srp_base.proofs.Arithmetic.{less_is_below, same_is_equal}
use Rattle.srp_base.specs.declared.numbers.Cs.{Cs}
use Rattle.stream_importance.specs.declared.{entry.Entry.Entry, slope.Caps.Caps}
use Rattle.stream_importance.specs.{Importance.class_number, Importance.rank_number, Importance.moment_or, Importance.is_more_important}
use Rattle.port_ledger.specs.{stream_of, entry_slope, comes_after, above, does_fit, marked_set, IsDecision, marks_of, since_after, with_moments, Decides, IsKept}
use Rattle.port_ledger.specs.Book.{Book}
use Rattle.port_ledger.proofs.Running.{sum-filter-cons}

pub above_is_greater : (p q : ℕ) → q < p → nat_cmp p q ≡ Greater
above_is_greater p q h = grind (arith, nat_tests)

still_before : (p q later : ℕ) (rest : Ordering) → q ≤ later → is_lt (ordering_then (nat_cmp p q) rest) ≡ true
    → is_lt (ordering_then (nat_cmp p later) rest) ≡ true
still_before p q later rest up h = grind (arith, cases_order, same_is_equal, less_is_below, above_is_greater)

pub still_first : (first second rest : Ordering) (p q later : ℕ) → q ≤ later
    → is_lt (ordering_then first (ordering_then second (ordering_then (nat_cmp p q) rest))) ≡ true
    → is_lt (ordering_then first (ordering_then second (ordering_then (nat_cmp p later) rest))) ≡ true
still_first first second rest p q later h1 h2 = grind (arith, still_before)

-- a booked entry, with its moment, and one that isn't booked
abbrev pub kept : ℕ → Entry → Entry
kept now x = record x { since = since_after now x.since true }

abbrev pub left_out : ℕ → Entry → Entry
left_out now x = record x { since = since_after now x.since false }

-- the booked set is the same, with the moments
marked-settled : (now : ℕ) (xs : List Entry) (marks : List Bool)
    → marked_set (with_moments now xs marks) marks ≡ map (kept now) (marked_set xs marks)
marked-settled now [] marks = refl
marked-settled now (x ∷ xs) [] = refl
marked-settled now (x ∷ xs) (true ∷ marks) = ap (λ ys. kept now x ∷ ys) (marked-settled now xs marks)
marked-settled now (x ∷ xs) (false ∷ marks) = marked-settled now xs marks

-- among booked entries nothing changes
above-kept : (now later : ℕ) (x : Entry) (set : List Entry)
    → above later (kept now x) (map (kept now) set) ≡ above now x set
above-kept now later x [] = refl
above-kept now later x (e ∷ es) =
    sum-filter-cons (comes_after later (kept now x)) (kept now e) (map (kept now) es)
    ∙ (ap (λ n. cond (comes_after now x e) (entry_slope e) 0 + n) (above-kept now later x es) ∙ sym (sum-filter-cons (comes_after now x) e es))

weight_grows : (g h : Bool) (slope : ℕ) → (g ≡ true → h ≡ true) → cond g slope 0 ≤ cond h slope 0
weight_grows g h slope h1 = grind arith

goes_still : (now later : ℕ) (x e : Entry) → moment_or now x.since ≤ later → comes_after now x e ≡ true
    → comes_after later (left_out now x) (kept now e) ≡ true
goes_still now later x e up h =
    let parts : (not (stream_of e == stream_of x) ≡ true) × (is_more_important now e x ≡ true) = and_parts (not (stream_of e == stream_of x)) (is_more_important now e x) h in
    and_from (not (stream_of e == stream_of x)) (is_more_important later (kept now e) (left_out now x)) parts.0
    (still_first (nat_cmp (class_number e.want.class) (class_number x.want.class)) (nat_cmp (rank_number e.want.rank) (rank_number x.want.rank)) (nat_cmp (stream_of e) (stream_of x))
    (moment_or now e.since) (moment_or now x.since) later up parts.1)

-- above one that isn't booked stands no less than before
above_grows : (now later : ℕ) (x : Entry) (set : List Entry) → moment_or now x.since ≤ later
    → above now x set ≤ above later (left_out now x) (map (kept now) set)
above_grows now later x [] up = omega arith
above_grows now later x (e ∷ es) up =
    let grows : cond (comes_after now x e) (entry_slope e) 0 ≤ cond (comes_after later (left_out now x) (kept now e)) (entry_slope e) 0 =
    weight_grows (comes_after now x e) (comes_after later (left_out now x) (kept now e)) (entry_slope e) (goes_still now later x e up) in
    omega (
      arith,
      grows,
      above_grows now later x es up,
      sum-filter-cons (comes_after now x) e es,
      sum-filter-cons (comes_after later (left_out now x)) (kept now e) (map (kept now) es),
    )

one_stands : (now later : ℕ) (caps : Caps) (set : List Entry) (x : Entry) (mark : Bool) → moment_or now x.since ≤ later → mark ≡ does_fit now caps set x
    → mark ≡ does_fit later caps (map (kept now) set) (record x { since = since_after now x.since mark })
one_stands now later caps set x mark h1 h2 = grind (arith, above-kept, leb-false, lt-leb, above_grows)

fits_stand : (now later : ℕ) (caps : Caps) (set xs : List Entry) (marks : List Bool)
    → AllByRecursion (λ x. moment_or now x.since ≤ later) xs → marks ≡ map (does_fit now caps set) xs
    → marks ≡ map (does_fit later caps (map (kept now) set)) (with_moments now xs marks)
fits_stand now later caps set [] marks up h = h
fits_stand now later caps set (x ∷ xs) [] up h = cc
fits_stand now later caps set (x ∷ xs) (mark ∷ marks) up h =
    let first : mark ≡ does_fit now caps set x = cc in
    let rest : marks ≡ map (does_fit now caps set) xs = cc in
    ap (λ m. m ∷ marks) (one_stands now later caps set x mark up.0 first)
    ∙ ap (λ ms. does_fit later caps (map (kept now) set) (record x { since = since_after now x.since mark }) ∷ ms) (fits_stand now later caps set xs marks up.1 rest)

pub decision_stands : (now later : ℕ) (caps : Caps) (xs : List Entry) (marks : List Bool)
    → AllByRecursion (λ x. moment_or now x.since ≤ later) xs → IsDecision now caps xs marks
    → IsDecision later caps (with_moments now xs marks) marks
decision_stands now later caps xs marks up d = grind (arith, fits_stand, marked-settled)

-- entries that are booked where they have a moment are settled already
pub since_own : (now : ℕ) (since : Option Cs) → since_after now since (is_some since) ≡ since
since_own now since = grind arith

pub settled-own : (now : ℕ) (xs : List Entry) → with_moments now xs (marks_of xs) ≡ xs
settled-own now [] = refl
settled-own now (x ∷ xs) = grind (arith, settled-own now xs, since_own)

pub moments_before : (now later : ℕ) (xs : List Entry) → now ≤ later
    → AllByRecursion (λ x. moment_or now x.since ≤ now) xs
    → AllByRecursion (λ x. moment_or now x.since ≤ later) xs
moments_before now later [] up h = tt
moments_before now later (x ∷ xs) up h = (omega (arith, h.0, up), moments_before now later xs up h.1)

-- time passes
pub decision_later : (now later : ℕ) (caps : Caps) (xs : List Entry) → now ≤ later
    → AllByRecursion (λ x. moment_or now x.since ≤ now) xs → IsDecision now caps xs (marks_of xs)
    → IsDecision later caps xs (marks_of xs)
decision_later now later caps xs up h d =
    subst (λ (ys : List Entry). IsDecision later caps ys (marks_of xs)) (settled-own now xs) (decision_stands now later caps xs (marks_of xs) (moments_before now later xs up h) d)

-- moments are set
pub decision_settled : (now : ℕ) (caps : Caps) (before after : List Entry)
    → AllByRecursion (λ x. moment_or now x.since ≤ now) before → Decides now caps before after
    → IsDecision now caps after (marks_of after)
decision_settled now caps before after h d = grind (arith, decision_stands)

-- the booked set of a ledger is decided at every later moment
pub book_stands : (book : Book) → IsKept book → (later : ℕ) → book.moment ≤ later
    → IsDecision later book.caps book.entries (marks_of book.entries)
book_stands book kept later up = decision_later book.moment later book.caps book.entries up kept.moments kept.decision

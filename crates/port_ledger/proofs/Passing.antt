-- One pass in the order of importance sets the moments of a decision, in the order and among the entries.
use Rattle.std.proofs.Common.{◌≡◌, ◌≢◌, ℕ, zero, suc, ◌+◌, ◌<◌, Bool, true, false, not, ◌&&◌, ◌==◌, cond, List, [], ◌∷◌, ◌++◌, map, length, get_or, set, take, drop, Option, refl, sym, ◌∙◌, ap, subst, arith, append_assoc, drop-cons, drop-set-lt, take-suc-set, Some, None, is_some}
use Rattle.std.specs.{List.AllByRecursion, List.AllWithin, List.list_any, List.Sorted.IsPermutation, Ordering.is_lt, Ordering.nat_cmp, Ordering.ordering_then}
use Rattle.std.proofs.lemmas.{Bool.eq-eqb, Bool.ne_eqb, Bool.eqb-true, Bool.cases_Bool, Bool.cases_lt, Bool.or_from, Bool.or_left, Bool.or_right, Bool.cond-true, Bool.cond-false, List.Elements.All-from_recursion, List.Sorted.IsPermutation-map, List.Sorted.IsPermutation-trans, List.Sorted.IsPermutation-sym, List.Sorted.list_any-IsPermutation}
use Rattle.std.proofs.lemmas.Bool.{or_parts as or_none}
use Rattle.srp_base.specs.declared.numbers.Cs.{Cs}
use Rattle.stream_importance.specs.declared.{entry.Entry.Entry, slope.Caps.Caps}
use Rattle.stream_importance.specs.Importance.{class_number, moment_or, rank_number, IsImportanceOrder}
use Rattle.port_ledger.specs.{stream_of, comes_after, entry_slope, with_moments, since_after, decided_entries, IsAscending, AreOfDifferentStreams, importance_order, has_room, place, sum_with, entries_passed, with_pass, with_since, IsOnlyIn, has_loss, loses}
use Rattle.port_ledger.proofs.{Running.Holds, Running.IsRanked, Running.Runs, Running.all_with, Running.holds_from_runs, Ranking.IsPermutation-ranked, Ranking.ranked_is_ranked, Ranking.holds_permuted, Ranking.all_permuted, Ranking.different_permuted, LettingIn.is_among, LettingIn.streams_let_in, LettingIn.taken_runs, Marking.different_from_ascending, Rounds.decided_by_choice, Settling.ranked_own}

-- an entry with the moment that a choice gives it
abbrev pub settled_at : ℕ → (Entry → Bool) → Entry → Entry
settled_at now b x = record x { since = since_after now x.since (b x) }

settled-map : (now : ℕ) (b : Entry → Bool) (xs : List Entry) → with_moments now xs (map b xs) ≡ map (settled_at now b) xs
settled-map now b [] = refl
settled-map now b (x ∷ xs) = ap (λ ys. settled_at now b x ∷ ys) (settled-map now b xs)

pub sum_with-cond : (sum : ℕ) (x : Entry) (let_in : Bool) → sum_with sum x let_in ≡ sum + cond let_in (entry_slope x) 0
sum_with-cond sum x let_in = grind arith

-- the sum runs on as the choice lets entries in
pub runs_on : (caps : Caps) (sum : ℕ) (b : Entry → Bool) (x : Entry) (xs : List Entry) → Runs caps sum b (x ∷ xs)
    → Runs caps (sum_with sum x (has_room caps sum x)) b xs
runs_on caps sum b x xs runs = grind (arith, Runs, sum_with-cond)

pub passed_is : (now : ℕ) (caps : Caps) (sum : ℕ) (b : Entry → Bool) (xs : List Entry) → Runs caps sum b xs
    → entries_passed now caps sum xs ≡ map (settled_at now b) xs
passed_is now caps sum b [] runs = refl
passed_is now caps sum b (x ∷ xs) runs = grind (arith, passed_is now caps (sum_with sum x (has_room caps sum x)) b xs (runs_on caps sum b x xs runs), runs_on)

-- whether an entry is of one of these streams
abbrev is_stream_in : List Entry → Entry → Bool
is_stream_in xs e = list_any (λ x. stream_of x == stream_of e) xs

-- the entry, settled where it is of one of these streams
abbrev settled_in : ℕ → (Entry → Bool) → List Entry → Entry → Entry
settled_in now b xs e = cond (is_stream_in xs e) (settled_at now b e) e

map_own : (xs : List Entry) → xs ≡ map (λ x. x) xs
map_own [] = refl
map_own (x ∷ xs) = ap (λ ys. x ∷ ys) (map_own xs)

not_in : (x : Entry) (xs : List Entry) → AllByRecursion (λ y. stream_of x ≢ stream_of y) xs → is_stream_in xs x ≡ false
not_in x [] ne = refl
not_in x (y ∷ ys) ne = grind (arith, not_in x ys ne.1, or_from, ne_eqb)

-- one more entry of the order, at one entry
one_settled : (now : ℕ) (b : Entry → Bool) (x : Entry) (xs : List Entry) (e : Entry)
    → AllByRecursion (λ y. stream_of x ≢ stream_of y) xs → (stream_of e ≡ stream_of x → e ≡ x)
    → settled_in now b xs (cond (stream_of e == stream_of x) (record e { since = since_after now x.since (b x) }) e)
    ≡ settled_in now b (x ∷ xs) e
one_settled now b x xs e ne only = grind (arith, cases_Bool, only, eqb-true, eq-eqb, cond-false, not_in, cond-true, or_left, ne_eqb)

all_settled : (now : ℕ) (b : Entry → Bool) (x : Entry) (xs es : List Entry)
    → AllByRecursion (λ y. stream_of x ≢ stream_of y) xs → IsOnlyIn es x
    → map (settled_in now b xs) (with_since es x (since_after now x.since (b x))) ≡ map (settled_in now b (x ∷ xs)) es
all_settled now b x xs [] ne only = refl
all_settled now b x xs (e ∷ es) ne only = grind (arith, all_settled now b x xs es ne only.1, one_settled)

-- setting a moment leaves the other streams as they were
only-with_since : (es : List Entry) (x y : Entry) (since : Option Cs) → stream_of x ≢ stream_of y → IsOnlyIn es y
    → IsOnlyIn (with_since es x since) y
only-with_since [] x y since ne only = tt
only-with_since (e ∷ es) x y since ne only = grind (arith, only-with_since es x y since ne only.1, eqb-true)

pub with_pass_is : (now : ℕ) (caps : Caps) (sum : ℕ) (b : Entry → Bool) (xs es : List Entry) → Runs caps sum b xs
    → AreOfDifferentStreams xs → AllByRecursion (IsOnlyIn es) xs
    → with_pass now caps sum xs es ≡ map (settled_in now b xs) es
with_pass_is now caps sum b [] es runs different only = map_own es
with_pass_is now caps sum b (x ∷ xs) es runs different only =
    ap (λ v. with_pass now caps (sum_with sum x (has_room caps sum x)) xs (with_since es x (since_after now x.since v))) (sym runs.0)
    ∙ (with_pass_is now caps (sum_with sum x (has_room caps sum x)) b xs (with_since es x (since_after now x.since (b x)))
    (runs_on caps sum b x xs runs) different.1
    (all_with xs different.0 only.1 (λ y ne h. only-with_since es x y (since_after now x.since (b x)) ne h))
    ∙ all_settled now b x xs es different.0 only.0)

-- entries of different streams are each the only one of its stream
pub only_own : (xs : List Entry) → AreOfDifferentStreams xs → AllByRecursion (IsOnlyIn xs) xs
only_own [] different = tt
only_own (x ∷ xs) different = (
  ((λ _. refl), all_with xs different.0 different.0 (λ y ne _ e. absurd (ne (sym e)))),
  all_with xs different.0 (only_own xs different.1) (λ y ne only. ((λ e. absurd (ne e)), only)),
)

in_own : (xs : List Entry) → AllByRecursion (λ e. is_stream_in xs e ≡ true) xs
in_own [] = tt
in_own (x ∷ xs) = grind (arith, in_own xs, or_left, eq-eqb, all_with, or_right)

-- the choice that a pass makes
abbrev choice_of : ℕ → Caps → List Entry → Entry → Bool
choice_of now caps order e = is_among (streams_let_in caps 0 (importance_order now order)) (stream_of e)

ranked_permuted : (now : ℕ) (es order : List Entry) → IsPermutation es order → IsPermutation es (importance_order now order)
ranked_permuted now es order p = IsPermutation-trans es order (importance_order now order) p (IsPermutation-ranked now order)

pub ranked_only : (now : ℕ) (es order : List Entry) → IsAscending es → IsPermutation es order
    → AllByRecursion (IsOnlyIn es) (importance_order now order)
ranked_only now es order up p =
    all_permuted (IsOnlyIn es) es (importance_order now order) (ranked_permuted now es order p) (only_own es (different_from_ascending es up))

choice_runs : (now : ℕ) (caps : Caps) (es order : List Entry) → IsAscending es → IsPermutation es order
    → Runs caps 0 (choice_of now caps order) (importance_order now order)
choice_runs now caps es order up p =
    taken_runs caps 0 (importance_order now order) (different_permuted es (importance_order now order) (ranked_permuted now es order p) (different_from_ascending es up))

entries_after : (now : ℕ) (caps : Caps) (es order : List Entry) → IsAscending es → IsPermutation es order
    → with_pass now caps 0 (importance_order now order) es ≡ map (settled_at now (choice_of now caps order)) es
entries_after now caps es order up p =
    let b : Entry → Bool = choice_of now caps order in
    let q : IsPermutation es (importance_order now order) = ranked_permuted now es order p in
    with_pass_is now caps 0 b (importance_order now order) es (choice_runs now caps es order up p)
    (different_permuted es (importance_order now order) q (different_from_ascending es up)) (ranked_only now es order up p)
    ∙ entry_map (settled_in now b (importance_order now order)) (settled_at now b) es
    (all_with es (in_own es) (in_own es)
    (λ e h _. cond-true (is_stream_in (importance_order now order) e) (settled_at now b e) e
    (sym (list_any-IsPermutation (λ x. stream_of x == stream_of e) es (importance_order now order) q) ∙ h)))
  where
    entry_map : (f g : Entry → Entry) (xs : List Entry) → AllByRecursion (λ x. f x ≡ g x) xs → map f xs ≡ map g xs
    entry_map f g [] h = refl
    entry_map f g (x ∷ xs) h = ap (λ y. y ∷ map f xs) h.0 ∙ ap (λ ys. g x ∷ ys) (entry_map f g xs h.1)

-- a pass in the order of importance decides
pub pass_decides : (now : ℕ) (o : IsImportanceOrder now) (caps : Caps) (es order : List Entry) → IsAscending es
    → IsPermutation es order → with_pass now caps 0 (importance_order now order) es ≡ decided_entries now caps es
pass_decides now o caps es order up p =
    let b : Entry → Bool = choice_of now caps order in
    let different : AreOfDifferentStreams es = different_from_ascending es up in
    let q : IsPermutation es (importance_order now order) = ranked_permuted now es order p in
    let in_order = holds_from_runs now o caps 0 b (importance_order now order) (ranked_is_ranked now o order (different_permuted es order p different)) (choice_runs now caps es order up p) in
    let holds : AllByRecursion (Holds now caps 0 b es) es = holds_permuted now caps 0 b (importance_order now order) es (IsPermutation-sym es (importance_order now order) q) in_order in
    entries_after now caps es order up p ∙ (sym (settled-map now b es) ∙ sym (decided_by_choice now o caps b es different holds))

-- and leaves the same entries in the order
pub pass_keeps : (now : ℕ) (o : IsImportanceOrder now) (caps : Caps) (es order : List Entry) → IsAscending es
    → IsPermutation es order → IsPermutation (decided_entries now caps es) (entries_passed now caps 0 (importance_order now order))
pass_keeps now o caps es order up p =
    let b : Entry → Bool = choice_of now caps order in
    let q : IsPermutation es (importance_order now order) = ranked_permuted now es order p in
    subst (λ (ys : List Entry). IsPermutation (decided_entries now caps es) ys) (sym (passed_is now caps 0 b (importance_order now order) (choice_runs now caps es order up p)))
    (subst (λ (ys : List Entry). IsPermutation ys (map (settled_at now b) (importance_order now order))) (sym (entries_after now caps es order up p) ∙ pass_decides now o caps es order up p)
    (IsPermutation-map (settled_at now b) es (importance_order now order) q))

-- how the moment of one entry is set among these
with_since-above : (es : List Entry) (x : Entry) (since : Option Cs) → AllByRecursion (λ y. stream_of x < stream_of y) es
    → es ≡ with_since es x since
with_since-above [] x since h = refl
with_since-above (e ∷ es) x since h = grind (arith, with_since-above es x since h.1, ne_eqb)

pub with_since-found : (es : List Entry) (x : Entry) (since : Option Cs) (i : ℕ) (d : Entry) → IsAscending es
    → i < length es → stream_of (get_or es i d) ≡ stream_of x
    → set es i (record (get_or es i d) { since = since }) ≡ with_since es x since
with_since-found [] x since i d up l e = absurd (omega (arith, l))
with_since-found (y ∷ ys) x since zero d up l e = grind (arith, with_since-above, all_with, eq-eqb)
with_since-found (y ∷ ys) x since (suc i) d up l e = grind (arith, with_since-found ys x since i d up.1 (omega (arith, l)) e, All-from_recursion, ne_eqb)

with_since-none : (es : List Entry) (x : Entry) (since : Option Cs)
    → ((k : ℕ) (d : Entry) → k < length es → stream_of (get_or es k d) ≢ stream_of x) → es ≡ with_since es x since
with_since-none [] x since h = refl
with_since-none (e ∷ es) x since h =
    ap (λ ys. e ∷ ys) (with_since-none es x since (λ k d l. h (suc k) d (omega (arith, l))))
    ∙ ap (λ v. cond v (record e { since = since }) e ∷ with_since es x since) (sym (ne_eqb (stream_of e) (stream_of x) (h 0 e (omega arith))))

pub with_since-missing : (es : List Entry) (x : Entry) (since : Option Cs) (i : ℕ)
    → AllWithin (λ y. stream_of y < stream_of x) es 0 i
    → AllWithin (λ y. stream_of x < stream_of y) es i (length es) → es ≡ with_since es x since
with_since-missing es x since i low high = grind (arith, with_since-none, cases_lt)

-- a moment that is the entry's own changes nothing
pub with_since-own : (es : List Entry) (x : Entry) (since : Option Cs) → x.since ≡ since → IsOnlyIn es x
    → es ≡ with_since es x since
with_since-own [] x since same only = refl
with_since-own (e ∷ es) x since same only = grind (arith, with_since-own es x since same only.1, eqb-true)

-- what a pass keeps, at its i-th entry
pub record PassesAt (now : ℕ) (caps : Caps) (start : ℕ) (first before : List Entry) (sum i : ℕ) (order es : List Entry) : Type 0 where
  pub order_is : entries_passed now caps start first ≡ take i order ++ entries_passed now caps sum (drop i order)
  pub entries_is : with_pass now caps start first before ≡ with_pass now caps sum (drop i order) es
  pub ascending : IsAscending es
  pub different : AreOfDifferentStreams (drop i order)
  pub only : AllByRecursion (IsOnlyIn es) (drop i order)

-- setting a moment moves no stream
ascending-with_since : (es : List Entry) (x : Entry) (since : Option Cs) → IsAscending es → IsAscending (with_since es x since)
ascending-with_since [] x since up = tt
ascending-with_since (e ∷ es) x since up =
    elim (stream_of e == stream_of x) as (λ v. IsAscending (cond v (record e { since = since }) e ∷ with_since es x since)) [
      | true ↦ (above e es up.0, ascending-with_since es x since up.1)
      | false ↦ (above e es up.0, ascending-with_since es x since up.1)
    ]
  where
    above : (y : Entry) (ys : List Entry) → AllByRecursion (λ z. stream_of y < stream_of z) ys
        → AllByRecursion (λ z. stream_of y < stream_of z) (with_since ys x since)
    above y [] h = tt
    above y (z ∷ zs) h =
        (elim (stream_of z == stream_of x) as (λ v. stream_of y < stream_of (cond v (record z { since = since }) z)) [ true ↦ h.0 | false ↦ h.0 ], above y zs h.1)

-- the head of what is left is passed
pass_head : (now : ℕ) (caps : Caps) (start : ℕ) (first before : List Entry) (sum i : ℕ) (order es : List Entry) (x : Entry) (since : Option Cs)
    → i < length order → drop i order ≡ x ∷ drop (suc i) order → since ≡ since_after now x.since (has_room caps sum x)
    → PassesAt now caps start first before sum i order es
    → PassesAt now caps start first before (sum_with sum x (has_room caps sum x)) (suc i) (set order i (record x { since = since })) (with_since es x since)
pass_head now caps start first before sum i order es x since l rest set_to at =
    let y : Entry = record x { since = since } in
    let kept : drop (suc i) (set order i y) ≡ drop (suc i) order = drop-set-lt (suc i) order i y (omega arith) in
    let done : take (suc i) (set order i y) ≡ take i order ++ (y ∷ []) = take-suc-set order i y l in
    let sum' : ℕ = sum_with sum x (has_room caps sum x) in
    let left : AreOfDifferentStreams (x ∷ drop (suc i) order) = subst (λ (ys : List Entry). AreOfDifferentStreams ys) rest at.different in
    let only : AllByRecursion (IsOnlyIn es) (x ∷ drop (suc i) order) = subst (λ (ys : List Entry). AllByRecursion (IsOnlyIn es) ys) rest at.only in
    record {
      order_is =
          at.order_is
          ∙ (ap (λ ys. take i order ++ entries_passed now caps sum ys) rest
          ∙ (ap (λ s. take i order ++ record x { since = s } ∷ entries_passed now caps sum' (drop (suc i) order)) (sym set_to)
          ∙ (sym (append_assoc (take i order) (y ∷ []) (entries_passed now caps sum' (drop (suc i) order)))
          ∙ (ap (λ ys. ys ++ entries_passed now caps sum' (drop (suc i) order)) (sym done) ∙ ap (λ ys. take (suc i) (set order i y) ++ entries_passed now caps sum' ys) (sym kept)))));
      entries_is =
          at.entries_is
          ∙ (ap (λ ys. with_pass now caps sum ys es) rest
          ∙ (ap (λ s. with_pass now caps sum' (drop (suc i) order) (with_since es x s)) (sym set_to) ∙ ap (λ ys. with_pass now caps sum' ys (with_since es x since)) (sym kept)));
      ascending = ascending-with_since es x since at.ascending;
      different = subst (λ (ys : List Entry). AreOfDifferentStreams ys) (sym kept) left.1;
      only =
          subst (λ (ys : List Entry). AllByRecursion (IsOnlyIn (with_since es x since)) ys) (sym kept)
          (all_with (drop (suc i) order) left.0 only.1 (λ z ne h. only-with_since es x z since ne h));
    }

pub pass_more : (now : ℕ) (caps : Caps) (start : ℕ) (first before : List Entry) (sum i : ℕ) (order es : List Entry) (d : Entry) (since : Option Cs) (sum' : ℕ)
    → i < length order → since ≡ since_after now (get_or order i d).since (has_room caps sum (get_or order i d))
    → sum' ≡ sum_with sum (get_or order i d) (has_room caps sum (get_or order i d))
    → PassesAt now caps start first before sum i order es
    → PassesAt now caps start first before sum' (i + 1) (set order i (record (get_or order i d) { since = since })) (with_since es (get_or order i d) since)
pass_more now caps start first before sum i order es d since sum' l set_to next at =
    let step = pass_head now caps start first before sum i order es (get_or order i d) since l (drop-cons order i d l) set_to at in
    let on : suc i ≡ i + 1 = omega arith in
    subst (λ (n : ℕ). PassesAt now caps start first before n (i + 1) (set order i (record (get_or order i d) { since = since })) (with_since es (get_or order i d) since)) (sym next)
    (subst (λ (n : ℕ). PassesAt now caps start first before (sum_with sum (get_or order i d) (has_room caps sum (get_or order i d))) n
    (set order i (record (get_or order i d) { since = since })) (with_since es (get_or order i d) since)) on step)

-- at the start nothing is passed, and at the end all is
pub passes_first : (now : ℕ) (caps : Caps) (start : ℕ) (order es : List Entry) → IsAscending es → AreOfDifferentStreams order
    → AllByRecursion (IsOnlyIn es) order → PassesAt now caps start order es start 0 order es
passes_first now caps start order es up different only =
    record { order_is = refl; entries_is = refl; ascending = up; different = different; only = only }

pub ranked_different : (now : ℕ) (es order : List Entry) → IsAscending es → IsPermutation es order
    → AreOfDifferentStreams (importance_order now order)
ranked_different now es order up p =
    different_permuted es (importance_order now order) (ranked_permuted now es order p) (different_from_ascending es up)

-- an entry that isn't booked and finds no room is passed over
pub pass_skip : (now : ℕ) (caps : Caps) (start : ℕ) (first before : List Entry) (sum i : ℕ) (order es : List Entry) (d : Entry)
    → i < length order → has_room caps sum (get_or order i d) ≡ false → is_some (get_or order i d).since ≡ false
    → PassesAt now caps start first before sum i order es
    → PassesAt now caps start first before sum (i + 1) (set order i (get_or order i d)) es
pass_skip now caps start first before sum i order es d l full unbooked at =
    let x : Entry = get_or order i d in
    let none : x.since ≡ None = no_moment x.since unbooked in
    let only : AllByRecursion (IsOnlyIn es) (x ∷ drop (suc i) order) = subst (λ (ys : List Entry). AllByRecursion (IsOnlyIn es) ys) (drop-cons order i d l) at.only in
    subst (λ (y : Entry). PassesAt now caps start first before sum (i + 1) (set order i y) es) (ap (λ s. record x { since = s }) (sym none))
    (subst (λ (ys : List Entry). PassesAt now caps start first before sum (i + 1) (set order i (record x { since = None })) ys) (sym (with_since-own es x None none only.0))
    (pass_more now caps start first before sum i order es d None sum l
    (ap (since_after now x.since) (sym full)) (ap (sum_with sum x) (sym full)) at))
  where
    no_moment : (since : Option Cs) → is_some since ≡ false → since ≡ None
    no_moment None h = refl
    no_moment (Some c) h = cc

-- ---- where no booking is lost, a pass moves nobody

-- which of two entries comes after the other goes by their moments, and by nothing else that a pass sets
abbrev after_at : ℕ → ℕ → Entry → Entry → Bool
after_at m n y x =
    not (stream_of x == stream_of y)
    && is_lt (ordering_then (nat_cmp (class_number x.want.class) (class_number y.want.class))
    (ordering_then (nat_cmp (rank_number x.want.rank) (rank_number y.want.rank))
    (ordering_then (nat_cmp m n) (nat_cmp x.want.stream.0 y.want.stream.0))))

-- a pass moves the moment of an entry from none to this one, or not at all, where it ends no booking
moment_stays : (now : ℕ) (x : Entry) (s : Option Cs) (v : Bool) → x.since ≡ s → loses x v ≡ false → moment_or now (since_after now s v) ≡ moment_or now s
moment_stays now x s v h1 h2 = grind arith

module _ (now : ℕ) (caps : Caps) where
  all_passed : (x : Entry) (v : Bool) (sum : ℕ) (ys : List Entry) → loses x v ≡ false → AllByRecursion (λ y. comes_after now y x ≡ true) ys → has_loss caps sum ys ≡ false
      → AllByRecursion (λ y. comes_after now y (record x { since = since_after now x.since v }) ≡ true) (entries_passed now caps sum ys)
  all_passed x v sum [] stays h none = tt
  all_passed x v sum (y ∷ ys) stays h none =
      let w : Bool = has_room caps sum y in
      let parts = or_none (loses y w) (has_loss caps (sum_with sum y w) ys) none in (
        ap (λ m. after_at m (moment_or now (since_after now y.since w)) y x) (moment_stays now x x.since v refl stays)
            ∙ (ap (λ n. after_at (moment_or now x.since) n y x) (moment_stays now y y.since w refl parts.0) ∙ h.0),
        all_passed x v (sum_with sum y w) ys stays h.1 parts.1,
      )

  ranked_passed : (sum : ℕ) (xs : List Entry) → IsRanked now xs → has_loss caps sum xs ≡ false → IsRanked now (entries_passed now caps sum xs)
  ranked_passed sum [] r none = tt
  ranked_passed sum (x ∷ xs) r none =
      let v : Bool = has_room caps sum x in
      let parts = or_none (loses x v) (has_loss caps (sum_with sum x v) xs) none in
      (all_passed x v (sum_with sum x v) xs parts.0 r.0 parts.1, ranked_passed (sum_with sum x v) xs r.1 parts.1)

  pub stays_ranked : (sum : ℕ) (xs : List Entry) → IsRanked now xs → has_loss caps sum xs ≡ false
      → entries_passed now caps sum xs ≡ importance_order now (entries_passed now caps sum xs)
  stays_ranked sum xs r none = sym (ranked_own now (entries_passed now caps sum xs) (ranked_passed sum xs r none))

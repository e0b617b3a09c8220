-- Where a stream stands in a list that ascends by StreamID, and whether it is among chosen ones.
use Rattle.std.proofs.Common.{◌≡◌, ◌≢◌, ℕ, zero, suc, ◌<◌, ◌≤◌, false, ◌==◌, List, [], ◌∷◌, ◌++◌, length, get_or, take, drop, set, Some, None, Result, Ok, Err, refl, sym, ◌∙◌, ap, arith, inl, inr, IfOk, IfErr}
use Rattle.std.specs.Prelude.{find, nat_lt}
use Rattle.std.specs.{Ordering.nat_cmp, Ordering.is_lt, declared.cmp.Ordering.TheVariants.Less, declared.cmp.Ordering.TheVariants.Greater, List.AllByRecursion, List.AllWithin, List.HoldsAt, List.list_any, List.Sorted.IsBinarySearchResult, List.Sorted.IsSearchInRange, List.Sorted.IsSortedBy}
use Rattle.std.proofs.lemmas.{Bool.eq-eqb, Bool.ne_eqb, Bool.cases_lt, Bool.lt-ltb, Bool.le-ltb, Bool.or_from, Bool.and_left, Bool.cond-true, Bool.cond-false, Bool.Decides.nat_tests, Cmp.nat_cmp_total, List.Recursion.found_at, List.Recursion.found_nowhere, List.Sorted.searchable_from_sorted, List.Elements.All-from_recursion}
use Rattle.srp_base.proofs.Arithmetic.{same_number as equal_is}
use Rattle.srp_base.specs.declared.{bandwidth.Class.TheVariants.A, bandwidth.Rank.TheVariants.Emergency, numbers.StreamId.StreamId}
use Rattle.stream_importance.specs.declared.{entry.Entry.Entry, entry.Want.Want}
use Rattle.port_ledger.specs.{stream_of, IsAscending, entry_of, entry_with, unbooked_entry, with_want, same_entry}

-- of two places the earlier has the lower StreamID
pub ascending_at : (xs : List Entry) → IsAscending xs → (i j : ℕ) (d : Entry) → i < j → j < length xs
    → stream_of (get_or xs i d) < stream_of (get_or xs j d)
ascending_at [] up i j d l k = absurd (omega (arith, k))
ascending_at (x ∷ xs) up i zero d l k = absurd (omega (arith, l))
ascending_at (x ∷ xs) up zero (suc j) d l k = All-from_recursion (λ y. stream_of x < stream_of y) xs up.0 j d (omega (arith, k))
ascending_at (x ∷ xs) up (suc i) (suc j) d l k = ascending_at xs up.1 i j d (omega (arith, l)) (omega (arith, k))

sorted_from_ascending : (xs : List Entry) → IsAscending xs
    → IsSortedBy (λ a b. is_lt (nat_cmp (stream_of a) (stream_of b))) xs
sorted_from_ascending xs up k d low high = grind (arith, ascending_at, nat_tests)

less_is : (a b : ℕ) → nat_cmp a b ≡ Less → a < b
less_is a b h = grind (arith, nat_tests)

greater_is : (a b : ℕ) → nat_cmp a b ≡ Greater → b < a
greater_is a b h = grind (arith, nat_tests)

pub place_found : (xs : List Entry) (stream : ℕ) (r : Result ℕ ℕ) → IsSearchInRange r (length xs)
    → IsBinarySearchResult (λ y. nat_cmp (stream_of y) stream) xs r
    → IfOk r (λ i. (i < length xs) × HoldsAt (λ x. stream_of x ≡ stream) xs i)
place_found xs stream (Ok i) range h = (range, λ d. equal_is (stream_of (get_or xs i d)) stream (h d))
place_found xs stream (Err i) range h = tt

pub place_missing : (xs : List Entry) (stream : ℕ) (r : Result ℕ ℕ) → IsAscending xs
    → IsSearchInRange r (length xs) → IsBinarySearchResult (λ y. nat_cmp (stream_of y) stream) xs r
    → IfErr r (λ i. (i ≤ length xs) × AllWithin (λ x. stream_of x < stream) xs 0 i × AllWithin (λ x. stream < stream_of x) xs i (length xs))
place_missing xs stream (Ok i) up range h = tt
place_missing xs stream (Err i) up range h =
    let split : AllWithin (λ y. nat_cmp (stream_of y) stream ≡ Less) xs 0 i × AllWithin (λ y. nat_cmp (stream_of y) stream ≡ Greater) xs i (length xs) =
    h (searchable_from_sorted nat_cmp_total stream_of xs stream (sorted_from_ascending xs up)) in
    (range, (λ k d a b. less_is (stream_of (get_or xs k d)) stream (split.0 k d a b)), (λ k d a b. greater_is (stream_of (get_or xs k d)) stream (split.1 k d a b)))

-- an entry that is read of no list
abbrev pub blank : Entry
blank = record { want = record { stream = record { 0 = 0 }; class = A; rank = Emergency; slope = 0 }; since = None }

-- the stream's entry is the one at that place
pub found_is : (xs : List Entry) (stream i : ℕ) (d : Entry) → IsAscending xs → i < length xs
    → stream_of (get_or xs i d) ≡ stream → find (λ x. stream_of x == stream) xs ≡ Some (get_or xs i d)
found_is xs stream i d up l e =
    found_at (find (λ x. stream_of x == stream)) (λ x. stream_of x == stream) (λ x. Some x) None refl (λ _ _. refl) xs i d l
    (λ k below. ne_eqb (stream_of (get_or xs k d)) stream (λ f. omega (arith, ascending_at xs up k i d below l, e, f)))
    (eq-eqb (stream_of (get_or xs i d)) stream e)

pub missing_is : (xs : List Entry) (stream i : ℕ) → AllWithin (λ x. stream_of x < stream) xs 0 i
    → AllWithin (λ x. stream < stream_of x) xs i (length xs) → find (λ x. stream_of x == stream) xs ≡ None
missing_is xs stream i low high =
    found_nowhere (find (λ x. stream_of x == stream)) (λ x. stream_of x == stream) (λ x. Some x) None refl (λ _ _. refl) xs blank
    (λ k l. ne_eqb (stream_of (get_or xs k blank)) stream
    (λ f. elim (cases_lt k i) [ inl below ↦ omega (arith, low k blank (omega arith) below, f) | inr over ↦ omega (arith, high k blank over l, f) ]))

-- a stream below all of the entries has none of them
pub none_of : (s : StreamId) (xs : List Entry) → AllByRecursion (λ y. s.0 < stream_of y) xs → entry_of xs s ≡ None
none_of s [] h = refl
none_of s (x ∷ xs) h = grind (arith, none_of s xs h.1, ne_eqb)

-- the first place of a list with a want, by how its StreamID compares
pub with_want-lower : (x : Entry) (xs : List Entry) (want : Want) → want.stream.0 < stream_of x
    → with_want (x ∷ xs) want ≡ unbooked_entry want ∷ x ∷ xs
with_want-lower x xs want l = cond-true (nat_lt want.stream.0 (stream_of x)) _ _ (lt-ltb want.stream.0 (stream_of x) l)

pub with_want-same : (x : Entry) (xs : List Entry) (want : Want) → stream_of x ≡ want.stream.0
    → with_want (x ∷ xs) want ≡ entry_with x want ∷ xs
with_want-same x xs want e = grind (arith, cond-false, le-ltb, cond-true, eq-eqb)

pub with_want-higher : (x : Entry) (xs : List Entry) (want : Want) → stream_of x < want.stream.0
    → with_want (x ∷ xs) want ≡ x ∷ with_want xs want
with_want-higher x xs want l = grind (arith, cond-false, le-ltb, ne_eqb)

-- a want at the place of its stream's entry
pub with_want-found : (xs : List Entry) (want : Want) (i : ℕ) (d : Entry) → IsAscending xs → i < length xs
    → stream_of (get_or xs i d) ≡ want.stream.0 → set xs i (entry_with (get_or xs i d) want) ≡ with_want xs want
with_want-found [] want i d up l e = absurd (omega (arith, l))
with_want-found (x ∷ xs) want zero d up l e = sym (with_want-same x xs want e)
with_want-found (x ∷ xs) want (suc i) d up l e = grind (arith, with_want-found xs want i d up.1 (omega (arith, l)) e, All-from_recursion, with_want-higher)

-- and where its stream has none
pub with_want-missing : (xs : List Entry) (want : Want) (i : ℕ) → i ≤ length xs
    → AllWithin (λ x. stream_of x < want.stream.0) xs 0 i
    → AllWithin (λ x. want.stream.0 < stream_of x) xs i (length xs)
    → take i xs ++ unbooked_entry want ∷ drop i xs ≡ with_want xs want
with_want-missing [] want zero l low high = refl
with_want-missing [] want (suc i) l low high = absurd (omega (arith, l))
with_want-missing (x ∷ xs) want zero l low high = sym (with_want-lower x xs want (high 0 x (omega arith) (omega arith)))
with_want-missing (x ∷ xs) want (suc i) l low high =
    ap (λ ys. x ∷ ys) (with_want-missing xs want i (omega (arith, l)) (λ k d a b. low (suc k) d (omega arith) (omega (arith, b))) (λ k d a b. high (suc k) d (omega (arith, a)) (omega (arith, b))))
    ∙ sym (with_want-higher x xs want (low 0 x (omega arith) (omega arith)))

-- entries of other streams are others
pub differ : (x y : Entry) → stream_of x ≢ stream_of y → same_entry x y ≡ false
differ x y ne = grind (arith, and_left, ne_eqb)

pub others_differ : (x : Entry) (xs : List Entry) → AllByRecursion (λ y. stream_of x < stream_of y) xs
    → list_any (same_entry x) xs ≡ false
others_differ x [] h = refl
others_differ x (y ∷ ys) h = grind (arith, others_differ x ys h.1, or_from, differ)

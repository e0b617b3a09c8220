-- Whether an entry is one of a list that ascends: exactly where its stream's entry there is the same.
use Rattle.std.proofs.Common.{◌≡◌, ◌<◌, Bool, true, false, ◌||◌, ◌==◌, if◌then◌else◌, List, [], ◌∷◌, Some, None, refl, sym, ap, subst, arith}
use Rattle.std.specs.Prelude.{find}
use Rattle.std.specs.List.{AllByRecursion, list_any}
use Rattle.std.proofs.lemmas.{Bool.or_left, Bool.or_right, Bool.Decides.nat_tests}
use Rattle.srp_base.specs.declared.numbers.StreamId.{StreamId}
use Rattle.stream_importance.specs.declared.entry.Entry.{Entry}
use Rattle.port_ledger.specs.{stream_of, IsAscending, entry_of, same_entry}
use Rattle.port_ledger.proofs.PerStream.{same_entry-is, same_entry-refl}

-- what holds of all holds of what is found
all_found : (P : Entry → Type 0) (p : Entry → Bool) (xs : List Entry) (x : Entry) → AllByRecursion P xs → find p xs ≡ Some x → P x
all_found P p [] x all h = cc
all_found P p (y ∷ xs) x all h = by (p y) h (all_found P p xs x all.1)
  where
    by : (b : Bool) → (if b then Some y else find p xs) ≡ Some x → (find p xs ≡ Some x → P x) → P x
    by true k rest = let same : y ≡ x = cc in subst P same all.0
    by false k rest = rest k

-- the entry that is one of some entries is the one of its stream
pub found_in : (x : Entry) (those : List Entry) → IsAscending those → list_any (same_entry x) those ≡ true → entry_of those x.want.stream ≡ Some x
found_in x [] up h = cc
found_in x (y ∷ ys) up h = by (same_entry x y) refl h (found_in x ys up.1)
  where
    by : (b : Bool) → same_entry x y ≡ b → (b || list_any (same_entry x) ys) ≡ true → (list_any (same_entry x) ys ≡ true → entry_of ys x.want.stream ≡ Some x)
        → entry_of (y ∷ ys) x.want.stream ≡ Some x
    by true e k rest =
        let same : x ≡ y = same_entry-is x y e in
        let own : (stream_of y == x.want.stream.0) ≡ true = subst (λ (z : Entry). (stream_of z == x.want.stream.0) ≡ true) same (grind (arith, nat_tests)) in
        rw own (ap (λ z. Some z) (sym same))
    by false e k rest =
        let below : stream_of y < stream_of x = all_found (λ z. stream_of y < stream_of z) (λ z. stream_of z == x.want.stream.0) ys x up.0 (rest k) in
        let other : (stream_of y == x.want.stream.0) ≡ false = grind (arith, nat_tests, below) in
        rw other (rest k)

-- a stream's entry is one of the entries
is_there : (s : StreamId) (y : Entry) (those : List Entry) → entry_of those s ≡ Some y → list_any (same_entry y) those ≡ true
is_there s y [] h = cc
is_there s y (x ∷ xs) h = grind (arith, is_there s y xs, or_left, same_entry-refl, or_right)

-- where the stream has an entry
pub among-found : (x y : Entry) (those : List Entry) → IsAscending those → entry_of those x.want.stream ≡ Some y
    → same_entry x y ≡ list_any (same_entry x) those
among-found x y those up e = grind (arith, is_there, same_entry-is, found_in, same_entry-refl)

-- and where it has none
pub among-none : (x : Entry) (those : List Entry) → IsAscending those → entry_of those x.want.stream ≡ None → false ≡ list_any (same_entry x) those
among-none x those up e = grind (arith, found_in)

-- A set of keys as the list of its keys, ascending strictly, with the room that it has for more.
use Rattle.std.specs.Prelude.{◌≡◌, ◌≤◌, ◌<◌, ℕ, suc, Bool, true, false, not, List, [], ◌∷◌, ◌++◌, length, filter, fold, take, drop, Result, Ok, Err}
use Rattle.std.specs.{declared.cmp.Ordering.Ordering, declared.cmp.Ordering.TheVariants.Less, declared.cmp.Ordering.TheVariants.Equal, declared.cmp.Ordering.TheVariants.Greater, Ordering.is_eq, List.AllByRecursion, List.list_any}

-- a set of keys as contracts see it: its keys, ascending strictly, and its spare: so many more keys
-- find room without memory being taken
pub record KeySet (K : Type 0) : Type 0 where
  pub keys : List K
  pub spare : ℕ

-- each key is below all later ones
abbrev pub IsAscending : {K : Type 0} → (K → K → Ordering) → List K → Type 0
IsAscending cmp [] = Unit {0}
IsAscending cmp (x ∷ xs) = AllByRecursion (λ y. cmp x y ≡ Less) xs × IsAscending cmp xs

-- whether a key is among the keys
abbrev pub is_awaiting : {K : Type 0} → (K → K → Ordering) → K → List K → Bool
is_awaiting cmp k keys = list_any (λ x. is_eq (cmp x k)) keys

-- at the first of some keys: another key that comes after it, is it, or comes before it; `later` is
-- the rest with that key
abbrev pub marked_at : {K : Type 0} → Ordering → K → K → List K → List K → List K
marked_at Less k x keys later = x ∷ later
marked_at Equal k x keys later = x ∷ keys
marked_at Greater k x keys later = k ∷ x ∷ keys

-- the keys with one more, at its place in the order, where it isn't among them
abbrev pub with_key : {K : Type 0} → (K → K → Ordering) → K → List K → List K
with_key cmp k [] = k ∷ []
with_key cmp k (x ∷ keys) = marked_at (cmp x k) k x keys (with_key cmp k keys)

-- the keys with some more
abbrev pub all_marked : {K : Type 0} → (K → K → Ordering) → List K → List K → List K
all_marked cmp new keys = fold (λ ks k. with_key cmp k ks) keys new

-- the keys without one
abbrev pub without_key : {K : Type 0} → (K → K → Ordering) → K → List K → List K
without_key cmp k keys = filter (λ x. not (is_eq (cmp x k))) keys

-- a key stands at a place of the keys: marking it changes nothing, clearing it takes out what
-- stands there
pub record IsFoundAt {K : Type 0} (cmp : K → K → Ordering) (k : K) (keys : List K) (i : ℕ) : Type 0 where
  pub within : i < length keys
  pub present : is_awaiting cmp k keys ≡ true
  pub same : with_key cmp k keys ≡ keys
  pub without : without_key cmp k keys ≡ take i keys ++ drop (suc i) keys

-- a key isn't among the keys: marking it puts it in at a place, clearing it changes nothing
pub record IsMissingAt {K : Type 0} (cmp : K → K → Ordering) (k : K) (keys : List K) (i : ℕ) : Type 0 where
  pub within : i ≤ length keys
  pub absent : is_awaiting cmp k keys ≡ false
  pub more : with_key cmp k keys ≡ take i keys ++ (k ∷ drop i keys)
  pub without : without_key cmp k keys ≡ keys

-- the answer of a search is right: Ok with the key's place, or Err with the place at which it is to
-- be put in
abbrev pub IsPlace : {K : Type 0} → (K → K → Ordering) → K → List K → Result ℕ ℕ → Type 0
IsPlace cmp k keys (Ok i) = IsFoundAt cmp k keys i
IsPlace cmp k keys (Err i) = IsMissingAt cmp k keys i

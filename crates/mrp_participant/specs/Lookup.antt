-- The rows of a participant as a list ascending by key, and as what each key has.
use Rattle.std.specs.Prelude.{◌≡◌, ℕ, suc, ◌<◌, ◌≤◌, Bool, if◌then◌else◌, List, [], ◌∷◌, ◌++◌, length, take, drop, slice_index_or}
use Rattle.std.specs.{declared.option.Option.Option, declared.option.Option.TheVariants.None, declared.option.Option.TheVariants.Some, declared.cmp.Ordering.Ordering, declared.cmp.Ordering.TheVariants.Less, declared.cmp.Ordering.TheVariants.Equal, declared.cmp.Ordering.TheVariants.Greater, Ordering.is_eq, List.cons_option, List.AllByRecursion}
use Rattle.mrp_participant.specs.declared.row.Row.{Row}

-- the keys of the elements ascend strictly: each is below all later ones
abbrev pub Ascends : {X K : Type 0} → (K → K → Ordering) → (X → K) → List X → Type 0
Ascends cmp key [] = Unit {0}
Ascends cmp key (x ∷ xs) = AllByRecursion (λ y. cmp (key x) (key y) ≡ Less) xs × Ascends cmp key xs

-- the key of a row
abbrev pub key_of : {K C : Type 0} → Row K C → K
key_of r = r.key

-- whether two keys are one
abbrev pub same : {K : Type 0} → (K → K → Ordering) → K → K → Bool
same cmp a b = is_eq (cmp a b)

-- the row of a key
abbrev pub find : {K C : Type 0} → (K → K → Ordering) → K → List (Row K C) → Option (Row K C)
find cmp k [] = None
find cmp k (r ∷ rows) = if same cmp r.key k then Some r else find cmp k rows

-- at the first of some rows: another row for a key that comes after it, is its key, or comes before
-- it; `later` is the rest with that row
abbrev pub put_at : {K C : Type 0} → Ordering → Option (Row K C) → Row K C → List (Row K C) → List (Row K C) → List (Row K C)
put_at Less new r rows later = r ∷ later
put_at Equal new r rows later = cons_option new rows
put_at Greater new r rows later = cons_option new (r ∷ rows)

-- the rows with another row, or none, for a key, at the key's place in the order
abbrev pub put : {K C : Type 0} → (K → K → Ordering) → K → Option (Row K C) → List (Row K C) → List (Row K C)
put cmp k new [] = cons_option new []
put cmp k new (r ∷ rows) = put_at (cmp r.key k) new r rows (put cmp k new rows)

-- one key has a row, or none, and each other key has what it had
abbrev pub ChangesOnly : {K C : Type 0} → (K → K → Ordering) → K → Option (Row K C) → List (Row K C) → List (Row K C) → Type 0
ChangesOnly {K = K} cmp key new old_rows new_rows =
    (k : K) → find cmp k new_rows ≡ (if same cmp key k then new else find cmp k old_rows)

-- the row of a key stands at a place
pub record IsRowAt {K C : Type 0} (cmp : K → K → Ordering) (k : K) (rows : List (Row K C)) (i : ℕ) : Type 0 where
  pub within : i < length rows
  pub found : (d : Row K C) → find cmp k rows ≡ Some (slice_index_or rows i d)
  pub replaced : (new : Option (Row K C)) → put cmp k new rows ≡ take i rows ++ cons_option new (drop (suc i) rows)

-- a key has no row, and a row of it would stand at a place
pub record IsGapAt {K C : Type 0} (cmp : K → K → Ordering) (k : K) (rows : List (Row K C)) (i : ℕ) : Type 0 where
  pub within : i ≤ length rows
  pub absent : find cmp k rows ≡ None
  pub filled : (new : Option (Row K C)) → put cmp k new rows ≡ take i rows ++ cons_option new (drop i rows)

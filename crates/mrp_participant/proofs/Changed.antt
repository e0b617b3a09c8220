-- Loops that change each element of a list in place.
use Rattle.std.proofs.Common.{◌≡◌, ℕ, ◌+◌, ◌<◌, ◌++◌, List, ◌≤◌, slice_set, length, map, take, drop, get_or, arith}
use Rattle.std.proofs.lemmas.{List.append-nil, List.take_all, List.drop_all, List.take_at, List.length-map, List.Edits.map_over_more}

-- a loop that writes f x over each element x of xs
pub changed-in_place : {X : Type 0} (f : X → X) (xs whole ys : List X) (i : ℕ) (x y : X) → i < length whole
    → whole ≡ xs → ys ≡ map f (take i xs) ++ drop i xs → x ≡ get_or ys i x → y ≡ f (get_or ys i x)
    → slice_set ys i y ≡ map f (take (i + 1) xs) ++ drop (i + 1) xs
changed-in_place f xs whole ys i x y below is so_far at new = grind (arith, slice_set, map_over_more)

-- and what it leaves, as it is written back
pub changed-whole : {X : Type 0} (f : X → X) (xs whole ys : List X) (i n : ℕ) → length whole ≤ i → whole ≡ xs
    → length whole ≡ n → ys ≡ map f (take i xs) ++ drop i xs → take n (ys ++ drop (length ys) xs) ≡ map f xs
changed-whole f xs whole ys i n past is len so_far = grind (arith, take_at, length-map, take_all, drop_all, append-nil)

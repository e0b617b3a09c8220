-- The PDUs at a place of a list of boxes.
use Rattle.std.proofs.Common.{◌≡◌, ℕ, zero, suc, List, [], ◌∷◌, refl, ap}
use Rattle.std.specs.Prelude.{slice_get, Some}
use Rattle.std.specs.List.{insert}
use Rattle.mrp_participant.specs.Link.{with_repeat}
use Rattle.link_net.specs.Meaning.{with_one}

-- a copy of the PDU at a place that is put in there is one right behind its original
pub repeated_of : {X : Type 0} (xs : List X) (i : ℕ) (x y : X) → slice_get xs i ≡ Some x → y ≡ x → insert xs i y ≡ with_repeat i xs
repeated_of [] i x y is same = cc
repeated_of (z ∷ xs) zero x y is same = cc
repeated_of (z ∷ xs) (suc i) x y is same = ap (λ ys. z ∷ ys) (repeated_of xs i x y is same)

-- an element that is inserted at a place stands before those that stood there
pub inserted : {X : Type 0} (xs : List X) (i : ℕ) (x : X) → insert xs i x ≡ with_one i x xs
inserted [] zero x = refl
inserted [] (suc i) x = refl
inserted (y ∷ xs) zero x = refl
inserted (y ∷ xs) (suc i) x = ap (λ ys. y ∷ ys) (inserted xs i x)

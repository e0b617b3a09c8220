-- The PDUs at a place of a list of boxes, where one place is set.
use Rattle.std.proofs.Common.{◌≡◌, ◌≢◌, ℕ, zero, suc, List, [], ◌∷◌, refl, ap}
use Rattle.std.specs.Prelude.{slice_get, slice_set, Option, Some}
use Rattle.std.specs.Option.{option_map_or}
use Rattle.srp_base.proofs.Lists.{get_set_other}
use Rattle.node_core.specs.declared.types.Wire.{Wire}
use Rattle.node_core.specs.State.{box_at}

pub box_other : (boxes : List (List Wire)) (at k : ℕ) (wires : List Wire) → at ≢ k → box_at k (slice_set boxes at wires) ≡ box_at k boxes
box_other boxes at k wires ne = ap (λ (o : Option (List Wire)). option_map_or (λ wires. wires) o []) (get_set_other boxes at k wires ne)

-- a box that isn't empty is there
pub box_set : (boxes : List (List Wire)) (at : ℕ) (wire : Wire) (wires new : List Wire) → box_at at boxes ≡ wire ∷ wires → box_at at (slice_set boxes at new) ≡ new
box_set [] at wire wires new h = cc
box_set (b ∷ boxes) zero wire wires new h = refl
box_set (b ∷ boxes) (suc at) wire wires new h = box_set boxes at wire wires new h

pub box_got : (boxes : List (List Wire)) (at : ℕ) (b new : List Wire) → slice_get boxes at ≡ Some b → box_at at (slice_set boxes at new) ≡ new
box_got [] at b new h = cc
box_got (c ∷ boxes) zero b new h = refl
box_got (c ∷ boxes) (suc at) b new h = box_got boxes at b new h

-- a box that is emptied is empty
pub box_none : (boxes : List (List Wire)) (at : ℕ) → box_at at (slice_set boxes at []) ≡ []
box_none [] at = refl
box_none (b ∷ boxes) zero = refl
box_none (b ∷ boxes) (suc at) = box_none boxes at

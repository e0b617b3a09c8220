-- One place of a list is changed: what stands there, and what the flat rule says; and what holds of an option.
use Rattle.std.proofs.Common.{◌≡◌, ℕ, zero, suc, Bool, true, false, not, ◌&&◌, ◌||◌, List, [], ◌∷◌, length, map, take, drop, refl, ap}
use Rattle.std.specs.Prelude.{slice_set}
use Rattle.attribute_propagation.specs.Flat.{is_any, elsewhere}

-- what stands at the place itself doesn't count elsewhere
pub elsewhere-set : (p : ℕ) (bs : List Bool) (x : Bool) → elsewhere p (slice_set bs p x) ≡ elsewhere p bs
elsewhere-set zero [] x = refl
elsewhere-set (suc p) [] x = refl
elsewhere-set zero (b ∷ bs) x = refl
elsewhere-set (suc p) (b ∷ bs) x = orred b (is_any (take p (slice_set bs p x))) (is_any (drop 1 (drop p (slice_set bs p x)))) (is_any (take p bs)) (is_any (drop 1 (drop p bs))) (elsewhere-set p bs x)
  where
    orred : (b v x u w : Bool) → (v || x) ≡ (u || w) → ((b || v) || x) ≡ ((b || u) || w)
    orred true v x u w e = refl
    orred false v x u w e = e

pub no_or : (a b : Bool) → a ≡ false → (a || b) ≡ b
no_or true b h = cc
no_or false b h = refl

pub no_and : (a b : Bool) → a ≡ false → (not a && b) ≡ b
no_and true b h = cc
no_and false b h = refl

pub same_length : {X Y Z : Type 0} (f : X → Y) (g : X → Z) (xs : List X) → length (map f xs) ≡ length (map g xs)
same_length f g [] = refl
same_length f g (x ∷ xs) = ap suc (same_length f g xs)

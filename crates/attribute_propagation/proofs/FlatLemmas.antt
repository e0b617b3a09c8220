-- A place other than one is true: as a test, and as a fact.
use Rattle.std.proofs.Common.{◌≡◌, ◌≢◌, ◌↔◌, ◌⊎◌, inl, inr, ℕ, zero, suc, Bool, true, false, List, [], ◌∷◌, refl, IsTrue, arith}
use Rattle.std.specs.Prelude.{slice_get, Some}
use Rattle.attribute_propagation.specs.{is_any, elsewhere, IsElsewhere}

any_at : (places : List Bool) → is_any places ≡ true → (i : ℕ) × (slice_get places i ≡ Some true)
any_at [] h = cc
any_at (true ∷ places) h = (0, refl)
any_at (false ∷ places) h = let at = any_at places h in (suc at.0, at.1)

at_any : (places : List Bool) (i : ℕ) → slice_get places i ≡ Some true → is_any places ≡ true
at_any [] i at = cc
at_any (true ∷ places) i at = refl
at_any (false ∷ places) zero at = cc
at_any (false ∷ places) (suc i) at = at_any places i at

pub some_elsewhere : (p : ℕ) (places : List Bool) → elsewhere p places ≡ true → IsElsewhere p places
some_elsewhere zero [] h = cc
some_elsewhere (suc p) [] h = cc
some_elsewhere zero (b ∷ places) h = let at = any_at places h in (suc at.0, λ e. absurd (omega arith), at.1)
some_elsewhere (suc p) (true ∷ places) h = (0, λ e. absurd (omega arith), refl)
some_elsewhere (suc p) (false ∷ places) h =
    let at = some_elsewhere p places h in (suc at.0, λ e. at.1 (omega arith), at.2)

pub elsewhere_some : (p : ℕ) (places : List Bool) (i : ℕ) → i ≢ p → slice_get places i ≡ Some true → elsewhere p places ≡ true
elsewhere_some p [] i ne at = cc
elsewhere_some zero (b ∷ places) zero ne at = absurd (ne refl)
elsewhere_some zero (b ∷ places) (suc i) ne at = at_any places i at
elsewhere_some (suc p) (true ∷ places) i ne at = refl
elsewhere_some (suc p) (false ∷ places) zero ne at = cc
elsewhere_some (suc p) (false ∷ places) (suc i) ne at = elsewhere_some p places i (λ e. ne (omega arith)) at

pub elsewhere_is : (p : ℕ) (places : List Bool) → IsTrue (elsewhere p places) ↔ IsElsewhere p places
elsewhere_is p places = (some_elsewhere p places, λ at. elsewhere_some p places at.0 at.1 at.2)

-- the rule at a place behind the application's own says: the application, or another place
pub flat-cases : (at : ℕ) (own : Bool) (bs : List Bool) → elsewhere (suc at) (own ∷ bs) ≡ true → (own ≡ true) ⊎ (elsewhere at bs ≡ true)
flat-cases at true bs h = inl refl
flat-cases at false bs h = inr h

pub flat-own : (at : ℕ) (bs : List Bool) → elsewhere (suc at) (true ∷ bs) ≡ true
flat-own at bs = refl

pub flat-other : (at : ℕ) (own : Bool) (bs : List Bool) → elsewhere at bs ≡ true → elsewhere (suc at) (own ∷ bs) ≡ true
flat-other at true bs h = refl
flat-other at false bs h = h

-- Walks over the octets of a PDU: one step on, and the end.
use Rattle.std.proofs.Common.{◌≡◌, ℕ, zero, suc, ◌-◌, ◌<◌, ◌≤◌, true, false, eqb, ◌&&◌, inl, inr, List, [], ◌∷◌, ◌++◌, length, drop, slice_get, Option, Some, None, is_some, refl, sym, ap, ◌∙◌, arith}
use Rattle.std.proofs.lemmas.{Bool.cases_Bool, Bool.eqb-true, List.length-drop, Option.some_pair_parts}
use Rattle.mrpdu_codec.specs.{AppForm, Mvrp, Msrp, Mmrp, TypeForm, number, row_of, span_of, header_in, places_in, behind_vectors, body_places, behind_body, known_places, kind_in, places_from, first_value_place}

-- what a header that is there says of its octets
header_parts : (header high low : ℕ) (octets after : List ℕ) → header_in (high ∷ low ∷ octets) ≡ Some (header, after)
    → (eqb (number high low) 0 ≡ false) × (number high low ≡ header) × (octets ≡ after)
header_parts header high low octets after h =
    elim (cases_Bool (eqb (number high low) 0)) [
      | inl none ↦ let e = rw none at h in absurd cc
      | inr some ↦ let e = rw some at h in
          let p = some_pair_parts (number high low) header octets after e in
          (some, p.0, p.1)
    ]

-- and an AttributeType
kind_parts : (kind k : ℕ) (octets after : List ℕ) → kind_in (k ∷ octets) ≡ Some (kind, after) → (eqb k 0 ≡ false) × (k ≡ kind) × (octets ≡ after)
kind_parts kind k octets after h =
    elim (cases_Bool (eqb k 0)) [
      | inl none ↦ let e = rw none at h in absurd cc
      | inr some ↦ let e = rw some at h in
          let p = some_pair_parts k kind octets after e in
          (some, p.0, p.1)
    ]

-- ---- vectors

module _ (row : Option TypeForm) (len : ℕ) where
  pub places_skip : (end n : ℕ) (octets : List ℕ) → places_in row len end n octets ≡ places_in row len end 0 (drop n octets)
  unfolding places_in
  places_skip end zero [] = refl
  places_skip end (suc n) [] = refl
  places_skip end zero (o ∷ octets) = refl
  places_skip end (suc n) (o ∷ octets) = places_skip end n octets

  pub behind_skip : (n : ℕ) (octets : List ℕ) → behind_vectors row len n octets ≡ behind_vectors row len 0 (drop n octets)
  unfolding behind_vectors
  behind_skip zero [] = refl
  behind_skip (suc n) [] = refl
  behind_skip zero (o ∷ octets) = refl
  behind_skip (suc n) (o ∷ octets) = behind_skip n octets

  -- a vector begins here
  pub places_step : (end header : ℕ) (octets after : List ℕ) → header_in octets ≡ Some (header, after)
      → places_in row len end 0 octets ≡ (end - length after) ∷ places_in row len end 0 (drop (span_of row len header) after)
  unfolding places_in
  places_step end header [] after h = absurd cc
  places_step end header (o ∷ []) after h = absurd cc
  places_step end header (high ∷ low ∷ octets) after h =
      let p = header_parts header high low octets after h in
      rw (p.0, p.1, p.2) (ap (λ (ps : List ℕ). (end - length after) ∷ ps) (places_skip end (span_of row len header) after))

  -- no vector begins here
  pub places_end : (end : ℕ) (octets : List ℕ) → header_in octets ≡ None → places_in row len end 0 octets ≡ []
  unfolding places_in
  places_end end [] h = refl
  places_end end (o ∷ []) h = refl
  places_end end (high ∷ low ∷ octets) h =
      elim (cases_Bool (eqb (number high low) 0)) [
        | inl none ↦ rw none refl
        | inr some ↦ let e = rw some at h in absurd cc
      ]

  pub behind_step : (header : ℕ) (octets after : List ℕ) → header_in octets ≡ Some (header, after) → behind_vectors row len 0 octets ≡ behind_vectors row len 0 (drop (span_of row len header) after)
  unfolding behind_vectors
  behind_step header [] after h = absurd cc
  behind_step header (o ∷ []) after h = absurd cc
  behind_step header (high ∷ low ∷ octets) after h =
      let p = header_parts header high low octets after h in
      rw (p.0, p.1, p.2) (behind_skip (span_of row len header) after)

  pub behind_end : (octets : List ℕ) → header_in octets ≡ None → behind_vectors row len 0 octets ≡ octets
  unfolding behind_vectors
  behind_end [] h = refl
  behind_end (o ∷ []) h = refl
  behind_end (high ∷ low ∷ octets) h =
      elim (cases_Bool (eqb (number high low) 0)) [
        | inl none ↦ rw none refl
        | inr some ↦ let e = rw some at h in absurd cc
      ]

pub header_falls : (header : ℕ) (octets after : List ℕ) → header_in octets ≡ Some (header, after) → length after < length octets
header_falls header octets after h1 = grind arith

pub drop_falls : (n : ℕ) (octets : List ℕ) → length (drop n octets) ≤ length octets
drop_falls n octets = omega (arith, length-drop n octets)

-- one vector passed, of the vectors that are counted down
pub place_here : (row : Option TypeForm) (len end header : ℕ) (octets after : List ℕ) → header_in octets ≡ Some (header, after)
    → slice_get (places_in row len end 0 octets) 0 ≡ Some (end - length after)
place_here row len end header octets after h = ap (λ (ps : List ℕ). slice_get ps 0) (places_step row len end header octets after h)

pub place_later : (row : Option TypeForm) (len end header : ℕ) (octets after : List ℕ) (before : ℕ) → header_in octets ≡ Some (header, after) → 0 < before
    → slice_get (places_in row len end 0 (drop (span_of row len header) after)) (before - 1) ≡ slice_get (places_in row len end 0 octets) before
place_later row len end header octets after zero h some = absurd (omega arith)
place_later row len end header octets after (suc before) h some =
    let one : suc before - 1 ≡ before = omega arith in
    rw one (sym (ap (λ (ps : List ℕ). slice_get ps (suc before)) (places_step row len end header octets after h)))

pub place_none : (row : Option TypeForm) (len end n : ℕ) (octets : List ℕ) → header_in octets ≡ None → slice_get (places_in row len end 0 octets) n ≡ None
place_none row len end n octets h = ap (λ (ps : List ℕ). slice_get ps n) (places_end row len end octets h)

-- ---- Messages

behind_vectors_falls : (row : Option TypeForm) (len n : ℕ) (octets : List ℕ) → length (behind_vectors row len n octets) ≤ length octets
unfolding behind_vectors
behind_vectors_falls row len n [] = omega arith
behind_vectors_falls row len (suc n) (o ∷ octets) = omega (arith, behind_vectors_falls row len n octets)
behind_vectors_falls row len zero (o ∷ []) = omega arith
behind_vectors_falls row len zero (high ∷ low ∷ octets) =
    elim (cases_Bool (eqb (number high low) 0)) [
      | inl none ↦ rw none (omega arith)
      | inr some ↦ rw some (omega (arith, behind_vectors_falls row len (span_of row len (number high low)) octets))
    ]

behind_list_falls : (row : Option TypeForm) (octets : List ℕ) → length (behind_body Mvrp row octets) ≤ length octets
behind_list_falls row [] = omega arith
behind_list_falls row (len ∷ octets) = omega (arith, drop_falls 2 (behind_vectors row len 0 octets), behind_vectors_falls row len 0 octets)

behind_counted_falls : (row : Option TypeForm) (octets : List ℕ) → length (behind_body Msrp row octets) ≤ length octets
behind_counted_falls row octets = grind (arith, drop_falls)

behind_mmrp : (row : Option TypeForm) (octets : List ℕ) → behind_body Mmrp row octets ≡ behind_body Mvrp row octets
behind_mmrp row octets = grind arith

pub behind_body_falls : (form : AppForm) (row : Option TypeForm) (octets : List ℕ) → length (behind_body form row octets) ≤ length octets
behind_body_falls Mvrp row octets = behind_list_falls row octets
behind_body_falls Msrp row octets = behind_counted_falls row octets
behind_body_falls Mmrp row octets = omega (arith, behind_list_falls row octets, ap length (behind_mmrp row octets))

-- fuel makes no difference
fuel_free : (f g : ℕ) (form : AppForm) (end : ℕ) (octets : List ℕ) → length octets ≤ f → length octets ≤ g → places_from f form end octets ≡ places_from g form end octets
unfolding places_from
fuel_free zero zero form end [] p q = refl
fuel_free zero (suc g) form end [] p q = refl
fuel_free (suc f) zero form end [] p q = refl
fuel_free (suc f) (suc g) form end [] p q = refl
fuel_free zero g form end (kind ∷ octets) p q = absurd (omega arith)
fuel_free (suc f) zero form end (kind ∷ octets) p q = absurd (omega arith)
fuel_free (suc f) (suc g) form end (kind ∷ octets) p q =
    let falls = behind_body_falls form (row_of form kind) octets in
    elim (cases_Bool (eqb kind 0)) [
      | inl none ↦ rw none refl
      | inr some ↦ rw some (ap (λ (pss : List (List ℕ)). known_places (row_of form kind) (body_places form (row_of form kind) end octets) ++ pss)
          (fuel_free f g form end (behind_body form (row_of form kind) octets) (omega (arith, falls)) (omega (arith, falls))))
    ]

pub from_step : (form : AppForm) (end kind : ℕ) (octets after : List ℕ) → kind_in octets ≡ Some (kind, after)
    → places_from (length octets) form end octets
    ≡ known_places (row_of form kind) (body_places form (row_of form kind) end after)
    ++ places_from (length (behind_body form (row_of form kind) after)) form end (behind_body form (row_of form kind) after)
unfolding places_from
from_step form end kind [] after h = absurd cc
from_step form end kind (k ∷ octets) after h =
    let p = kind_parts kind k octets after h in
    rw (p.0, p.1, p.2) (ap (λ (pss : List (List ℕ)). known_places (row_of form kind) (body_places form (row_of form kind) end after) ++ pss)
    (fuel_free (length after) (length (behind_body form (row_of form kind) after)) form end (behind_body form (row_of form kind) after)
    (behind_body_falls form (row_of form kind) after) (omega arith)))

pub from_end : (form : AppForm) (end : ℕ) (octets : List ℕ) → kind_in octets ≡ None → places_from (length octets) form end octets ≡ []
unfolding places_from
from_end form end [] h = refl
from_end form end (k ∷ octets) h =
    elim (cases_Bool (eqb k 0)) [
      | inl none ↦ rw none refl
      | inr some ↦ let e = rw some at h in absurd cc
    ]

pub kind_falls : (kind : ℕ) (octets after : List ℕ) → kind_in octets ≡ Some (kind, after) → length after < length octets
kind_falls kind octets after h1 = grind arith

-- ---- one Message passed, of those of known types that are counted down

known_passed : (row : Option TypeForm) (ps : List ℕ) (more : List (List ℕ)) (before vector : ℕ) → (is_some row && eqb before 0) ≡ false
    → first_value_place (known_places row ps ++ more) before vector ≡ first_value_place more (before - length (known_places row [])) vector
known_passed row ps more before vector h1 = grind arith

known_here : (row : Option TypeForm) (ps : List ℕ) (more : List (List ℕ)) (before vector : ℕ) → (is_some row && eqb before 0) ≡ true
    → first_value_place (known_places row ps ++ more) before vector ≡ slice_get ps vector
known_here row ps more before vector h1 = grind (arith, eqb-true)

module _ (form : AppForm) (end kind : ℕ) (octets after : List ℕ) (starts : kind_in octets ≡ Some (kind, after)) (before vector : ℕ) where
  pub message_here : (is_some (row_of form kind) && eqb before 0) ≡ true
      → first_value_place (places_from (length octets) form end octets) before vector ≡ slice_get (body_places form (row_of form kind) end after) vector
  message_here h =
      ap (λ (pss : List (List ℕ)). first_value_place pss before vector) (from_step form end kind octets after starts)
      ∙ known_here (row_of form kind) _ _ before vector h

  pub message_later : (rest : List ℕ) (still : ℕ) → (is_some (row_of form kind) && eqb before 0) ≡ false
      → rest ≡ behind_body form (row_of form kind) after → still ≡ before - length (known_places (row_of form kind) [])
      → first_value_place (places_from (length rest) form end rest) still vector ≡ first_value_place (places_from (length octets) form end octets) before vector
  message_later rest still h e f =
      rw (e, f) (sym (
      ap (λ (pss : List (List ℕ)). first_value_place pss before vector) (from_step form end kind octets after starts)
      ∙ known_passed (row_of form kind) _ _ before vector h))

pub message_none : (form : AppForm) (end : ℕ) (octets : List ℕ) (before vector : ℕ) → kind_in octets ≡ None → first_value_place (places_from (length octets) form end octets) before vector ≡ None
message_none form end octets before vector h = ap (λ (pss : List (List ℕ)). first_value_place pss before vector) (from_end form end octets h)

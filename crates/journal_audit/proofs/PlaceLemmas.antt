-- The place where octets are malformed lies within them.
use Rattle.std.proofs.Common.{◌≡◌, ℕ, zero, suc, ◌+◌, ◌-◌, ◌≤◌, Bool, true, false, List, [], ◌∷◌, ◌++◌, length, take, drop, ap, subst, ◌∙◌, arith}
use Rattle.std.specs.Prelude.{◌==◌, if◌then◌else◌, slice_get, Option, Some, None}
use Rattle.std.specs.List.{AllByRecursion}
use Rattle.std.proofs.lemmas.List.{length-append}
use Rattle.srp_base.proofs.Lists.{each_append}
use Rattle.mrpdu_codec.specs.declared.{form.AppForm.AppForm, form.AppForm.TheVariants.Msrp, form.TypeForm.TypeForm}
use Rattle.mrpdu_codec.specs.{Octets.number, Types.row_of, Grammar.Breaks, Places.span_of, Places.places_in, Places.body_places, Places.behind_body, Places.known_places, Places.places_from, Places.first_places, Places.first_value_place}
use Rattle.msrp_codec.specs.Meaning.{MsrpBreaks}

-- ---- where a field breaks

pub broken_within : (form : AppForm) (octets : List ℕ) (place : ℕ) → Breaks form octets place → place ≤ length octets
broken_within form octets place h =
    let whole : length octets ≡ length h.front + length h.rest = ap length h.whole ∙ length-append h.front h.rest in
    let at = h.at_place in
    omega (arith, whole, at)

-- ---- where a FirstValue stands

-- each of these places is at most this one
abbrev AreUpto : ℕ → List ℕ → Type 0
AreUpto end places = AllByRecursion (λ p. p ≤ end) places

upto_more : (a b : ℕ) (places : List ℕ) → a ≤ b → AreUpto a places → AreUpto b places
upto_more a b [] le h = tt
upto_more a b (p ∷ places) le h = let first = h.0 in (omega (arith, le, first), upto_more a b places le h.1)

in_vectors : (row : Option TypeForm) (len end n : ℕ) (octets : List ℕ) → AreUpto end (places_in row len end n octets)
unfolding places_in
in_vectors row len end zero [] = tt
in_vectors row len end (suc n) [] = tt
in_vectors row len end (suc n) (o ∷ octets) = in_vectors row len end n octets
in_vectors row len end zero (o ∷ []) = tt
in_vectors row len end zero (high ∷ low ∷ octets) = by (number high low == 0) (in_vectors row len end (span_of row len (number high low)) octets)
  where
    by : (b : Bool) → AreUpto end (places_in row len end (span_of row len (number high low)) octets)
        → AreUpto end (if b then [] else ((end - length octets) ∷ places_in row len end (span_of row len (number high low)) octets))
    by true later = tt
    by false later = (omega arith, later)

in_body : (row : Option TypeForm) (end : ℕ) (octets : List ℕ) → AreUpto end (body_places Msrp row end octets)
in_body row end [] = tt
in_body row end (len ∷ []) = tt
in_body row end (len ∷ high ∷ []) = tt
in_body row end (len ∷ high ∷ low ∷ octets) =
    let region : List ℕ = take (number high low - 2) octets in
    let beyond : ℕ = end - length (drop (number high low - 2) octets) in
    upto_more beyond end (places_in row len beyond 0 region) (omega arith) (in_vectors row len beyond 0 region)

in_known : (row : Option TypeForm) (end : ℕ) (places : List ℕ) → AreUpto end places → AllByRecursion (AreUpto end) (known_places row places)
in_known None end places h = tt
in_known (Some t) end places h = (h, tt)

in_messages : (fuel end : ℕ) (octets : List ℕ) → AllByRecursion (AreUpto end) (places_from fuel Msrp end octets)
unfolding places_from
in_messages zero end octets = tt
in_messages (suc fuel) end [] = tt
in_messages (suc fuel) end (kind ∷ octets) = by (kind == 0) (in_messages fuel end (behind_body Msrp (row_of Msrp kind) octets))
  where
    here : List (List ℕ)
    here = known_places (row_of Msrp kind) (body_places Msrp (row_of Msrp kind) end octets)

    behind : List (List ℕ)
    behind = places_from fuel Msrp end (behind_body Msrp (row_of Msrp kind) octets)

    by : (b : Bool) → AllByRecursion (AreUpto end) behind → AllByRecursion (AreUpto end) (if b then [] else (here ++ behind))
    by true later = tt
    by false later = each_append (AreUpto end) here behind (in_known (row_of Msrp kind) end (body_places Msrp (row_of Msrp kind) end octets) (in_body (row_of Msrp kind) end octets)) later

in_octets : (octets : List ℕ) → AllByRecursion (AreUpto (length octets)) (first_places Msrp octets)
unfolding first_places
in_octets [] = tt
in_octets (version ∷ octets) =
    let same : 1 + length octets ≡ length (version ∷ octets) = omega arith in
    subst (λ (end : ℕ). AllByRecursion (AreUpto end) (places_from (length octets) Msrp (1 + length octets) octets)) same (in_messages (length octets) (1 + length octets) octets)

in_places : (end place : ℕ) (places : List ℕ) (vector : ℕ) → AreUpto end places → slice_get places vector ≡ Some place → place ≤ end
in_places end place [] vector h get = cc
in_places end place (p ∷ places) zero h get = let some : Some p ≡ Some place = get in let same : p ≡ place = cc in let first = h.0 in omega (arith, same, first)
in_places end place (p ∷ places) (suc vector) h get = in_places end place places vector h.1 get

in_lists : (end place : ℕ) (lists : List (List ℕ)) (message vector : ℕ) → AllByRecursion (AreUpto end) lists → first_value_place lists message vector ≡ Some place → place ≤ end
in_lists end place [] message vector h get = cc
in_lists end place (places ∷ lists) zero vector h get = in_places end place places vector h.0 get
in_lists end place (places ∷ lists) (suc message) vector h get = in_lists end place lists message vector h.1 get

pub malformed_within : (octets : List ℕ) (place : ℕ) → MsrpBreaks octets place → place ≤ length octets
malformed_within octets place (MsrpBreaks.grammar breaks) = broken_within Msrp octets place breaks
malformed_within octets place (MsrpBreaks.value passes) = in_lists (length octets) place (first_places Msrp octets) passes.message passes.vector (in_octets octets) passes.stands

-- A list of rows from a place on.
use Rattle.std.proofs.Common.{◌≡◌, ◌∙◌, ℕ, zero, suc, ◌+◌, List, [], ◌∷◌, ◌++◌, map, drop, refl, ap, sym, append_assoc, arith}
use Rattle.std.specs.Prelude.{flat_map, slice_get, Option, Some, None, option_map}
use Rattle.std.specs.Option.{option_map_or}
use Rattle.srp_base.specs.declared.numbers.Cs.{Cs}
use Rattle.registrar.specs.declared.Registrar.{Registrar}
use Rattle.mrp_participant.specs.declared.row.Row.{Row}
use Rattle.mrp_participant.specs.Lookup.{key_of}
use Rattle.link_replay.specs.{WayState, leaving_of, leaving_text}

-- by cases on the place
at_place : {X : Type 0} (f : X → List ℕ) (xs : List X) (i : ℕ)
    → flat_map f (drop i xs) ≡ option_map_or f (slice_get xs i) [] ++ flat_map f (drop (suc i) xs)
at_place f [] zero = refl
at_place f [] (suc i) = refl
at_place f (x ∷ xs) zero = refl
at_place f (x ∷ xs) (suc i) = at_place f xs i

-- what is said from a place on is what is said of the row there, and then from the next on
from_place : {X : Type 0} (f : X → List ℕ) (xs : List X) (i : ℕ)
    → flat_map f (drop i xs) ≡ option_map_or f (slice_get xs i) [] ++ flat_map f (drop (i + 1) xs)
from_place f xs i =
    at_place f xs i
    ∙ ap (λ (n : ℕ). option_map_or f (slice_get xs i) [] ++ flat_map f (drop n xs)) (let e : suc i ≡ i + 1 = omega arith in e)

-- so where a text with what is left from a place on is the whole, so it is with what is said of
-- the row there behind it, and what is left then
pub from_next : {X : Type 0} (f : X → List ℕ) (xs : List X) (i : ℕ) (text more whole : List ℕ)
    → text ++ flat_map f (drop i xs) ≡ whole → more ≡ text ++ option_map_or f (slice_get xs i) []
    → more ++ flat_map f (drop (i + 1) xs) ≡ whole
from_next f xs i text more whole is said =
    ap (λ (t : List ℕ). t ++ flat_map f (drop (i + 1) xs)) said
    ∙ append_assoc text (option_map_or f (slice_get xs i) []) (flat_map f (drop (i + 1) xs))
    ∙ ap (λ (t : List ℕ). text ++ t) (sym (from_place f xs i))
    ∙ is

-- what is said of a row is what is said of its key and its registrar
pub by_parts : {K C : Type 0} (key_text : K → List ℕ) (at : Cs) (way : WayState K C) (found : Option (Row K C))
    → option_map_or (leaving_text key_text at way) found []
    ≡ option_map_or {T = K × Registrar} (λ x. leaving_of key_text at way x.0 x.1)
    (option_map {U = K × Registrar} (λ (r : Row K C). (r.key, r.registrar)) found) []
by_parts key_text at way None = refl
by_parts key_text at way (Some r) = refl

-- ---- a row at a place, by its key and its registrar

module _ {K C : Type 0} where
  -- both are those of the row
  pub pair_at : (rows : List (Row K C)) (i : ℕ) (k : K) (g : Registrar) → slice_get (map key_of rows) i ≡ Some k
      → slice_get (map (λ (r : Row K C). r.registrar) rows) i ≡ Some g → option_map {U = K × Registrar} (λ (r : Row K C). (r.key, r.registrar)) (slice_get rows i) ≡ Some (k, g)
  pair_at [] i k g h e = cc
  pair_at (r ∷ rows) zero k g h e = let key : r.key ≡ k = cc in let registrar : r.registrar ≡ g = cc in rw (key, registrar) refl
  pair_at (r ∷ rows) (suc i) k g h e = pair_at rows i k g h e

  -- where there is no key, there is no row
  pub no_key_at : (rows : List (Row K C)) (i : ℕ) → slice_get (map key_of rows) i ≡ None
      → option_map {U = K × Registrar} (λ (r : Row K C). (r.key, r.registrar)) (slice_get rows i) ≡ None
  no_key_at [] i h = refl
  no_key_at (r ∷ rows) zero h = cc
  no_key_at (r ∷ rows) (suc i) h = no_key_at rows i h

  -- and where there is no registrar
  pub no_registrar_at : (rows : List (Row K C)) (i : ℕ) → slice_get (map (λ (r : Row K C). r.registrar) rows) i ≡ None
      → option_map {U = K × Registrar} (λ (r : Row K C). (r.key, r.registrar)) (slice_get rows i) ≡ None
  no_registrar_at [] i h = refl
  no_registrar_at (r ∷ rows) zero h = cc
  no_registrar_at (r ∷ rows) (suc i) h = no_registrar_at rows i h

-- ---- texts

-- what is said at first, and then behind it, is both behind what was there
pub both_said : (old first both a b : List ℕ) → first ≡ old ++ a → both ≡ first ++ b → both ≡ old ++ (a ++ b)
both_said old first both a b one two = two ∙ ap (λ (t : List ℕ). t ++ b) one ∙ append_assoc old a b

-- The attributes that are registered of some rows, from a place on.
use Rattle.std.proofs.Common.{◌≡◌, ◌<◌, ◌+◌, append_assoc, ℕ, zero, suc, List, [], ◌∷◌, ◌++◌, length, drop, refl, sym, ap, ◌∙◌, arith}
use Rattle.std.specs.Prelude.{Option, Some, None, slice_get, filter_map, option_and_then, option_to_list}
use Rattle.std.specs.List.{cons_option}
use Rattle.mrp_participant.specs.declared.row.Row.{Row}
use Rattle.node_core.specs.{NodeKey, registered_key}

in_front : (o : Option NodeKey) (keys : List NodeKey) → cons_option o keys ≡ option_to_list o ++ keys
in_front None keys = refl
in_front (Some key) keys = refl

module _ {K C : Type 0} (name : K → NodeKey) where
  -- the row at a place, and then those behind it
  pub from_place : (rows : List (Row K C)) (i : ℕ) → i < length rows
      → filter_map (registered_key name) (drop i rows)
      ≡ option_to_list (option_and_then (registered_key name) (slice_get rows i)) ++ filter_map (registered_key name) (drop (suc i) rows)
  from_place [] i lt = absurd (omega (arith, lt))
  from_place (r ∷ rows) zero lt = in_front (registered_key name r) (filter_map (registered_key name) rows)
  from_place (r ∷ rows) (suc i) lt = let less : i < length rows = omega (arith, lt) in from_place rows i less

  -- the attribute of the row at a place, where it is registered, or none
  abbrev pub here : List (Row K C) → ℕ → List NodeKey
  here rows i = option_to_list (option_and_then (registered_key name) (slice_get rows i))

  -- the keys so far and those of the rows from a place on are all, also once that place has been looked at
  pub next_place : (rows : List (Row K C)) (i : ℕ) (keys more all : List NodeKey) → i < length rows
      → more ≡ keys ++ here rows i → keys ++ filter_map (registered_key name) (drop i rows) ≡ all
      → more ++ filter_map (registered_key name) (drop (i + 1) rows) ≡ all
  next_place rows i keys more all lt pushed before =
      let rest : List NodeKey = filter_map (registered_key name) (drop (suc i) rows) in
      let next : i + 1 ≡ suc i = omega arith in
      ap (λ (n : ℕ). more ++ filter_map (registered_key name) (drop n rows)) next
      ∙ (ap (λ (ks : List NodeKey). ks ++ rest) pushed
      ∙ (append_assoc keys (here rows i) rest
      ∙ (ap (λ (ks : List NodeKey). keys ++ ks) (sym (from_place rows i lt)) ∙ before)))

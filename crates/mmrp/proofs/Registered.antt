-- The MAC addresses that are registered of some rows, from a place on.
use Rattle.std.proofs.Common.{◌≡◌, ◌<◌, ◌+◌, append_assoc, ℕ, zero, suc, List, [], ◌∷◌, ◌++◌, length, drop, refl, sym, ap, ◌∙◌, arith}
use Rattle.std.specs.Prelude.{Option, Some, None, slice_get, filter_map, option_and_then, option_to_list}
use Rattle.std.specs.List.{cons_option}
use Rattle.mrp_participant.specs.declared.row.Row.{Row}
use Rattle.mmrp.specs.{registered_mac}

in_front : (o : Option ℕ) (macs : List ℕ) → cons_option o macs ≡ option_to_list o ++ macs
in_front None macs = refl
in_front (Some mac) macs = refl

-- the MAC address of the row at a place, where it is registered, or none
abbrev pub here : List (Row ℕ (Unit {0})) → ℕ → List ℕ
here rows i = option_to_list (option_and_then registered_mac (slice_get rows i))

-- the row at a place, and then those behind it
from_place : (rows : List (Row ℕ (Unit {0}))) (i : ℕ) → i < length rows
    → filter_map registered_mac (drop i rows) ≡ here rows i ++ filter_map registered_mac (drop (suc i) rows)
from_place [] i lt = absurd (omega (arith, lt))
from_place (r ∷ rows) zero lt = in_front (registered_mac r) (filter_map registered_mac rows)
from_place (r ∷ rows) (suc i) lt = let less : i < length rows = omega (arith, lt) in from_place rows i less

-- the MAC addresses so far and those of the rows from a place on are all, also once that place has been looked at
pub next_place : (rows : List (Row ℕ (Unit {0}))) (i : ℕ) (macs more all : List ℕ) → i < length rows
    → more ≡ macs ++ here rows i → macs ++ filter_map registered_mac (drop i rows) ≡ all
    → more ++ filter_map registered_mac (drop (i + 1) rows) ≡ all
next_place rows i macs more all lt pushed before =
    let rest : List ℕ = filter_map registered_mac (drop (suc i) rows) in
    let next : i + 1 ≡ suc i = omega arith in
    ap (λ (n : ℕ). more ++ filter_map registered_mac (drop n rows)) next
    ∙ (ap (λ (ms : List ℕ). ms ++ rest) pushed
    ∙ (append_assoc macs (here rows i) rest
    ∙ (ap (λ (ms : List ℕ). macs ++ ms) (sym (from_place rows i lt)) ∙ before)))

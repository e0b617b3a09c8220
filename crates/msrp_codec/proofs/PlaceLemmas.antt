-- The value at a place of a vector that lies in the octets: in which octet it is, and where in that.
use Rattle.std.proofs.Common.{◌≡◌, ℕ, ◌+◌, ◌/◌, ◌%◌, ◌<◌, ◌≤◌, List, length, get_or, take, sym, ap, ◌∙◌, arith}
use Rattle.std.specs.Prelude.{slice_index}
use Rattle.std.specs.List.{flat_map}
use Rattle.std.proofs.lemmas.{List.length-take, List.length-take-le, List.get_or-take, List.get_or_past, List.Concat.get_or-flat_map}
use Rattle.mrpdu_codec.specs.Octets.{three_events, four_params}
use Rattle.mrpdu_codec.proofs.{Formed.four_each, ValuePlaces.before_n}
pub use Rattle.mrpdu_codec.proofs.ValuePlaces.{count_of_values, is_within, event_at_place}

pub four_at_place : (n i : ℕ) (packed fours : List ℕ) → i < length (take n (flat_map three_events packed)) → i / 4 < length fours
    → slice_index (take n (flat_map four_params fours)) i ≡ get_or (four_params (get_or fours (i / 4) 0)) (i % 4) 0
four_at_place n i packed fours h lt =
    let front : length (flat_map four_params (take (i / 4) fours)) + i % 4 ≡ i =
    omega (arith, four_each (take (i / 4) fours), length-take-le (i / 4) fours (omega arith)) in
    get_or-take n (flat_map four_params fours) i 0 (before_n n i packed h)
    ∙ ap (λ (k : ℕ). get_or (flat_map four_params fours) k 0) (sym front)
    ∙ get_or-flat_map four_params fours (i / 4) (i % 4) 0 0 lt (omega arith)

pub no_four : (n i : ℕ) (fours : List ℕ) → length fours ≤ i / 4 → slice_index (take n (flat_map four_params fours)) i ≡ 0
no_four n i fours h =
    get_or_past (take n (flat_map four_params fours)) i 0 (omega (arith, length-take n (flat_map four_params fours), four_each fours))

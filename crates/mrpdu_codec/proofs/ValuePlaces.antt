-- The value at a place of a vector that lies in the octets: in which octet it is, and where in that.
use Rattle.std.proofs.Common.{◌≡◌, ℕ, ◌+◌, ◌*◌, ◌/◌, ◌%◌, ◌<◌, min, List, length, get_or, take, sym, ap, ◌∙◌, arith}
use Rattle.std.specs.List.{flat_map}
use Rattle.std.proofs.lemmas.{List.length-take, List.length-take-le, List.get_or-take, List.Concat.get_or-flat_map}
use Rattle.srp_base.specs.declared.mrp.MrpEvent.TheVariants.{New}
use Rattle.mrpdu_codec.specs.{three_events}
use Rattle.mrpdu_codec.proofs.Formed.{three_each}

pub count_of_values : (n : ℕ) (packed : List ℕ) → length (take n (flat_map three_events packed)) ≡ min n (3 * length packed)
count_of_values n packed = length-take n (flat_map three_events packed) ∙ ap (λ (k : ℕ). min n k) (three_each packed)

pub is_within : (n i : ℕ) (packed : List ℕ) → i < length (take n (flat_map three_events packed)) → i / 3 < length packed
is_within n i packed h = omega (arith, count_of_values n packed)

pub before_n : (n i : ℕ) (packed : List ℕ) → i < length (take n (flat_map three_events packed)) → i < n
before_n n i packed h = omega (arith, count_of_values n packed)

pub event_at_place : (n i : ℕ) (packed : List ℕ) → i < length (take n (flat_map three_events packed))
    → get_or (take n (flat_map three_events packed)) i New ≡ get_or (three_events (get_or packed (i / 3) 0)) (i % 3) New
event_at_place n i packed h =
    let lt : i / 3 < length packed = is_within n i packed h in
    let front : length (flat_map three_events (take (i / 3) packed)) + i % 3 ≡ i =
    omega (arith, three_each (take (i / 3) packed), length-take-le (i / 3) packed (omega arith)) in
    get_or-take n (flat_map three_events packed) i New (before_n n i packed h)
    ∙ ap (λ (k : ℕ). get_or (flat_map three_events packed) k New) (sym front)
    ∙ get_or-flat_map three_events packed (i / 3) (i % 3) 0 New lt (omega arith)

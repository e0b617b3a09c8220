-- The slopes of class A, one want after the other.
use Rattle.std.proofs.Common.{◌≡◌, ◌+◌, Bool, true, false, List, [], ◌∷◌, sum_by, if◌then◌else◌, refl, arith}
use Rattle.std.specs.Prelude.{filter}
use Rattle.std.proofs.lemmas.List.Sums.{sum_by-cons}
use Rattle.stream_importance.specs.declared.entry.Want.{Want}
use Rattle.port_needs.specs.{is_of_class_a, slope_in_a, slope_of_a, slope_of_all}

pub summed_a : (wants : List Want) → sum_by slope_in_a wants ≡ slope_of_a wants
summed_a [] = refl
summed_a (w ∷ ws) = by (is_of_class_a w) (sum_by-cons slope_in_a w ws) (summed_a ws)
  where
    by : (t : Bool) → sum_by slope_in_a (w ∷ ws) ≡ (if t then w.slope else 0) + sum_by slope_in_a ws → sum_by slope_in_a ws ≡ slope_of_a ws
        → sum_by slope_in_a (w ∷ ws) ≡ slope_of_all (if t then w ∷ filter is_of_class_a ws else filter is_of_class_a ws)
    by true step rest = omega (arith, step, rest, sum_by-cons (λ (x : Want). x.slope) w (filter is_of_class_a ws))
    by false step rest = omega (arith, step, rest)

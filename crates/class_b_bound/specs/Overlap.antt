-- How what class B has of a window is summed up, departure by departure and slope by slope. No
-- public contract names these words.
use Rattle.std.specs.Prelude.{ℕ, ◌+◌, ◌-◌, ◌*◌, min, max, List, [], ◌∷◌, if◌then◌else◌}
use Rattle.credit_shaper.specs.declared.{port.SlopeChange.SlopeChange, port.Departure.Departure, shaper.Traffic.TheVariants.B}
use Rattle.credit_shaper.specs.Departures.{departs_as}

-- the bit times that two stretches have in common
abbrev pub overlap : ℕ → ℕ → ℕ → ℕ → ℕ
overlap start end from to = min end to - max start from

-- the bit times of a window that a departure takes as one of class B
abbrev pub taken_by : ℕ → ℕ → Departure → ℕ
taken_by from to d = if departs_as B d then overlap d.start d.end from to else 0

-- those that some departures take
abbrev pub bits_over : ℕ → ℕ → List Departure → ℕ
bits_over from to [] = 0
bits_over from to (d ∷ ds) = taken_by from to d + bits_over from to ds

-- the slopes' sum over a window, where this slope is in force up to the first change
abbrev pub area_over : ℕ → ℕ → ℕ → List SlopeChange → ℕ
area_over from to slope [] = (to - from) * slope
area_over from to slope (c ∷ cs) =
    let next = max from (min c.bit to) in (next - from) * slope + area_over next to c.slope_b cs

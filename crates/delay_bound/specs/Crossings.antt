-- Where the least of a group's bounds goes over from one to another, and what is known of heights
-- there.
use Rattle.std.specs.Prelude.{ℕ, ◌+◌, ◌-◌, ◌*◌, ◌/◌, ◌^◌, ◌<◌, ◌≤◌, List, All}
use Rattle.delay_bound.specs.declared.bound.Bound.{Bound}
use Rattle.delay_bound.specs.declared.bound.Group.{Group}
use Rattle.delay_bound.specs.declared.heights.NoPeak.{NoPeak}
use Rattle.delay_bound.specs.declared.heights.NoPeak.TheVariants.{Steep, Large}
use Rattle.delay_bound.specs.Bounds.{brought_in, StaysBelow, first_slopes, bases_of}

-- why some groups have no peak at a slope, or none is answered
abbrev pub IsCause : List Group → ℕ → NoPeak → Type 0
IsCause groups slope Steep = slope < first_slopes groups
IsCause groups slope Large = 2 ^ 126 ≤ bases_of groups

-- the last whole span up to which a bound is no higher than a flatter one
abbrev pub crossing_of : Bound → Bound → ℕ
crossing_of steep flat = (flat.base - steep.base) / (steep.slope - flat.slope)

-- over a span the groups bring in no more than a height and what a slope takes away
abbrev pub IsBelowIn : List Group → ℕ → ℕ → ℕ → Type 0
IsBelowIn groups slope height span = brought_in groups span ≤ height + slope * span

-- over the whole spans next to the crossing of a bound with a flatter one
abbrev pub IsBelowAt : List Group → ℕ → ℕ → Bound → Bound → Type 0
IsBelowAt groups slope height steep flat =
    flat.slope < steep.slope
    → IsBelowIn groups slope height (crossing_of steep flat)
    × IsBelowIn groups slope height (crossing_of steep flat + 1)

-- over those next to the crossings of a bound with some
abbrev pub IsBelowWith : List Group → ℕ → ℕ → List Bound → Bound → Type 0
IsBelowWith groups slope height bounds steep =
    All (λ flat. IsBelowAt groups slope height steep flat) bounds

-- over those next to all crossings of some bounds
abbrev pub IsBelowOver : List Group → ℕ → ℕ → List Bound → Type 0
IsBelowOver groups slope height bounds =
    All (λ steep. IsBelowWith groups slope height bounds steep) bounds

-- a height is no greater than any that the groups stay below
abbrev pub IsNoHigher : List Group → ℕ → ℕ → Type 0
IsNoHigher groups slope height = (other : ℕ) → StaysBelow groups slope other → height ≤ other

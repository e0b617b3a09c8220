-- How much comes to a port: bounds, the groups that keep them, and the peak of what the groups
-- bring in over what a slope takes away. Sizes are in bits × 10^12, spans in ps.
--
--       of a group |            . '      first: base, and then slope by slope
--                  |        , - -- - -   more of them: the least at each span counts
--                  |     , '
--                  |__ ' ______________
--                                span
use Rattle.std.specs.Prelude.{ℕ, ◌+◌, ◌*◌, ◌≤◌, min, List, [], ◌∷◌, sum_by}
use Rattle.delay_bound.specs.declared.bound.Bound.{Bound}
use Rattle.delay_bound.specs.declared.bound.Group.{Group}

-- the ps of a second
abbrev pub second : ℕ
second = 1000000000000

-- what a bound lets in over a span
abbrev pub given_in : ℕ → Bound → ℕ
given_in span b = b.base + b.slope * span

-- the least that a bound and more of them let in over a span
abbrev pub least_in : ℕ → Bound → List Bound → ℕ
least_in span first [] = given_in span first
least_in span first (b ∷ bs) = min (given_in span b) (least_in span first bs)

-- what some groups bring in over a span, each no more than the least of its bounds
abbrev pub brought_in : List Group → ℕ → ℕ
brought_in groups span = sum_by (λ g. least_in span g.first g.more) groups

-- over each span the groups bring in no more than a height and what a slope takes away
abbrev pub StaysBelow : List Group → ℕ → ℕ → Type 0
StaysBelow groups slope height = (span : ℕ) → brought_in groups span ≤ height + slope * span

-- the peak of some groups at a slope: the least height that they stay below
pub record IsPeak (groups : List Group) (slope height : ℕ) : Type 0 where
  pub stays : StaysBelow groups slope height
  pub least : (other : ℕ) → StaysBelow groups slope other → height ≤ other

-- the groups' first slopes together
abbrev pub first_slopes : List Group → ℕ
first_slopes groups = sum_by (λ g. g.first.slope) groups

-- the bounds of a group
abbrev pub bounds_of : Group → List Bound
bounds_of g = g.first ∷ g.more

-- the bases of a bound and more of them together
abbrev pub bases_with : Bound → List Bound → ℕ
bases_with first more = first.base + sum_by (λ b. b.base) more

-- the bases of all bounds of the groups together
abbrev pub bases_of : List Group → ℕ
bases_of groups = sum_by (λ g. bases_with g.first g.more) groups

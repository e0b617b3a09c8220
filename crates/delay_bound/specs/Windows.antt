-- What comes in a window of time, by the moment at which each frame is at a place; a frame that
-- never is has none.
use Rattle.std.specs.Prelude.{ℕ, ◌+◌, ◌-◌, ◌*◌, ◌≤◌, Bool, false, ◌&&◌, nat_le, List, [], ◌∷◌, All, filter, sum_by, Option, Some, None, if◌then◌else◌}
use Rattle.delay_bound.specs.declared.bound.Bound.{Bound}
use Rattle.delay_bound.specs.declared.bound.Group.{Group}
use Rattle.delay_bound.specs.declared.stream.SentFrame.{SentFrame}
use Rattle.delay_bound.specs.Bounds.{second, bounds_of, brought_in}

-- whether a moment is within a window, with both its ends
abbrev pub is_within : ℕ → ℕ → Option ℕ → Bool
is_within from to None = false
is_within from to (Some moment) = nat_le from moment && nat_le moment to

-- the bits of the things that are at a place within a window
abbrev pub bits_within : {F : Type 0} → (F → ℕ) → (F → Option ℕ) → ℕ → ℕ → List F → ℕ
bits_within bits at from to fs = sum_by (λ f. if is_within from to (at f) then bits f else 0) fs

-- in each window no more comes than a base, in bits × 10^12, and what a slope, in bit/s, gives
abbrev pub IsBoundBy : {F : Type 0} → (F → ℕ) → (F → Option ℕ) → ℕ → ℕ → List F → Type 0
IsBoundBy bits at base slope fs =
    (from to : ℕ) → from ≤ to → bits_within bits at from to fs * second ≤ base + slope * (to - from)

-- the bits of a stream's frames within a window
abbrev pub bits_from : ℕ → ℕ → List SentFrame → ℕ
bits_from from to frames = bits_within (λ x. x.bits) (λ x. Some x.at.0) from to frames

-- a thing is at a second place at least some ps after it was at the first, and at most so many
-- more, or never
abbrev pub ComesFrom : ℕ → ℕ → Option ℕ → Option ℕ → Type 0
ComesFrom least gap here None = Unit {0}
ComesFrom least gap None (Some there) = ⊥
ComesFrom least gap (Some here) (Some there) =
    (here + least ≤ there) × (there ≤ here + least + gap)

-- what passes a group's test keeps each of the group's bounds
abbrev pub AreBoundBy : {F : Type 0} → (F → ℕ) → (F → Option ℕ) → List F → List Bound → Type 0
AreBoundBy bits at fs bounds = All (λ b. IsBoundBy bits at b.base b.slope fs) bounds

-- each group keeps its bounds: what passes a group's test is in each window within each of them
abbrev pub AreGroups : {F : Type 0} → (F → ℕ) → (F → Option ℕ) → List F → List (F → Bool) → List Group → Type 0
AreGroups bits at fs [] [] = Unit {0}
AreGroups bits at fs [] (g ∷ gs) = Unit {0}
AreGroups bits at fs (test ∷ tests) [] = ⊥
AreGroups bits at fs (test ∷ tests) (g ∷ gs) =
    AreBoundBy bits at (filter test fs) (bounds_of g) × AreGroups bits at fs tests gs

-- a frame of so many bits that arrives at bit time t and hasn't started before bit time u: from a
-- bit time s on, what the slope gave is at most the bits ahead of it, at the rate, and what the
-- class gained idle; and those bits with its own are no more than some groups bring in from s to t
pub record IsOwed (groups : List Group) (rate bit slope idle own ahead s t u : ℕ) : Type 0 where
  pub since : s ≤ t
  pub until : t ≤ u
  pub owed : slope * (u - s) ≤ rate * ahead + idle * slope
  pub brought : (ahead + own) * second ≤ brought_in groups ((t - s) * bit)

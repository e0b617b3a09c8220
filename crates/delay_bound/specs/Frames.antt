-- What a Talker may send, by each two of its frames, and how frames move from one place to another.
use Rattle.std.specs.Prelude.{◌≡◌, ℕ, ◌+◌, ◌-◌, ◌*◌, ◌≤◌, List, [], ◌∷◌, All}
use Rattle.std.specs.List.Sorted.{IsNonDecreasingBy}
use Rattle.delay_bound.specs.declared.stream.SentFrame.{SentFrame}
use Rattle.delay_bound.specs.declared.stream.StreamLimits.{StreamLimits}
use Rattle.delay_bound.specs.Bounds.{second}

-- from a frame at this moment through each of some later ones, with what was sent before these, no
-- more bits are sent than the base and what the slope gives in the time between the two
abbrev pub KeepFrom : ℕ → ℕ → ℕ → ℕ → List SentFrame → Type 0
KeepFrom base slope at before [] = Unit {0}
KeepFrom base slope at before (x ∷ xs) =
    (before + x.bits * second ≤ base + slope * (x.at.0 - at))
    × KeepFrom base slope at (before + x.bits * second) xs

-- from each of some frames through itself and through each later one, both counted, no more bits
-- are sent than the base, in bits × 10^12, and what the slope, in bit/s, gives in the ps between
-- the two
abbrev pub Keep : ℕ → ℕ → List SentFrame → Type 0
Keep base slope [] = Unit {0}
Keep base slope (x ∷ xs) = KeepFrom base slope x.at.0 0 (x ∷ xs) × Keep base slope xs

-- frames stand in order of moment
abbrev pub IsInOrder : List SentFrame → Type 0
IsInOrder frames = IsNonDecreasingBy (λ x. x.at.0) frames

-- a stream's frames conform to its limits: none is longer than the longest, and each two of them,
-- or one twice, keep its burst and its slope
pub record DoConform (limits : StreamLimits) (frames : List SentFrame) : Type 0 where
  pub sizes : All (λ x. x.bits ≤ limits.most) frames
  pub pairs : Keep (limits.burst * second) limits.slope frames

-- frames side by side as they were at one place and are at another: each is there after at least
-- some ps, and at most so many more; those of the first place may go on where the others end
abbrev pub ComeOn : ℕ → ℕ → List SentFrame → List SentFrame → Type 0
ComeOn least gap xs [] = Unit {0}
ComeOn least gap [] (y ∷ ys) = ⊥
ComeOn least gap (x ∷ xs) (y ∷ ys) =
    ((y.bits ≡ x.bits) × (x.at.0 + least ≤ y.at.0) × (y.at.0 ≤ x.at.0 + least + gap))
    × ComeOn least gap xs ys

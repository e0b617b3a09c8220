-- A bucket into which a stream's frames go and out of which its slope runs. No public contract
-- names these words.
use Rattle.std.specs.Prelude.{◌≡◌, ◌+◌, ◌-◌, ◌*◌, ◌≤◌, List, [], ◌∷◌, Option, Some, None}
use Rattle.delay_bound.specs.declared.stream.Bucket.{Bucket}
use Rattle.delay_bound.specs.declared.stream.SentFrame.{SentFrame}
use Rattle.delay_bound.specs.declared.stream.StreamLimits.{StreamLimits}
use Rattle.delay_bound.specs.Bounds.{second}

-- a bucket with one frame more
abbrev pub bucket_with : StreamLimits → Bucket → SentFrame → Bucket
bucket_with limits bucket x =
    record {
      level = x.bits * second + (bucket.level - limits.slope * (x.at.0 - bucket.at));
      at = x.at.0;
    }

-- a frame may go into a bucket: it isn't longer than the longest, and makes it no higher than the
-- burst
abbrev pub MayGoIn : StreamLimits → Bucket → SentFrame → Type 0
MayGoIn limits bucket x =
    (x.bits ≤ limits.most) × ((bucket_with limits bucket x).level ≤ limits.burst * second)

-- what a frame more gives
abbrev pub IsNext : StreamLimits → Bucket → SentFrame → Option Bucket → Type 0
IsNext limits bucket x None = MayGoIn limits bucket x → ⊥
IsNext limits bucket x (Some next) = MayGoIn limits bucket x × (next ≡ bucket_with limits bucket x)

-- some frames may go into a bucket one after the other
abbrev pub MayAllGoIn : StreamLimits → Bucket → List SentFrame → Type 0
MayAllGoIn limits bucket [] = Unit {0}
MayAllGoIn limits bucket (x ∷ xs) =
    MayGoIn limits bucket x × MayAllGoIn limits (bucket_with limits bucket x) xs

-- A bucket takes a stream's frames one after the other exactly where they keep the burst and the slope by pairs.
use Rattle.std.proofs.Common.{◌≡◌, ℕ, zero, suc, ◌+◌, ◌-◌, ◌*◌, ◌<◌, ◌≤◌, ◌⊎◌, List, [], ◌∷◌, length, drop, get_or, None, sym, ap, subst, inl, inr, arith}
use Rattle.std.specs.Prelude.{All}
use Rattle.std.proofs.lemmas.Bool.{cases_lt}
use Rattle.std.proofs.lemmas.List.{drop_more, drop_all}
use Rattle.std.proofs.lemmas.List.Elements.{All-head, All-tail}
use Rattle.delay_bound.specs.declared.stream.Bucket.{Bucket}
use Rattle.delay_bound.specs.declared.stream.SentFrame.{SentFrame}
use Rattle.delay_bound.specs.declared.stream.StreamLimits.{StreamLimits}
use Rattle.delay_bound.specs.Bounds.{second}
use Rattle.delay_bound.specs.Frames.{KeepFrom, Keep, IsInOrder, DoConform}
use Rattle.delay_bound.specs.Levels.{bucket_with, IsNext, MayAllGoIn}

-- each of some frames is at a moment or after it
abbrev AreFrom : ℕ → List SentFrame → Type 0
AreFrom at frames = All (λ x. at ≤ x.at.0) frames

from_head : (at : ℕ) (x : SentFrame) (xs : List SentFrame) → AreFrom at (x ∷ xs) → at ≤ x.at.0
from_head at x xs all = All-head (λ (t : SentFrame). at ≤ t.at.0) x xs all

from_tail : (at : ℕ) (x : SentFrame) (xs : List SentFrame) → AreFrom at (x ∷ xs) → AreFrom at xs
from_tail at x xs all = All-tail (λ (t : SentFrame). at ≤ t.at.0) x xs all

behind : (x : SentFrame) (xs : List SentFrame) → IsInOrder (x ∷ xs) → AreFrom x.at.0 xs
behind x xs order k d lt = order zero (suc k) d (omega arith) (omega (arith, lt))

order_tail : (x : SentFrame) (xs : List SentFrame) → IsInOrder (x ∷ xs) → IsInOrder xs
order_tail x xs order i j d lt below = order (suc i) (suc j) d (omega (arith, lt)) (omega (arith, below))

-- what the slope gives over one time and then another
in_two : (slope a b c : ℕ) → a ≤ b → b ≤ c → slope * (c - b) + slope * (b - a) ≡ slope * (c - a)
in_two slope a b c first next =
    let same : slope * ((c - b) + (b - a)) ≡ slope * (c - a) = ap (λ k. slope * k) (omega (arith, first, next)) in
    omega (arith, same)

-- frames that keep up from a later moment with more before them do from an earlier one
earlier : (base slope at next before more : ℕ) (xs : List SentFrame) → at ≤ next → before ≤ more + slope * (next - at) → AreFrom next xs
    → KeepFrom base slope next more xs → KeepFrom base slope at before xs
earlier base slope at next before more [] up less all keep = tt
earlier base slope at next before more (x ∷ xs) up less all keep =
    let two = in_two slope at next x.at.0 up (from_head next x xs all) in (
      omega (arith, keep.0, two, less),
      earlier base slope at next (before + x.bits * second) (more + x.bits * second) xs up (omega (arith, less)) (from_tail next x xs all) keep.1,
    )

-- and what keeps up from both of two moments does with what either has before it
later : (base slope at next before own most : ℕ) (xs : List SentFrame) → at ≤ next → (most ≤ own) ⊎ (most + slope * (next - at) ≤ before) → AreFrom next xs
    → KeepFrom base slope at before xs → KeepFrom base slope next own xs → KeepFrom base slope next most xs
later base slope at next before own most [] up less all one two = tt
later base slope at next before own most (x ∷ xs) up less all one two =
    let both = in_two slope at next x.at.0 up (from_head next x xs all) in (
      elim less [ inl l ↦ omega (arith, l, two.0) | inr l ↦ omega (arith, l, one.0, both) ],
      later base slope at next (before + x.bits * second) (own + x.bits * second) (most + x.bits * second) xs up
          (elim less [ inl l ↦ inl (omega (arith, l)) | inr l ↦ inr (omega (arith, l)) ])
          (from_tail next x xs all) one.1 two.1,
    )

-- frames keep all that a bucket asks: their sizes, what is in it, and one another
abbrev KeepAll : StreamLimits → Bucket → List SentFrame → Type 0
KeepAll limits bucket xs =
    All (λ x. x.bits ≤ limits.most) xs
    × KeepFrom (limits.burst * second) limits.slope bucket.at bucket.level xs
    × Keep (limits.burst * second) limits.slope xs

sizes_on : (most : ℕ) (x : SentFrame) (xs : List SentFrame) → x.bits ≤ most → All (λ y. y.bits ≤ most) xs → All (λ y. y.bits ≤ most) (x ∷ xs)
sizes_on most x xs here all zero d lt = here
sizes_on most x xs here all (suc k) d lt = all k d (omega (arith, lt))

level_is : (own level drop : ℕ) → (own + (level - drop) ≤ own) ⊎ (own + (level - drop) + drop ≤ level + own)
level_is own level drop =
    elim (cases_lt level drop) [ inl l ↦ inl (omega (arith, l)) | inr l ↦ inr (omega (arith, l)) ]

no_time : (slope at : ℕ) → slope * (at - at) ≡ 0
no_time slope at = let same : slope * (at - at) ≡ slope * 0 = ap (λ k. slope * k) (omega arith) in omega (arith, same)

pub went_in : (limits : StreamLimits) (bucket : Bucket) (xs : List SentFrame) → IsInOrder xs → AreFrom bucket.at xs
    → MayAllGoIn limits bucket xs → KeepAll limits bucket xs
went_in limits bucket [] order all goes = ((λ k d lt. absurd (omega (arith, lt))), tt, tt)
went_in limits bucket (x ∷ xs) order all goes =
    let base : ℕ = limits.burst * second in
    let next : Bucket = bucket_with limits bucket x in
    let up : bucket.at ≤ x.at.0 = from_head bucket.at x xs all in
    let since : AreFrom x.at.0 xs = behind x xs order in
    let rest : KeepAll limits next xs = went_in limits next xs (order_tail x xs order) since goes.1 in
    let high : x.bits * second + (bucket.level - limits.slope * (x.at.0 - bucket.at)) ≤ base = goes.0.1 in (
      sizes_on limits.most x xs goes.0.0 rest.0,
      (omega (arith, high), earlier base limits.slope bucket.at x.at.0 (bucket.level + x.bits * second) next.level xs up (omega arith) since rest.1),
      ((omega (arith, high), earlier base limits.slope x.at.0 x.at.0 (0 + x.bits * second) next.level xs (omega arith) (omega arith) since rest.1), rest.2),
    )

pub goes_in : (limits : StreamLimits) (bucket : Bucket) (xs : List SentFrame) → IsInOrder xs → AreFrom bucket.at xs
    → KeepAll limits bucket xs → MayAllGoIn limits bucket xs
goes_in limits bucket [] order all keep = tt
goes_in limits bucket (x ∷ xs) order all keep =
    let base : ℕ = limits.burst * second in
    let next : Bucket = bucket_with limits bucket x in
    let up : bucket.at ≤ x.at.0 = from_head bucket.at x xs all in
    let since : AreFrom x.at.0 xs = behind x xs order in
    let size : x.bits ≤ limits.most = All-head (λ (t : SentFrame). t.bits ≤ limits.most) x xs keep.0 in
    let sizes : All (λ y. y.bits ≤ limits.most) xs = All-tail (λ (t : SentFrame). t.bits ≤ limits.most) x xs keep.0 in
    let own : 0 + x.bits * second ≤ base + limits.slope * (x.at.0 - x.at.0) = keep.2.0.0 in
    let some : bucket.level + x.bits * second ≤ base + limits.slope * (x.at.0 - bucket.at) = keep.1.0 in
    let less = level_is (x.bits * second) bucket.level (limits.slope * (x.at.0 - bucket.at)) in
    let from = later base limits.slope bucket.at x.at.0 (bucket.level + x.bits * second) (0 + x.bits * second) next.level xs up
    (elim less [ inl l ↦ inl (omega (arith, l)) | inr l ↦ inr (omega (arith, l)) ]) since keep.1.1 keep.2.0.1 in (
      (size, omega (arith, own, some, no_time limits.slope x.at.0)),
      goes_in limits next xs (order_tail x xs order) since (sizes, from, keep.2.1),
    )

-- ---- from an empty bucket

pub conform_from : (limits : StreamLimits) (xs : List SentFrame) → IsInOrder xs → MayAllGoIn limits (record { level = 0; at = 0 }) xs → DoConform limits xs
conform_from limits xs order goes =
    let all : KeepAll limits (record { level = 0; at = 0 }) xs = went_in limits (record { level = 0; at = 0 }) xs order (λ k d lt. omega arith) goes in
    record { sizes = all.0; pairs = all.2 }

starts : (limits : StreamLimits) (xs : List SentFrame) → IsInOrder xs → Keep (limits.burst * second) limits.slope xs → KeepFrom (limits.burst * second) limits.slope 0 0 xs
starts limits [] order keep = tt
starts limits (x ∷ xs) order keep =
    earlier (limits.burst * second) limits.slope 0 x.at.0 0 0 (x ∷ xs) (omega arith) (omega arith)
    (λ k d lt. order zero k d (omega arith) lt)
    keep.0

pub into_bucket : (limits : StreamLimits) (xs : List SentFrame) → IsInOrder xs → DoConform limits xs → MayAllGoIn limits (record { level = 0; at = 0 }) xs
into_bucket limits xs order conform =
    goes_in limits (record { level = 0; at = 0 }) xs order (λ k d lt. omega arith) (conform.sizes, starts limits xs order conform.pairs, conform.pairs)

-- ---- the loop

-- a frame that may not go in shows that not all may
pub stops : (limits : StreamLimits) (start bucket : Bucket) (frames : List SentFrame) (i : ℕ) (d : SentFrame) → i < length frames
    → IsNext limits bucket (get_or frames i d) None → (MayAllGoIn limits start frames → MayAllGoIn limits bucket (drop i frames))
    → MayAllGoIn limits start frames → ⊥
stops limits start bucket frames i d lt is come all =
    is (subst (λ (t : List SentFrame). MayAllGoIn limits bucket t) (drop_more frames i d lt) (come all)).0

pub ends : (limits : StreamLimits) (bucket : Bucket) (frames : List SentFrame) (i : ℕ) → length frames ≤ i → MayAllGoIn limits bucket (drop i frames)
ends limits bucket frames i le = subst (λ (t : List SentFrame). MayAllGoIn limits bucket t) (sym (drop_all i frames le)) tt

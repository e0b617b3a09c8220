-- Frames that keep a base and a slope by pairs.
use Rattle.std.proofs.Common.{◌≡◌, ℕ, ◌+◌, ◌-◌, ◌*◌, ◌≤◌, cond, List, [], ◌∷◌, Some, ◌⊎◌, sym, subst, inl, inr, arith}
use Rattle.std.proofs.Math.Nat.{mul-le-mul_left}
use Rattle.std.proofs.lemmas.Bool.Decides.{nat_tests}
use Rattle.std.proofs.lemmas.List.Sums.{sum_by-cons}
use Rattle.delay_bound.specs.declared.stream.SentFrame.{SentFrame}
use Rattle.delay_bound.specs.Bounds.{second}
use Rattle.delay_bound.specs.Frames.{KeepFrom, Keep, ComeOn}
use Rattle.delay_bound.specs.Windows.{is_within, bits_from}

-- ---- at a further place

handed_from : (base slope least gap at there before : ℕ) (xs ys : List SentFrame) → there ≤ at + least + gap → KeepFrom base slope at before xs → ComeOn least gap xs ys
    → KeepFrom (base + slope * gap) slope there before ys
handed_from base slope least gap at there before xs [] moved keep come = tt
handed_from base slope least gap at there before [] (y ∷ ys) moved keep come = absurd come
handed_from base slope least gap at there before (x ∷ xs) (y ∷ ys) moved keep come =
    let size : y.bits ≡ x.bits = come.0.0 in
    let apart : slope * (x.at.0 - at) ≤ slope * ((y.at.0 - there) + gap) = mul-le-mul_left slope (omega (arith, moved, come.0.1, come.0.2)) in
    let rest = handed_from base slope least gap at there (before + x.bits * second) xs ys moved keep.1 come.1 in (
      omega (arith, keep.0, size, apart),
      subst (λ (n : ℕ). KeepFrom (base + slope * gap) slope there (before + n * second) ys) (sym size) rest,
    )

pub handed_on : (base slope least gap : ℕ) (xs ys : List SentFrame) → Keep base slope xs → ComeOn least gap xs ys → Keep (base + slope * gap) slope ys
handed_on base slope least gap xs [] keep come = tt
handed_on base slope least gap [] (y ∷ ys) keep come = absurd come
handed_on base slope least gap (x ∷ xs) (y ∷ ys) keep come = (
  handed_from base slope least gap x.at.0 y.at.0 0 (x ∷ xs) (y ∷ ys) come.0.2 keep.0 come,
  handed_on base slope least gap xs ys keep.1 come.1,
)

-- ---- in a window

one_more : (from to : ℕ) (x : SentFrame) (xs : List SentFrame) → bits_from from to (x ∷ xs) ≡ cond (is_within from to (Some x.at.0)) x.bits 0 + bits_from from to xs
one_more from to x xs = sum_by-cons (λ t. cond (is_within from to (Some t.at.0)) t.bits 0) x xs

in_window : (from to moment bits : ℕ) → ((from ≤ moment) × (moment ≤ to) × (cond (is_within from to (Some moment)) bits 0 ≡ bits)) ⊎ (cond (is_within from to (Some moment)) bits 0 ≡ 0)
in_window from to moment bits = grind (arith, nat_tests)

from_first : (base slope from to at before low : ℕ) (xs : List SentFrame) → from ≤ at → low ≤ before → low ≤ base + slope * (to - from) → KeepFrom base slope at before xs
    → low + bits_from from to xs * second ≤ base + slope * (to - from)
from_first base slope from to at before low [] first less small keep = omega (arith, small)
from_first base slope from to at before low (x ∷ xs) first less small keep =
    let more = one_more from to x xs in
    elim (in_window from to x.at.0 x.bits) [
      | inl within ↦ (
          let narrow : slope * (x.at.0 - at) ≤ slope * (to - from) = mul-le-mul_left slope (omega (arith, within.0, within.1, first)) in
          let rest = from_first base slope from to at (before + x.bits * second) (low + x.bits * second) xs first (omega (arith, less))
          (omega (arith, keep.0, narrow, less)) keep.1 in
          omega (arith, more, within.2, rest))
      | inr without ↦ (
          let rest = from_first base slope from to at (before + x.bits * second) low xs first (omega (arith, less)) small keep.1 in
          omega (arith, more, without, rest))
    ]

pub brings_no_more : (base slope from to : ℕ) (xs : List SentFrame) → Keep base slope xs → from ≤ to → bits_from from to xs * second ≤ base + slope * (to - from)
brings_no_more base slope from to [] keep up = omega arith
brings_no_more base slope from to (x ∷ xs) keep up =
    elim (in_window from to x.at.0 x.bits) [
      | inl within ↦ (
          let whole = from_first base slope from to x.at.0 0 0 (x ∷ xs) within.0 (omega arith) (omega arith) keep.0 in
          omega (arith, whole))
      | inr without ↦ omega (arith, one_more from to x xs, without, brings_no_more base slope from to xs keep.1 up)
    ]

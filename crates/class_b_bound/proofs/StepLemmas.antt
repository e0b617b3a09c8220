-- What one bit time makes of both credits, of the bits left on the line and of the bit times waited.
--
-- The rate is gap + cap: cap is that of class A, and most that of both classes. Of the longest frame,
-- 12,336 bits, `rem` are left and `gone` have gone. x and y are the credits of class A and of class B, and k
-- is how many bit times class B has been kept waiting.
use Rattle.std.proofs.Common.{◌≡◌, ℕ, zero, suc, ◌+◌, ◌*◌, ◌<◌, ◌≤◌, Bool, true, false, cond, refl, arith}
use Rattle.std.specs.Prelude.{ℤ, pos, ◌+ℤ◌, ◌-ℤ◌, ◌≤ℤ◌, ◌<ℤ◌}
use Rattle.std.proofs.Math.Nat.{mul-le-mul_left}
use Rattle.std.proofs.lemmas.{Bool.true≢false, Bool.false≢true, Int.ints, Int.clamps}
use Rattle.credit_shaper.specs.Credit.{credit_after}
use Rattle.credit_shaper.proofs.CreditLemmas.{rises, stays_above}

-- as a bit time begins; `a` and `b` say whether the frame that was on the line is of class A or B
pub record Begins (gap cap most rem gone k : ℕ) (a b : Bool) (x y : ℤ) : Type 0 where
  pub low : pos 0 ≤ℤ (y +ℤ pos ((gap + cap) * cond b gone 12336))
  pub high_a : x ≤ℤ pos (cap * cond a 12336 gone)
  pub high_b : y ≤ℤ pos (24672 * most)
  pub both : (x +ℤ y) ≤ℤ pos (12336 * most)
  pub worst : gap * k ≤ 12336 * (gap + cap) + 12336 * gap
  pub waited : 0 < k → (pos (gap * k) +ℤ x) ≤ℤ pos (12336 * (gap + cap))
  pub behind_a : a ≡ true → (y ≤ℤ pos (12336 * most + most * gone)) × (gap * k + gap * rem ≤ 12336 * (gap + cap) + 12336 * gap)
  pub behind_other : a ≡ false → b ≡ false → 0 < rem → (y ≤ℤ pos (most * gone)) × ((x +ℤ y) ≤ℤ pos (most * gone)) × (k + rem ≤ 12336)

-- the caps, and the slopes in force
pub record HasSlopes (gap cap most slope_a slope_b : ℕ) : Type 0 where
  pub a : slope_a ≤ cap
  pub both : slope_a + slope_b ≤ most
  pub below : most ≤ gap + cap
  pub part : cap ≤ most

-- the wait after a bit time: one more where class B is kept waiting, else none
pub record IsCounted (waits b : Bool) (y : ℤ) (k next : ℕ) : Type 0 where
  pub most : next ≤ suc k
  pub some : 0 < next → (next ≡ suc k) × (waits ≡ true) × (pos 0 ≤ℤ y) × (b ≡ false)

-- where the class waits with at most so much, or doesn't wait
stays_below : (rate slope most : ℕ) (waits : Bool) (c : ℤ) → (waits ≡ true → c ≤ℤ pos most)
    → credit_after rate slope false waits c ≤ℤ pos (most + slope)
stays_below rate slope most true c h = let top : c ≤ℤ pos most = h refl in omega (arith, ints, top)
stays_below rate slope most false c h = omega (arith, ints, clamps)

-- both together
stay_below : (rate slope_a slope_b most : ℕ) (wa wb : Bool) (x y : ℤ) → (wa ≡ true → x ≤ℤ pos most) → (wb ≡ true → y ≤ℤ pos most)
    → (wa ≡ true → wb ≡ true → (x +ℤ y) ≤ℤ pos most)
    → (credit_after rate slope_a false wa x +ℤ credit_after rate slope_b false wb y) ≤ℤ pos (most + slope_a + slope_b)
stay_below rate slope_a slope_b most true true x y a b both = let top : (x +ℤ y) ≤ℤ pos most = both refl refl in omega (arith, ints, top)
stay_below rate slope_a slope_b most true false x y a b both = let top : x ≤ℤ pos most = a refl in omega (arith, ints, clamps, top)
stay_below rate slope_a slope_b most false true x y a b both = let top : y ≤ℤ pos most = b refl in omega (arith, ints, clamps, top)
stay_below rate slope_a slope_b most false false x y a b both = omega (arith, ints, clamps)

-- the wait goes on while class A sends: its credit falls by what the gap adds
waits_on : (gap cap slope k next : ℕ) (x : ℤ) → slope ≤ cap → x ≤ℤ pos (cap * 12336) → next ≤ suc k
    → (0 < k → (pos (gap * k) +ℤ x) ≤ℤ pos (12336 * (gap + cap)))
    → (pos (gap * next) +ℤ (x +ℤ pos slope -ℤ pos (gap + cap))) ≤ℤ pos (12336 * (gap + cap))
waits_on gap cap slope zero next x small high few waited =
    let one : gap * next ≤ gap * 1 = mul-le-mul_left gap few in
    omega (arith, ints, one, high, small)
waits_on gap cap slope (suc k) next x small high few waited =
    let more : gap * next ≤ gap * suc (suc k) = mul-le-mul_left gap few in
    let before : (pos (gap * suc k) +ℤ x) ≤ℤ pos (12336 * (gap + cap)) = waited (omega arith) in
    omega (arith, ints, more, before, small)

-- a class A frame is on the line
pub step_a : (gap cap most sa sb m gone k next : ℕ) (wa wb : Bool) (x y : ℤ) → gone + suc m ≡ 12336 → HasSlopes gap cap most sa sb
    → pos 0 ≤ℤ (y +ℤ pos ((gap + cap) * 12336)) → x ≤ℤ pos (cap * 12336) → (x +ℤ y) ≤ℤ pos (12336 * most)
    → (0 < k → (pos (gap * k) +ℤ x) ≤ℤ pos (12336 * (gap + cap)))
    → y ≤ℤ pos (12336 * most + most * gone) → gap * k + gap * suc m ≤ 12336 * (gap + cap) + 12336 * gap
    → IsCounted wb false y k next
    → Begins gap cap most m (suc gone) next true false (credit_after (gap + cap) sa true wa x) (credit_after (gap + cap) sb false wb y)
step_a gap cap most sa sb m gone k next wa wb x y size s low high both waited behind rest count =
    let up = rises (gap + cap) sb wb y in
    let room : most * suc gone ≤ most * 12336 = mul-le-mul_left most (omega (arith, size)) in
    let few : gap * next ≤ gap * suc k = mul-le-mul_left gap count.most in
    let slope : sa ≤ cap = s.a in
    let sum : sa + sb ≤ most = s.both in
    let top : most ≤ gap + cap = s.below in
    record {
      low = stays_above (gap + cap) sb ((gap + cap) * 12336) wb y low;
      high_a = omega (arith, ints, high, slope);
      high_b = omega (arith, ints, up, behind, room, sum);
      both = omega (arith, ints, up, both, sum, top);
      worst = omega (arith, few, rest);
      waited = λ _. waits_on gap cap sa k next x slope high count.most waited;
      behind_a = λ _. (omega (arith, ints, up, behind, sum), omega (arith, few, rest));
      behind_other = λ e. absurd (true≢false e);
    }

-- a class B frame is on the line
pub step_b : (gap cap most sa sb m gone k next : ℕ) (wa wb : Bool) (x y : ℤ) → gone + suc m ≡ 12336 → HasSlopes gap cap most sa sb
    → pos 0 ≤ℤ (y +ℤ pos ((gap + cap) * gone)) → (wa ≡ true → x ≤ℤ pos (cap * gone)) → y ≤ℤ pos (24672 * most)
    → (x +ℤ y) ≤ℤ pos (12336 * most) → IsCounted wb true y k next
    → Begins gap cap most m (suc gone) next false true (credit_after (gap + cap) sa false wa x) (credit_after (gap + cap) sb true wb y)
step_b gap cap most sa sb m gone k zero wa wb x y size s low high_a high_b both count =
    let up = rises (gap + cap) sa wa x in
    let short = stays_below (gap + cap) sa (cap * gone) wa x high_a in
    let slope : sa ≤ cap = s.a in
    let sum : sa + sb ≤ most = s.both in
    let top : most ≤ gap + cap = s.below in
    record {
      low = omega (arith, ints, low);
      high_a = omega (arith, ints, short, slope);
      high_b = omega (arith, ints, high_b, sum, top);
      both = omega (arith, ints, up, both, sum, top);
      worst = omega arith;
      waited = λ some. absurd (omega (arith, some));
      behind_a = λ e. absurd (false≢true e);
      behind_other = λ _ e. absurd (true≢false e);
    }
step_b gap cap most sa sb m gone k (suc next) wa wb x y size s low high_a high_b both count =
    let seen = count.some (omega arith) in
    absurd (true≢false seen.3)

-- the rate's part of the wait behind another frame
gap_and_cap : (gap cap gone k : ℕ) (x : ℤ) → k ≤ gone → gone ≤ 12336 → x ≤ℤ pos (cap * gone)
    → (pos (gap * k) +ℤ x) ≤ℤ pos (12336 * (gap + cap))
gap_and_cap gap cap gone k x few size high =
    let one : gap * k ≤ gap * gone = mul-le-mul_left gap few in
    let two : gap * gone ≤ gap * 12336 = mul-le-mul_left gap size in
    let three : cap * gone ≤ cap * 12336 = mul-le-mul_left cap size in
    omega (arith, ints, one, two, three, high)

-- a frame of other traffic is on the line
pub step_other : (gap cap most sa sb m gone k next : ℕ) (wa wb : Bool) (x y : ℤ) → gone + suc m ≡ 12336 → HasSlopes gap cap most sa sb
    → pos 0 ≤ℤ (y +ℤ pos ((gap + cap) * 12336)) → (wa ≡ true → x ≤ℤ pos (cap * gone)) → (wb ≡ true → y ≤ℤ pos (most * gone))
    → (wa ≡ true → wb ≡ true → (x +ℤ y) ≤ℤ pos (most * gone)) → (0 < next → next + m ≤ 12336)
    → Begins gap cap most m (suc gone) next false false (credit_after (gap + cap) sa false wa x) (credit_after (gap + cap) sb false wb y)
step_other gap cap most sa sb m gone k next wa wb x y size s low high_a high_b high count =
    let slope : sa ≤ cap = s.a in
    let sum : sa + sb ≤ most = s.both in
    let small : cap ≤ most = s.part in
    let xs = stays_below (gap + cap) sa (cap * gone) wa x high_a in
    let ys = stays_below (gap + cap) sb (most * gone) wb y high_b in
    let a : wa ≡ true → x ≤ℤ pos (most * gone) =
    λ w. let top : x ≤ℤ pos (cap * gone) = high_a w in
    let wide : gone * cap ≤ gone * most = mul-le-mul_left gone small in omega (arith, ints, top, wide) in
    let xys = stay_below (gap + cap) sa sb (most * gone) wa wb x y a high_b high in
    let room : most * suc gone ≤ most * 12336 = mul-le-mul_left most (omega (arith, size)) in
    let top : credit_after (gap + cap) sa false wa x ≤ℤ pos (cap * suc gone) = omega (arith, ints, xs, slope) in
    let least : next ≤ suc gone = least_of next m gone size count in
    let all : gap * next ≤ gap * 12336 = mul-le-mul_left gap (omega (arith, least, size)) in
    record {
      low = stays_above (gap + cap) sb ((gap + cap) * 12336) wb y low;
      high_a = top;
      high_b = omega (arith, ints, ys, sum, room);
      both = omega (arith, ints, xys, sum, room);
      worst = omega (arith, all);
      waited = λ _. gap_and_cap gap cap (suc gone) next (credit_after (gap + cap) sa false wa x) least (omega (arith, size)) top;
      behind_a = λ e. absurd (false≢true e);
      behind_other = λ _ _ _. (omega (arith, ints, ys, sum), omega (arith, ints, xys, sum), few_of next m gone size count);
    }
  where
    least_of : (next m gone : ℕ) → gone + suc m ≡ 12336 → (0 < next → next + m ≤ 12336) → next ≤ suc gone
    least_of zero m gone size count = omega arith
    least_of (suc n) m gone size count = let few : suc n + m ≤ 12336 = count (omega arith) in omega (arith, few, size)

    few_of : (next m gone : ℕ) → gone + suc m ≡ 12336 → (0 < next → next + m ≤ 12336) → next + m ≤ 12336
    few_of zero m gone size count = omega (arith, size)
    few_of (suc n) m gone size count = count (omega arith)

-- the line rests
pub step_rest : (gap cap most sa sb k next : ℕ) (wa wb : Bool) (x y : ℤ) → HasSlopes gap cap most sa sb
    → pos 0 ≤ℤ (y +ℤ pos ((gap + cap) * 12336)) → (wa ≡ true → x <ℤ pos 0) → (wb ≡ true → y <ℤ pos 0) → IsCounted wb false y k next
    → Begins gap cap most 0 12336 next false false (credit_after (gap + cap) sa false wa x) (credit_after (gap + cap) sb false wb y)
step_rest gap cap most sa sb k zero wa wb x y s low short_a short_b count =
    let slope : sa ≤ cap = s.a in
    let sum : sa + sb ≤ most = s.both in
    let a : wa ≡ true → x ≤ℤ pos 0 = λ w. let below : x <ℤ pos 0 = short_a w in omega (arith, ints, below) in
    let b : wb ≡ true → y ≤ℤ pos 0 = λ w. let below : y <ℤ pos 0 = short_b w in omega (arith, ints, below) in
    let ab : wa ≡ true → wb ≡ true → (x +ℤ y) ≤ℤ pos 0 =
    λ v w. let one : x ≤ℤ pos 0 = a v in let two : y ≤ℤ pos 0 = b w in omega (arith, ints, one, two) in
    let xs = stays_below (gap + cap) sa 0 wa x a in
    let ys = stays_below (gap + cap) sb 0 wb y b in
    let xys = stay_below (gap + cap) sa sb 0 wa wb x y a b ab in
    record {
      low = stays_above (gap + cap) sb ((gap + cap) * 12336) wb y low;
      high_a = omega (arith, ints, xs, slope);
      high_b = omega (arith, ints, ys, sum);
      both = omega (arith, ints, xys, sum);
      worst = omega arith;
      waited = λ some. absurd (omega (arith, some));
      behind_a = λ e. absurd (false≢true e);
      behind_other = λ _ _ some. absurd (omega (arith, some));
    }
step_rest gap cap most sa sb k (suc next) wa wb x y s low short_a short_b count =
    let seen = count.some (omega arith) in
    let below : y <ℤ pos 0 = short_b seen.1 in
    let up : pos 0 ≤ℤ y = seen.2 in
    absurd (omega (arith, ints, below, up))

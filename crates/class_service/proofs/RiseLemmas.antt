-- How high class B's credit rises beside class A, from a bit time at which it is 0 on.
--
-- The rate is gap + a: a is the most of class A's slope, b that of class B's, and b isn't above the gap. x and y are the credits
-- of class A and of class B. What counts is (rate - a) × y + b × x: while a frame of either class is on the line it doesn't
-- rise, and behind a frame of other traffic it rises by at most b × rate a bit time, from 0.
use Rattle.std.proofs.Common.{◌≡◌, ℕ, suc, ◌+◌, ◌-◌, ◌*◌, ◌<◌, ◌≤◌, inl, inr, Bool, true, false, ◌∙◌, ap, subst, arith}
use Rattle.std.specs.Prelude.{ℤ, pos, negsuc, ◌+ℤ◌, ◌-ℤ◌, ◌≤ℤ◌}
use Rattle.std.specs.Int.{div_ceil}
use Rattle.std.proofs.Math.Nat.{mul-le-mul_left}
use Rattle.std.proofs.lemmas.{Bool.cases_lt, Bool.true≢false, Bool.false≢true, Grind.div_ceil_times, Int.ints}

-- ---- a number of times a credit

pub times : ℕ → ℤ → ℤ
times k (pos n) = pos (k * n)
times k (negsuc n) = pos 0 -ℤ pos (k * suc n)

-- what a credit is at most another with so much more and so much less, its multiple is too
pub times_le : (k m n : ℕ) (x y : ℤ) → x ≤ℤ (y +ℤ pos m -ℤ pos n) → times k x ≤ℤ (times k y +ℤ pos (k * m) -ℤ pos (k * n))
unfolding times
times_le k m n (pos p) (pos q) h = let l : k * (p + n) ≤ k * (q + m) = mul-le-mul_left k (omega (arith, ints, h)) in omega (arith, ints, l)
times_le k m n (pos p) (negsuc q) h = let l : k * (p + n + suc q) ≤ k * m = mul-le-mul_left k (omega (arith, ints, h)) in omega (arith, ints, l)
times_le k m n (negsuc p) (pos q) h = let l : k * n ≤ k * (q + m + suc p) = mul-le-mul_left k (omega (arith, ints, h)) in omega (arith, ints, l)
times_le k m n (negsuc p) (negsuc q) h = let l : k * (n + suc q) ≤ k * (m + suc p) = mul-le-mul_left k (omega (arith, ints, h)) in omega (arith, ints, l)

-- it rises by no more than so many times as much
times_rise : (k n : ℕ) (x y : ℤ) → x ≤ℤ (y +ℤ pos n) → times k x ≤ℤ (times k y +ℤ pos (k * n))
times_rise k n x y h = let l = times_le k n 0 x y (omega (arith, ints, h)) in omega (arith, ints, l)

times_zero : (k : ℕ) → times k (pos 0) ≡ pos 0
unfolding times
times_zero k = ap pos (omega arith)

-- and is no more than so many times a bound
times_most : (k n : ℕ) (x : ℤ) → x ≤ℤ pos n → times k x ≤ℤ pos (k * n)
times_most k n x h =
    let l = times_rise k n x (pos 0) (omega (arith, ints, h)) in
    let none = times_zero k in
    omega (arith, ints, l, none)

times_least : (k : ℕ) (x : ℤ) → pos 0 ≤ℤ x → pos 0 ≤ℤ times k x
unfolding times
times_least k (pos n) h = omega (arith, ints)
times_least k (negsuc n) h = absurd (omega (arith, ints, h))

-- the other way round
times_cancel : (k n : ℕ) (x : ℤ) → 0 < k → times k x ≤ℤ pos (k * n) → x ≤ℤ pos n
unfolding times
times_cancel k n (negsuc m) some h = omega (arith, ints)
times_cancel k n (pos m) some h =
    elim (cases_lt n m) [
      | inl l ↦ let more : k * suc n ≤ k * m = mul-le-mul_left k l in absurd (omega (arith, ints, h, more, some))
      | inr l ↦ omega (arith, ints, l)
    ]

-- ---- both credits as a bit time begins

-- so many bits of the frame on the line are left; `on_a` and `on_b` say whether it is of class A or of class B
pub record Rises (gap a b left : ℕ) (on_a on_b : Bool) (x y : ℤ) : Type 0 where
  pub both : (times gap y +ℤ times b x) ≤ℤ pos (12336 * (b * (gap + a)))
  pub high : times gap y ≤ℤ pos (12336 * (b * (gap + a)) + 12336 * (b * gap))
  pub behind_a : on_a ≡ true → (times gap y +ℤ pos (b * gap * left)) ≤ℤ pos (12336 * (b * (gap + a)) + 12336 * (b * gap))
  pub behind_other : on_a ≡ false → on_b ≡ false → 0 < left
      → ((times gap y +ℤ pos (b * gap * left)) ≤ℤ pos (12336 * (b * gap))) × ((times gap y +ℤ times b x +ℤ pos (b * (gap + a) * left)) ≤ℤ pos (12336 * (b * (gap + a))))

-- at first class B's credit is 0, and class A's is what the bits gone of a frame of other traffic gave
pub rises_first : (gap a b left : ℕ) (on_a on_b : Bool) (x y : ℤ) → left ≤ 12336 → y ≡ pos 0 → x ≤ℤ pos ((gap + a) * 12336)
    → (on_a ≡ false → (x +ℤ pos ((gap + a) * left)) ≤ℤ pos ((gap + a) * 12336)) → Rises gap a b left on_a on_b x y
rises_first gap a b left on_a on_b x y size none all off =
    let zero_b : times gap y ≡ pos 0 = ap (times gap) none ∙ times_zero gap in
    let most = times_most b ((gap + a) * 12336) x all in
    let room : b * gap * left ≤ b * gap * 12336 = mul-le-mul_left (b * gap) size in
    record {
      both = omega (arith, ints, zero_b, most);
      high = omega (arith, ints, zero_b);
      behind_a = λ _. omega (arith, ints, zero_b, room);
      behind_other = λ e _ _.
          let gone : (x +ℤ pos ((gap + a) * left)) ≤ℤ pos ((gap + a) * 12336) = off e in
          let part = times_le b ((gap + a) * 12336) ((gap + a) * left) x (pos 0) (omega (arith, ints, gone)) in
          let none_b = times_zero b in
          (omega (arith, ints, zero_b, room), omega (arith, ints, zero_b, part, none_b));
    }

-- a frame of class A is on the line
pub rises_a : (gap a b left : ℕ) (x y x' y' : ℤ) → x' ≤ℤ (x +ℤ pos a -ℤ pos (gap + a)) → y' ≤ℤ (y +ℤ pos b)
    → (times gap y +ℤ times b x) ≤ℤ pos (12336 * (b * (gap + a)))
    → (times gap y +ℤ pos (b * gap * suc left)) ≤ℤ pos (12336 * (b * (gap + a)) + 12336 * (b * gap)) → Rises gap a b left true false x' y'
rises_a gap a b left x y x' y' down up both high =
    let v = times_le b a (gap + a) x' x down in
    let u = times_rise gap b y' y up in
    record {
      both = omega (arith, ints, v, u, both);
      high = omega (arith, ints, u, high);
      behind_a = λ _. omega (arith, ints, u, high);
      behind_other = λ e. absurd (true≢false e);
    }

-- a frame of class A starts, with credit
pub starts_a : (gap b most n : ℕ) (x y : ℤ) → pos 0 ≤ℤ x → n ≤ 12336 → (times gap y +ℤ times b x) ≤ℤ pos most
    → (times gap y +ℤ pos (b * gap * n)) ≤ℤ pos (most + 12336 * (b * gap))
starts_a gap b most n x y credit size both =
    let v = times_least b x credit in
    let room : b * gap * n ≤ b * gap * 12336 = mul-le-mul_left (b * gap) size in
    omega (arith, ints, v, room, both)

-- a frame of class B is on the line
pub rises_b : (gap a b left : ℕ) (x y x' y' : ℤ) → b ≤ gap → x' ≤ℤ (x +ℤ pos a) → y' ≤ℤ (y +ℤ pos b -ℤ pos (gap + a))
    → (times gap y +ℤ times b x) ≤ℤ pos (12336 * (b * (gap + a))) → times gap y ≤ℤ pos (12336 * (b * (gap + a)) + 12336 * (b * gap))
    → Rises gap a b left false true x' y'
rises_b gap a b left x y x' y' room up down both high =
    let v = times_rise b a x' x up in
    let u = times_le gap b (gap + a) y' y down in
    let less : (gap + a) * b ≤ (gap + a) * gap = mul-le-mul_left (gap + a) room in
    let same : gap * b ≤ gap * gap = mul-le-mul_left gap room in
    record {
      both = omega (arith, ints, v, u, both, less);
      high = omega (arith, ints, u, high, same);
      behind_a = λ e. absurd (false≢true e);
      behind_other = λ _ e. absurd (true≢false e);
    }

-- a frame of other traffic goes on
pub rises_other : (gap a b left : ℕ) (x y x' y' : ℤ) → x' ≤ℤ (x +ℤ pos a) → y' ≤ℤ (y +ℤ pos b)
    → (times gap y +ℤ pos (b * gap * suc left)) ≤ℤ pos (12336 * (b * gap))
    → (times gap y +ℤ times b x +ℤ pos (b * (gap + a) * suc left)) ≤ℤ pos (12336 * (b * (gap + a))) → Rises gap a b left false false x' y'
rises_other gap a b left x y x' y' up_a up_b alone both =
    let v = times_rise b a x' x up_a in
    let u = times_rise gap b y' y up_b in
    record {
      both = omega (arith, ints, v, u, both);
      high = omega (arith, ints, u, alone);
      behind_a = λ e. absurd (false≢true e);
      behind_other = λ _ _ _. (omega (arith, ints, u, alone), omega (arith, ints, v, u, both));
    }

-- both classes are short, and a frame of other traffic starts, or the line rests
pub rises_short : (gap a b left : ℕ) (x' y' : ℤ) → left < 12336 → x' ≤ℤ pos a → y' ≤ℤ pos b → Rises gap a b left false false x' y'
rises_short gap a b left x' y' size up_a up_b =
    let v = times_most b a x' up_a in
    let u = times_most gap b y' up_b in
    let one : b * gap * suc left ≤ b * gap * 12336 = mul-le-mul_left (b * gap) size in
    let two : b * (gap + a) * suc left ≤ b * (gap + a) * 12336 = mul-le-mul_left (b * (gap + a)) size in
    record {
      both = omega (arith, ints, v, u, two);
      high = omega (arith, ints, u, one);
      behind_a = λ e. absurd (false≢true e);
      behind_other = λ _ _ _. (omega (arith, ints, u, one), omega (arith, ints, v, u, two));
    }

-- so class B's credit is at most what its slope gives in so many bit times
pub high_by : (rate a b : ℕ) (y : ℤ) → a < rate → times (rate - a) y ≤ℤ pos (12336 * (b * (rate - a + a)) + 12336 * (b * (rate - a)))
    → y ≤ℤ pos (b * div_ceil (12336 * (2 * rate - a)) (rate - a))
high_by rate a b y below high =
    let gap : ℕ = rate - a in
    let idle : ℕ = div_ceil (12336 * (2 * rate - a)) gap in
    let up : 12336 * (2 * rate - a) ≤ idle * gap = (div_ceil_times (12336 * (2 * rate - a)) gap (omega (arith, below))).0 in
    let sum : 2 * rate - a ≡ gap + a + gap = omega (arith, below) in
    let whole : 12336 * (gap + a + gap) ≤ idle * gap = subst (λ (n : ℕ). 12336 * n ≤ idle * gap) sum up in
    let more : b * (12336 * (gap + a + gap)) ≤ b * (idle * gap) = mul-le-mul_left b whole in
    times_cancel gap (b * idle) y (omega (arith, below)) (over gap a b idle y high more)
  where
    over : (gap a b idle : ℕ) (y : ℤ) → times gap y ≤ℤ pos (12336 * (b * (gap + a)) + 12336 * (b * gap)) → b * (12336 * (gap + a + gap)) ≤ b * (idle * gap)
        → times gap y ≤ℤ pos (gap * (b * idle))
    over gap a b idle y high more = omega (arith, ints, high, more)

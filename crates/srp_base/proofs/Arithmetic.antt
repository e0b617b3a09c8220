-- Facts on numbers that many crates take.
use Rattle.std.proofs.Common.{Bool, ap, arith, false, inl, inr, refl, suc, true, zero, ℕ, ◌*◌, ◌+◌, ◌-◌, ◌<◌, ◌==◌, ◌≡◌, ◌≢◌, ◌≤◌, ◌⊎◌}
use Rattle.std.proofs.lemmas.Bool.{false≢true, le-leb}
use Rattle.std.proofs.lemmas.Bool.Decides.{nat_tests}
use Rattle.std.proofs.lemmas.Int.{ints}
use Rattle.std.specs.Fmt.{digit_glyph}
use Rattle.std.specs.List.{AllByRecursion, range_with_len}
use Rattle.std.specs.Ordering.{nat_cmp}
use Rattle.std.specs.Prelude.{Err, IfOk, Ok, OnErr, OnOk, Result, if◌then◌else◌, int_le, nat_lt, negsuc, pos, ℤ, ◌+ℤ◌, ◌<ℤ◌, ◌≤ℤ◌}
use Rattle.std.specs.declared.cmp.Ordering.TheVariants.{Equal, Less}

pub above_is : (c : ℤ) → pos 0 ≤ℤ c → int_le (pos 0) c ≡ true
above_is (pos n) up = le-leb 0 n (omega arith)
above_is (negsuc n) up = absurd (omega (arith, ints, up))

pub at_least_zero : (c : ℤ) → int_le (pos 0) c ≡ true → pos 0 ≤ℤ c
at_least_zero (pos n) e = omega (arith, ints)
at_least_zero (negsuc n) e = absurd (false≢true e)

pub both_err : {X E : Type 0} {P Q R : Type 0} (r : Result X E) → (P → Q → R) → OnErr r P → OnErr r Q → OnErr r R
both_err (Ok x) f p q = tt
both_err (Err e) f p q = f p q

pub decide : (m n : ℕ) → (m ≡ n) ⊎ (m ≢ n)
decide zero zero = inl refl
decide zero (suc n) = inr (λ e. absurd (omega arith))
decide (suc m) zero = inr (λ e. absurd (omega arith))
decide (suc m) (suc n) = later (decide m n)
  where
    later : (m ≡ n) ⊎ (m ≢ n) → (suc m ≡ suc n) ⊎ (suc m ≢ suc n)
    later (inl e) = inl (ap suc e)
    later (inr ne) = inr (λ e. ne (omega arith))

pub same_or_below : (m n : ℕ) → m ≤ n → (m ≡ n) ⊎ (m + 1 ≤ n)
same_or_below m n le = by (n - m) refl
  where
    by : (d : ℕ) → n - m ≡ d → (m ≡ n) ⊎ (m + 1 ≤ n)
    by zero e = inl (omega arith)
    by (suc d) e = inr (omega arith)

pub is_same : (x y : ℕ) → x ≡ y → (x == y) ≡ true
is_same x y e = grind (arith, nat_tests)

pub glyph_plain : (d : ℕ) → digit_glyph false d ≢ 10
glyph_plain d = by (nat_lt d 10)
  where
    by : (b : Bool) → (if b then 48 + d else (if false then 55 + d else 87 + d)) ≢ 10
    by true e = absurd (omega (arith, e))
    by false e = absurd (omega (arith, e))

pub if_ok : {A E : Type 0} (r : Result A E) (P Q : A → Type 0) → ((a : A) → P a → Q a) → IfOk r P → IfOk r Q
if_ok (Ok a) P Q f h = f a h
if_ok (Err e) P Q f h = h

pub is_other : (x y : ℕ) → x ≢ y → (x == y) ≡ false
is_other x y ne = grind (arith, nat_tests, ne)

pub less_is_below : (p q : ℕ) → p < q → nat_cmp p q ≡ Less
less_is_below p q h = grind (arith, nat_tests)

pub lt-false : (a b : ℕ) → b ≤ a → nat_lt a b ≡ false
lt-false a b h = grind (arith, nat_tests)

pub lt-true : (a b : ℕ) → a < b → nat_lt a b ≡ true
lt-true a b h = grind (arith, nat_tests)

pub mul_add : (k m n : ℕ) → k * (m + n) ≡ k * m + k * n
mul_add k m n = omega arith

pub not_zero : (c : ℤ) → c <ℤ pos 0 → int_le (pos 0) c ≡ false
not_zero (pos n) below = absurd (omega (arith, ints, below))
not_zero (negsuc n) below = refl

pub numbers : (P : ℕ → Type 0) (a n : ℕ) → ((k : ℕ) → a ≤ k → k < a + n → P k) → AllByRecursion P (range_with_len a n)
numbers P a zero h = tt
numbers P a (suc n) h = (h a (omega arith) (omega arith), numbers P (a + 1) n (λ k low high. h k (omega (arith, low)) (omega (arith, high))))

pub ok-same : {E : Type 0} (r : Result ℕ E) (m n : ℕ) → r ≡ Ok m → r ≡ Ok n → m ≡ n
ok-same r m n one two = cc

pub on_err : {X E P : Type 0} (r : Result X E) → P → OnErr r P
on_err (Ok x) h = tt
on_err (Err e) h = h

pub on_ok : {X E P Q : Type 0} (r : Result X E) → (P → Q) → OnOk r P → OnOk r Q
on_ok (Ok x) f h = f h
on_ok (Err e) f h = tt

pub same_is_equal : (p q : ℕ) → p ≡ q → nat_cmp p q ≡ Equal
same_is_equal p q h = grind (arith, nat_tests)

pub same_number : (a b : ℕ) → nat_cmp a b ≡ Equal → a ≡ b
same_number a b h = grind (arith, nat_tests)

pub same_where_equal : (x y : ℕ) → (x == y) ≡ true → x ≡ y
same_where_equal x y h = grind (arith, nat_tests, h)

pub spent_sum : (x y z : ℤ) (p q r a b s : ℕ) → (y +ℤ pos p) ≤ℤ (x +ℤ pos a) → (z +ℤ pos q) ≤ℤ (y +ℤ pos b)
    → r ≡ p + q → s ≡ a + b → (z +ℤ pos r) ≤ℤ (x +ℤ pos s)
spent_sum x y z p q r a b s first rest e f = omega (arith, ints, first, rest, e, f)

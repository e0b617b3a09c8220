-- Facts on truth values that many crates take.
use Rattle.std.proofs.Common.{Bool, ap, arith, false, if◌then◌else◌, inl, inr, not, refl, suc, sym, true, zero, ℕ, ◌&&◌, ◌+◌, ◌-◌, ◌<◌, ◌||◌, ◌∙◌, ◌≡◌, ◌⊎◌}
use Rattle.std.specs.List.{list_any, range_with_len}

pub any-here : (test : ℕ → Bool) (a n : ℕ) → 0 < n → test a ≡ true → list_any test (range_with_len a n) ≡ true
any-here test a zero lt h = absurd (omega arith)
any-here test a (suc n) lt h = ap (λ b. b || list_any test (range_with_len (a + 1) n)) h

pub any-later : (test : ℕ → Bool) (a n : ℕ) → 0 < n → test a ≡ false → list_any test (range_with_len a n) ≡ list_any test (range_with_len (a + 1) (n - 1))
any-later test a zero lt h = absurd (omega arith)
any-later test a (suc n) lt h =
    let less : n ≡ suc n - 1 = omega arith in
    ap (λ b. b || list_any test (range_with_len (a + 1) n)) h ∙ ap (λ k. list_any test (range_with_len (a + 1) k)) less

pub both : (a b : Bool) → (a && b) ≡ true → (a ≡ true) × (b ≡ true)
both true b h = (refl, h)
both false b h = cc

pub chosen : {X : Type 0} (b : Bool) (P : X → Type 0) (x y : X) → P x → P y → P (if b then x else y)
chosen true P x y h k = h
chosen false P x y h k = k

pub either : (b x y : Bool) → (x || y) ≡ true → ((b || x) || y) ≡ true
either true x y h = refl
either false x y h = h

pub first_holds : (a b : Bool) → (a && b) ≡ true → a ≡ true
first_holds true b h = refl
first_holds false b h = cc

pub held_from : (v : Bool) → not v ≡ true → v ≡ false
held_from true h = cc
held_from false h = refl

pub not-true-false : (b : Bool) → not b ≡ false → b ≡ true
not-true-false true f = refl
not-true-false false f = sym f

pub one-test : (a b : Bool) → (a ≡ true → b ≡ true) → (b ≡ true → a ≡ true) → a ≡ b
one-test true b f g = sym (f refl)
one-test false true f g = g refl
one-test false false f g = refl

pub or-map_right : (a b b' : Bool) → (b ≡ true → b' ≡ true) → (a || b) ≡ true → (a || b') ≡ true
or-map_right true b b' f h = refl
or-map_right false b b' f h = f h

pub or_true : (a b : Bool) → (a || b) ≡ true → (a ≡ true) ⊎ (b ≡ true)
or_true true b e = inl refl
or_true false b e = inr e

pub or_no : (b : Bool) → (b || false) ≡ b
or_no true = refl
or_no false = refl

pub or-true : (b : Bool) → (b || true) ≡ true
or-true true = refl
or-true false = refl

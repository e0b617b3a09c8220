-- One reader after another: what holds of each step holds of the chain.
use Rattle.std.proofs.Common.{◌≡◌, ℕ, Bool, true, false, cond, List, ◌++◌, length, Result, Ok, Err, MatchResult, refl, arith}
use Rattle.srp_base.specs.Results.{◌>>=◌}

pub then_match : {A B : Type 0} (r : Result A ℕ) (f : A → Result B ℕ) (P : A → Type 0) (Q : ℕ → Type 0) (P' : B → Type 0) (Q' : ℕ → Type 0)
    → MatchResult r P Q → ((x : A) → P x → MatchResult (f x) P' Q') → ((left : ℕ) → Q left → Q' left) → MatchResult (r >>= f) P' Q'
then_match (Ok x) f P Q P' Q' h good bad = good x h
then_match (Err left) f P Q P' Q' h good bad = bad left h

-- a choice by a test, whose outcome each side may use
pub test_match : {A : Type 0} (b : Bool) (x y : Result A ℕ) (P : A → Type 0) (Q : ℕ → Type 0)
    → (b ≡ true → MatchResult x P Q) → (b ≡ false → MatchResult y P Q) → MatchResult (cond b x y) P Q
test_match true x y P Q good bad = good refl
test_match false x y P Q good bad = bad refl

-- octets that break: so many are left from the field on that breaks
pub record Broken (P : List ℕ → List ℕ → Type 0) (octets : List ℕ) (left : ℕ) : Type 0 where
  pub front : List ℕ
  pub rest : List ℕ
  pub whole : octets ≡ front ++ rest
  pub left_is : left ≡ length rest
  pub breaks : P front rest

pub weaker_match : {A : Type 0} (r : Result A ℕ) (P : A → Type 0) (Q : ℕ → Type 0) (P' : A → Type 0) (Q' : ℕ → Type 0)
    → MatchResult r P Q → ((x : A) → P x → P' x) → ((left : ℕ) → Q left → Q' left) → MatchResult r P' Q'
weaker_match (Ok x) P Q P' Q' h f g = f x h
weaker_match (Err left) P Q P' Q' h f g = g left h

-- ---- two chains that begin alike

pub same_after : {A B : Type 0} (r : Result A ℕ) (f g : A → Result B ℕ) → ((x : A) → r ≡ Ok x → f x ≡ g x) → (r >>= f) ≡ (r >>= g)
same_after r f g h1 = grind arith

pub same_choice : {A : Type 0} (b : Bool) (x y z : A) → (b ≡ false → y ≡ z) → cond b x y ≡ cond b x z
same_choice b x y z h1 = grind arith

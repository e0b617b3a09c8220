-- What the calls of a closure answer, in the words of a definition.
use Rattle.std.specs.Prelude.{◌≡◌, ℕ, Bool, List, Option, Result, IfOk}
use Rattle.std.specs.Borrow.{Bor}
use Rattle.srp_base.specs.declared.memory.NoMemory.{NoMemory}

-- each call of a test of an element, seen with those before it, answers what the definition's test
-- says
abbrev pub TestsAs : {T : Type 0} → (Bor (List T) → Bor T → Bool → Type 0) → (List T → T → Bool) → Type 0
TestsAs {T} calls said = (earlier : Bor (List T)) (x : Bor T) (r : Bool) → calls earlier x r → r ≡ said earlier.now x.now

-- each call of a key of an element answers the definition's key
abbrev pub KeysAs : {T : Type 0} → (Bor T → ℕ → Type 0) → (T → ℕ) → Type 0
KeysAs {T} calls said = (x : Bor T) (r : ℕ) → calls x r → r ≡ said x.now

-- each call that reads the element of a number, seen by view, answers what the definition reads,
-- unless memory ran out
abbrev pub ReadsAs : {T A B : Type 0} → (T → A) → (ℕ → Bor T → Result (Option B) NoMemory → Type 0) → (ℕ → A → Option B) → Type 0
ReadsAs {T} {A} {B} view calls said = (n : ℕ) (x : Bor T) (r : Result (Option B) NoMemory) → calls n x r → IfOk r (λ v. v ≡ said n (view x.now))

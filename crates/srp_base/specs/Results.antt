-- Readings that may fail: one after the other, and what a call tells of one.
use Rattle.std.specs.Prelude.{◌≡◌, Option, Result, Ok, Err, IfSome}

infixl 10 ◌>>=◌
-- what is read first, and then what is read with it; the first failure ends both
abbrev pub ◌>>=◌ : {E A B : Type 0} → Result A E → (A → Result B E) → Result B E
(Ok x) >>= f = f x
(Err e) >>= f = Err e

-- what a call answers, its value seen by `view` and its failures by `cause`, is what a reading
-- gives, unless memory ran out, which has no cause
abbrev pub Gives : {X A E F : Type 0} → (X → A) → (E → Option F) → Result X E → Result A F → Type 0
Gives view cause (Ok x) reading = reading ≡ Ok (view x)
Gives view cause (Err e) reading = IfSome (cause e) (λ f. reading ≡ Err f)

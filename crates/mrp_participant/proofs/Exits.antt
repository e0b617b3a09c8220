-- Clauses on an answer, where it is an error and where it is none.
use Rattle.std.proofs.Common.{Result, Ok, Err}
use Rattle.std.specs.Prelude.{IsErrAnd, IfOk, OnOk, OnErr}

module _ {T E : Type 0} where
  -- what is promised where there is no error
  pub of_error : (r : Result T E) (P : T → Type 0) (Q : E → Type 0) → IsErrAnd r Q → IfOk r P
  of_error (Ok x) P Q h = absurd h
  of_error (Err y) P Q h = tt

  -- what holds anyway
  pub on_error : {P : Type 0} (r : Result T E) → P → OnErr r P
  on_error (Ok x) h = tt
  on_error (Err y) h = h

-- what follows where a call answers Ok
pub on_ok : {X E : Type 0} (r : Result X E) (P Q : Type 0) → (P → Q) → OnOk r P → OnOk r Q
on_ok (Ok x) P Q f h = f h
on_ok (Err e) P Q f h = tt

-- Calls at one key that change nothing.
use Rattle.std.proofs.Common.{◌≡◌, Bool, true, false, if◌then◌else◌, List, [], ◌∷◌, refl, ap, ◌∙◌, OnOk, OnErr, arith}
use Rattle.std.specs.{declared.option.Option.Option, declared.option.Option.TheVariants.None, declared.option.Option.TheVariants.Some, declared.result.Result.Result, declared.result.Result.TheVariants.Ok, declared.result.Result.TheVariants.Err, declared.cmp.Ordering.Ordering, declared.cmp.Ordering.TheVariants.Less, declared.cmp.Ordering.TheVariants.Equal, declared.cmp.Ordering.TheVariants.Greater, Ordering.is_eq, Ordering.ordering_reverse, Cmp.IsTotalOrder, Cmp.IsEquivalence, List.cons_option}
use Rattle.applicant.specs.declared.Applicant.{Applicant}
use Rattle.applicant.specs.declared.Applicant.TheVariants.{Vo, Vp, Vn, An, Aa, Qa, La}
use Rattle.registrar.specs.declared.Registrar.{Registrar}
use Rattle.registrar.specs.declared.Registrar.TheVariants.{Held, Leaving, Empty}
use Rattle.mrp_participant.specs.declared.row.Row.{Row}
use Rattle.mrp_participant.specs.{Ascends, key_of, find, put, put_at, is_live, with_applicant, left_row, after_declare, after_withdraw, after_leave, is_leaving_in, declared_in, AreRows, with_rows}
use Rattle.registrar.specs.Table.{is_leaving}
use Rattle.mrp_participant.specs.State.{State}
use Rattle.mrp_participant.proofs.Lookups.{find-above, above_all, find-fits}

module _ {K C : Type 0} {cmp : K → K → Ordering} (o : IsTotalOrder cmp) where
  put-found_at : (k : K) (r : Row K C) (rows : List (Row K C)) (c : Ordering) → cmp r.key k ≡ c
      → Ascends cmp key_of (r ∷ rows) → put cmp k (find cmp k rows) rows ≡ rows
      → put_at c (if is_eq c then Some r else find cmp k rows) r rows
      (put cmp k (if is_eq c then Some r else find cmp k rows) rows) ≡ r ∷ rows
  put-found_at k r rows Less c up rest = ap (λ l. r ∷ l) rest
  put-found_at k r rows Equal c up rest = refl
  put-found_at k r rows Greater c up rest =
      let less : cmp k r.key ≡ Less = o.antisymm k r.key ∙ ap ordering_reverse c in
      ap (λ x. cons_option x (r ∷ rows)) (find-above o k rows (above_all o k r rows less up.0))

  -- the row that is found, put back at its key, leaves the rows as they are
  pub put-found : (k : K) (rows : List (Row K C)) → Ascends cmp key_of rows → put cmp k (find cmp k rows) rows ≡ rows
  put-found k [] up = refl
  put-found k (r ∷ rows) up = put-found_at k r rows (cmp r.key k) refl up (put-found k rows up.1)

-- ---- rows that stay

declared_true : {C : Type 0} (a : Bool) (x c : C) → (if a then Some x else None) ≡ Some c → (a ≡ true) × (x ≡ c)
declared_true true x c h = let is : x ≡ c = cc in (refl, is)
declared_true false x c h = cc

module _ {K C : Type 0} where
  first_of : (r s t : Row K C) (a b : Bool) → a ≡ true → b ≡ true → (if a then (if b then r else s) else t) ≡ r
  first_of r s t true true h k = refl
  first_of r s t true false h k = cc
  first_of r s t false b h k = cc

  same-declared : (eq : C → C → Bool) → IsEquivalence eq → (k : K) (c : C) (old : Option (Row K C)) → declared_in old ≡ Some c → after_declare eq k c old ≡ old
  same-declared eq laws k c None h = cc
  same-declared eq laws k c (Some r) h = grind (arith, first_of)

  undeclared_by : (r : Row K C) (a : Applicant) → declared_in (Some (with_applicant a r)) ≡ None
      → after_withdraw (Some (with_applicant a r)) ≡ Some (with_applicant a r)
  undeclared_by r Vo h = refl
  undeclared_by r Vp h = cc
  undeclared_by r Vn h = cc
  undeclared_by r An h = cc
  undeclared_by r Aa h = cc
  undeclared_by r Qa h = cc
  undeclared_by r La h = refl

  undeclared : (old : Option (Row K C)) → declared_in old ≡ None → after_withdraw old ≡ old
  undeclared None h = refl
  undeclared (Some r) h = undeclared_by r r.applicant h

  unleaving_by : (r : Row K C) (g : Registrar) → is_leaving g ≡ false → is_live (record r { registrar = g }) ≡ true
      → left_row (record r { registrar = g }) ≡ Some (record r { registrar = g })
  unleaving_by r Held h live = ap (λ b. if b then Some (record r { registrar = Held }) else None) live
  unleaving_by r Leaving h live = cc
  unleaving_by r Empty h live = ap (λ b. if b then Some (record r { registrar = Empty }) else None) live

  unleaving : (old : Option (Row K C)) → ((r : Row K C) → old ≡ Some r → is_live r ≡ true) → is_leaving_in old ≡ false → after_leave old ≡ old
  unleaving None live h = refl
  unleaving (Some r) live h = unleaving_by r r.registrar h (live r refl)

-- ---- calls

module _ {K C : Type 0} {cmp : K → K → Ordering} (o : IsTotalOrder cmp) where
  pub declare-same : (eq : C → C → Bool) → IsEquivalence eq → (k : K) (c : C) (rows : List (Row K C))
      → AreRows cmp rows → declared_in (find cmp k rows) ≡ Some c
      → put cmp k (after_declare eq k c (find cmp k rows)) rows ≡ rows
  declare-same eq laws k c rows are h = ap (λ new. put cmp k new rows) (same-declared eq laws k c (find cmp k rows) h) ∙ put-found o k rows are.0

  pub withdraw-undeclared : (k : K) (rows : List (Row K C)) → AreRows cmp rows → declared_in (find cmp k rows) ≡ None
      → put cmp k (after_withdraw (find cmp k rows)) rows ≡ rows
  withdraw-undeclared k rows are h = ap (λ new. put cmp k new rows) (undeclared (find cmp k rows) h) ∙ put-found o k rows are.0

  pub leave-unleaving : (k : K) (rows : List (Row K C)) → AreRows cmp rows → is_leaving_in (find cmp k rows) ≡ false
      → put cmp k (after_leave (find cmp k rows)) rows ≡ rows
  leave-unleaving k rows are h = ap (λ new. put cmp k new rows) (unleaving (find cmp k rows) (find-fits o k rows are.1).lives h) ∙ put-found o k rows are.0

-- what is put is what was, so after a call that may want memory it is what was
pub either-same : {X E Y : Type 0} (r : Result X E) (new then_rows old : Y) → OnOk r (new ≡ then_rows) → OnErr r (new ≡ old) → then_rows ≡ old → new ≡ old
either-same (Ok x) new then_rows old ok err same_rows = ok ∙ same_rows
either-same (Err e) new then_rows old ok err same_rows = err

-- a participant with the rows that it had
pub unchanged : {K C : Type 0} (s now : State K C) (new : List (Row K C)) → s ≡ now → new ≡ s.rows → with_rows new s ≡ now
unchanged s now new is same_rows = ap (λ rows. with_rows rows s) same_rows ∙ is

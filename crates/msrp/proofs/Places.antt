-- One place of a list is changed: what stands there, and what a function makes of the list.
use Rattle.std.proofs.Common.{◌≡◌, ℕ, zero, suc, List, [], ◌∷◌, ◌++◌, length, drop, get_or, refl, sym, ap, subst, ◌∙◌, ◌+◌, ◌<◌, append_assoc, arith}
use Rattle.std.specs.Prelude.{Option, Some, None, Result, Ok, Err, OnOk}
use Rattle.std.specs.List.{AllByRecursion}
use Rattle.std.proofs.lemmas.List.{drop_more}
use Rattle.registrar.specs.Table.{is_leaving}
use Rattle.mrp_participant.specs.declared.row.Row.{Row}
use Rattle.mrp_participant.specs.Row.{is_leaving_in, registrar_of}

-- what holds of each element holds of the one at a place
pub each-at : {X : Type 0} (P : X → Type 0) (xs : List X) (i : ℕ) (x : X) → i < length xs → x ≡ get_or xs i x → AllByRecursion P xs → P x
each-at P [] i x below is all = absurd (omega arith)
each-at P (y ∷ xs) zero x below is all = subst P (sym is) all.0
each-at P (y ∷ xs) (suc i) x below is all = each-at P xs i x (omega arith) is all.1

-- a list that is put together piece by piece, with the piece of one element more
pub one_more : {X Y : Type 0} (f : List X → List Y) (piece : X → List Y) (xs : List X) (i : ℕ) (d : X) (old new whole : List Y)
    → ((x : X) (ys : List X) → f (x ∷ ys) ≡ piece x ++ f ys) → i < length xs → new ≡ old ++ piece (get_or xs i d)
    → old ++ f (drop i xs) ≡ whole → new ++ f (drop (i + 1) xs) ≡ whole
one_more f piece xs i d old new whole step below is done =
    ap (λ ys. ys ++ f (drop (i + 1) xs)) is
    ∙ (append_assoc old (piece (get_or xs i d)) (f (drop (i + 1) xs))
    ∙ (ap (λ ys. old ++ ys) (sym (ap f (drop_more xs i d below) ∙ step (get_or xs i d) (drop (i + 1) xs))) ∙ done))

-- what follows where a call succeeded
pub on_ok : {T F P Q : Type 0} (r : Result T F) → OnOk r P → (P → Q) → OnOk r Q
on_ok (Ok x) h f = f h
on_ok (Err e) h f = tt

-- whether a registrar is LV, of a row or of none
pub leaving_is : {K C : Type 0} (o : Option (Row K C)) → is_leaving_in o ≡ is_leaving (registrar_of o)
leaving_is None = refl
leaving_is (Some r) = refl

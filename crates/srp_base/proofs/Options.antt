-- Facts on options that many crates take.
use Rattle.std.proofs.Common.{IfSome, subst, ◌≡◌}
use Rattle.std.specs.Prelude.{None, Option, Some}

pub one_some : {X : Type 0} (o : Option X) (x y : X) → o ≡ Some x → o ≡ Some y → x ≡ y
one_some o x y a b = cc

pub opened : {A : Type 0} (P : A → Type 0) (o : Option A) (x : A) → o ≡ Some x → IfSome o P → P x
opened {A = A} P o x is h = let F : Option A → Type 0 = λ y. IfSome y P in subst F is h

pub some_is : {X : Type 0} (P : X → Type 0) (o : Option X) (x : X) → o ≡ Some x → P x → IfSome o P
some_is P None x e h = cc
some_is P (Some y) x e h = let same_one : x ≡ y = cc in subst P same_one h

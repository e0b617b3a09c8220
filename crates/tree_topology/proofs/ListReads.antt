-- What reading a list at a place gives.
use Rattle.std.proofs.Common.{◌≡◌, ℕ, ◌<◌, List, sym, ap, subst, ◌∙◌, length, get_or, arith}
use Rattle.std.proofs.lemmas.List.{get_or_default}

pub read-at : {X : Type 0} (xs : List X) (i j : ℕ) (x d : X) → j ≡ i → i < length xs → x ≡ get_or xs j x → x ≡ get_or xs i d
read-at xs i j x d e lt h = grind (arith, get_or_default)

pub read-zero : (xs : List ℕ) (i x : ℕ) → x ≡ get_or xs i x → x ≡ 0 → get_or xs i 0 ≡ 0
read-zero xs i x h e = let F : ℕ → Type 0 = λ t. t ≡ get_or xs i t in sym (subst F e h)

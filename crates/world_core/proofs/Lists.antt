-- One place of a list is set; and what says something in a list of PDUs.
use Rattle.std.proofs.Common.{◌≡◌, ℕ, zero, suc, List, [], ◌∷◌, ◌++◌, sym, ap, ◌∙◌}
use Rattle.std.specs.Prelude.{slice_get, Option, Some, None, filter_map}
use Rattle.std.specs.{List.cons_option}
use Rattle.node_core.specs.declared.types.Wire.{Wire}
use Rattle.node_core.specs.Wires.{without, with_wire}

-- ---- what a list of PDUs says

-- the loss of one that says nothing
pub nothing_lost : {Y : Type 0} (f : Wire → Option Y) (i : ℕ) (xs ys : List Wire) (x : Wire) → slice_get xs i ≡ Some x → f x ≡ None
    → filter_map f (without i xs ++ ys) ≡ filter_map f (xs ++ ys)
nothing_lost f i [] ys x at none = cc
nothing_lost f zero (z ∷ xs) ys x at none =
    let is : z ≡ x = cc in sym (ap (λ o. cons_option o (filter_map f (xs ++ ys))) (ap f is ∙ none))
nothing_lost f (suc i) (z ∷ xs) ys x at none = ap (cons_option (f z)) (nothing_lost f i xs ys x at none)

-- one more that says nothing
pub nothing_added : {Y : Type 0} (f : Wire → Option Y) (i : ℕ) (xs ys : List Wire) (x : Wire) → f x ≡ None → filter_map f (with_wire i x xs ++ ys) ≡ filter_map f (xs ++ ys)
nothing_added f i [] ys x none = nil i
  where
    nil : (j : ℕ) → filter_map f (with_wire j x [] ++ ys) ≡ filter_map f ys
    nil zero = ap (λ o. cons_option o (filter_map f ys)) none
    nil (suc j) = ap (λ o. cons_option o (filter_map f ys)) none
nothing_added f zero (z ∷ xs) ys x none = ap (λ o. cons_option o (filter_map f (z ∷ xs ++ ys))) none
nothing_added f (suc i) (z ∷ xs) ys x none = ap (cons_option (f z)) (nothing_added f i xs ys x none)

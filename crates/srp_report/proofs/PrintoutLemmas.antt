-- Pieces of a text, one after the other.
use Rattle.std.proofs.Common.{◌≡◌, ℕ, List, [], ◌∷◌, ◌++◌, sym, ap, ◌∙◌, append_assoc}
use Rattle.std.specs.Prelude.{flat_map}
use Rattle.srp_base.specs.Text.{whole_of}

-- a piece more, and what is left
pub joined_more : (pieces : List (List ℕ)) (piece rest : List ℕ) → whole_of (pieces ++ piece ∷ []) ++ rest ≡ whole_of pieces ++ (piece ++ rest)
joined_more [] piece rest = append_assoc piece [] rest
joined_more (p ∷ pieces) piece rest =
    append_assoc p (whole_of (pieces ++ piece ∷ [])) rest ∙ (ap (λ (x : List ℕ). p ++ x) (joined_more pieces piece rest) ∙ sym (append_assoc p (whole_of pieces) (piece ++ rest)))

-- one more of a list is made into its piece
pub one_made : {X : Type 0} (f : X → List ℕ) (pieces made : List (List ℕ)) (x : X) (rest left : List X) (piece all : List ℕ) → made ≡ pieces ++ piece ∷ [] → piece ≡ f x → rest ≡ x ∷ left
    → whole_of pieces ++ flat_map f rest ≡ all → whole_of made ++ flat_map f left ≡ all
one_made {X = X} f pieces made x rest left piece all push is front so_far =
    ap (λ (ps : List (List ℕ)). whole_of ps ++ flat_map f left) push
    ∙ (joined_more pieces piece (flat_map f left)
    ∙ (ap (λ (y : List ℕ). whole_of pieces ++ (y ++ flat_map f left)) is ∙ (sym (ap (λ (xs : List X). whole_of pieces ++ flat_map f xs) front) ∙ so_far)))

-- Lists of what is said.
use Rattle.std.proofs.Common.{◌≡◌, ◌⊎◌, inl, inr, ℕ, zero, suc, List, [], ◌∷◌, ◌++◌, map, refl, ap}
use Rattle.std.specs.Prelude.{Option, Some, None, filter_map}
use Rattle.std.specs.List.{cons_option}
use Rattle.srp_base.specs.declared.mrp.MrpEvent.{MrpEvent}
use Rattle.mrp_participant.specs.Link.{with_repeat}

-- a copy behind its original: what they say has one twice in place, or is as before
pub said_twice : {X Y : Type 0} (f : X → Option Y) (i : ℕ) (xs ys : List X)
    → (filter_map f (with_repeat i xs ++ ys) ≡ filter_map f (xs ++ ys)) ⊎ ((j : ℕ) × (filter_map f (with_repeat i xs ++ ys) ≡ with_repeat j (filter_map f (xs ++ ys))))
said_twice f i [] ys = inl refl
said_twice {X = X} {Y = Y} f zero (x ∷ xs) ys = by (f x) refl
  where
    by : (o : Option Y) → f x ≡ o
        → (cons_option o (cons_option o (filter_map f (xs ++ ys))) ≡ cons_option o (filter_map f (xs ++ ys)))
        ⊎ ((j : ℕ) × (cons_option o (cons_option o (filter_map f (xs ++ ys))) ≡ with_repeat j (cons_option o (filter_map f (xs ++ ys)))))
    by None e = inl refl
    by (Some y) e = inr (0, refl)
said_twice {X = X} {Y = Y} f (suc i) (x ∷ xs) ys = by (f x) (said_twice f i xs ys)
  where
    by : (o : Option Y)
        → (filter_map f (with_repeat i xs ++ ys) ≡ filter_map f (xs ++ ys)) ⊎ ((j : ℕ) × (filter_map f (with_repeat i xs ++ ys) ≡ with_repeat j (filter_map f (xs ++ ys))))
        → (cons_option o (filter_map f (with_repeat i xs ++ ys)) ≡ cons_option o (filter_map f (xs ++ ys)))
        ⊎ ((j : ℕ) × (cons_option o (filter_map f (with_repeat i xs ++ ys)) ≡ with_repeat j (cons_option o (filter_map f (xs ++ ys)))))
    by o (inl e) = inl (ap (cons_option o) e)
    by None (inr (j, e)) = inr (j, e)
    by (Some y) (inr (j, e)) = inr (suc j, ap (λ zs. y ∷ zs) e)

-- events without their content, and with it again, are the same
pub contents_again : (es : List (MrpEvent × ℕ × Unit {0})) → map (λ (e : MrpEvent × ℕ). (e.0, e.1, tt)) (map (λ (e : MrpEvent × ℕ × Unit {0}). (e.0, e.1)) es) ≡ es
contents_again [] = refl
contents_again (e ∷ es) = ap (λ (later : List (MrpEvent × ℕ × Unit {0})). e ∷ later) (contents_again es)

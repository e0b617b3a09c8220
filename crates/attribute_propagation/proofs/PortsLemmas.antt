-- What keys that are put in make of each set; where no key is, the sets stay as they are.
use Rattle.std.proofs.Common.{◌≡◌, ◌+◌, ℕ, zero, suc, Bool, true, false, if◌then◌else◌, List, [], ◌∷◌, length, refl, ap, ◌∙◌, arith}
use Rattle.std.specs.Prelude.{◌==◌, Some, option_map, slice_get}
use Rattle.std.specs.{declared.cmp.Ordering.Ordering, Cmp.IsTotalOrder}
use Rattle.std.proofs.lemmas.Option.{slice_get-map}
use Rattle.attribute_propagation.specs.{all_marked, HasTold, marked_from, marked_everywhere}
use Rattle.attribute_propagation.proofs.AwaitingLemmas.{awaiting-all_marked}

module _ {K : Type 0} (cmp : K → K → Ordering) where
  same : (b : Bool) (set : List K) → (if b then set else set) ≡ set
  same true set = refl
  same false set = refl

  pub from-none : (sets : List (List K)) (n at : ℕ) → marked_from n cmp at [] sets ≡ sets
  from-none [] n at = refl
  from-none (set ∷ sets) n at = ap (λ s. s ∷ marked_from (n + 1) cmp at [] sets) (same (n == at) set) ∙ ap (λ rest. set ∷ rest) (from-none sets (n + 1) at)

  pub everywhere-none : (sets : List (List K)) → marked_everywhere cmp [] sets ≡ sets
  everywhere-none [] = refl
  everywhere-none (set ∷ sets) = ap (λ rest. set ∷ rest) (everywhere-none sets)

  from-get : (sets : List (List K)) (n at j : ℕ) (keys : List K)
      → slice_get (marked_from n cmp at keys sets) j ≡ option_map (λ set. if n + j == at then set else all_marked cmp keys set) (slice_get sets j)
  from-get [] n at j keys = refl
  from-get (set ∷ sets) n at zero keys = ap (λ m. Some (if m == at then set else all_marked cmp keys set)) (omega arith)
  from-get (set ∷ sets) n at (suc j) keys =
      from-get sets (n + 1) at j keys ∙ ap (λ m. option_map (λ set. if m == at then set else all_marked cmp keys set) (slice_get sets j)) (omega arith)

  from-length : (sets : List (List K)) (n at : ℕ) (keys : List K) → length (marked_from n cmp at keys sets) ≡ length sets
  from-length [] n at keys = refl
  from-length (set ∷ sets) n at keys = ap suc (from-length sets (n + 1) at keys)

  everywhere-length : (keys : List K) (sets : List (List K)) → length (marked_everywhere cmp keys sets) ≡ length sets
  everywhere-length keys [] = refl
  everywhere-length keys (set ∷ sets) = ap suc (everywhere-length keys sets)

  pub told : IsTotalOrder cmp → HasTold cmp
  told order =
      record {
        among = λ k keys set. awaiting-all_marked order k keys set;
        elsewhere = λ at j keys sets.
            from-get sets 0 at j keys ∙ ap (λ m. option_map (λ set. if m == at then set else all_marked cmp keys set) (slice_get sets j)) (omega arith);
        everywhere = λ j keys sets. slice_get-map (all_marked cmp keys) sets j;
        as_many_elsewhere = λ at keys sets. from-length sets 0 at keys;
        as_many_everywhere = everywhere-length;
        none_elsewhere = λ at sets. from-none sets 0 at;
        none_everywhere = everywhere-none;
      }

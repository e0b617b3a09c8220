-- What stands by what stood before is what stands, where the nodes that rest hear and have booked what they did.
use Rattle.std.proofs.Common.{◌≡◌, ℕ, suc, ◌+◌, Bool, true, false, List, [], ◌∷◌, length, map, Option, Some, refl, ap, ◌∙◌, arith}
use Rattle.std.specs.Prelude.{slice_get}
use Rattle.topology_file.specs.declared.entries.StreamEntry.{StreamEntry}
use Rattle.node_core.specs.State.{NodeState}
use Rattle.wishes.specs.declared.standing.Standing.{Standing}
use Rattle.wishes.specs.RunMoments.{standing_at}
use Rattle.wishes.specs.Watching.{kept_or, rests_at, standings_since}

module _ (streams : List StreamEntry) where
  -- a node that rests and whose standing is known
  kept : (b : Bool) (o : Option Standing) (now : Standing) → (b ≡ true → o ≡ Some now) → kept_or b o now ≡ now
  kept true o now h = ap (λ (p : Option Standing). kept_or true p now) (h refl)
  kept false o now h = refl

  -- where of each node that rests what stands there is known
  pub standings-exact : (rests : List Bool) (old : List Standing) (x : ℕ) (ts : List NodeState)
      → ((i k : ℕ) (t : NodeState) → k ≡ x + i → slice_get ts i ≡ Some t → rests_at rests k ≡ true → slice_get old k ≡ Some (standing_at streams t))
      → standings_since streams rests old x ts ≡ map (standing_at streams) ts
  standings-exact rests old x [] each = refl
  standings-exact rests old x (t ∷ ts) each =
      ap (λ (s : Standing). s ∷ standings_since streams rests old (x + 1) ts)
      (kept (rests_at rests x) (slice_get old x) (standing_at streams t) (λ r. each 0 x t (omega arith) refl r))
      ∙ ap (λ (later : List Standing). standing_at streams t ∷ later)
      (standings-exact rests old (x + 1) ts (λ i k u is at r. each (suc i) k u (omega (arith, is)) at r))

  -- where none is known to rest, whatever stood before
  pub standings-fresh : (old : List Standing) (x : ℕ) (ts : List NodeState) → standings_since streams [] old x ts ≡ map (standing_at streams) ts
  standings-fresh old x [] = refl
  standings-fresh old x (t ∷ ts) = ap (λ (later : List Standing). standing_at streams t ∷ later) (standings-fresh old (x + 1) ts)

  -- where the same stands at each node
  pub same-standings : (ss ts : List NodeState) → length ss ≡ length ts
      → ((i : ℕ) (s t : NodeState) → slice_get ss i ≡ Some s → slice_get ts i ≡ Some t → standing_at streams s ≡ standing_at streams t)
      → map (standing_at streams) ss ≡ map (standing_at streams) ts
  same-standings [] [] len each = refl
  same-standings [] (t ∷ ts) len each = absurd (omega (arith, len))
  same-standings (s ∷ ss) [] len each = absurd (omega (arith, len))
  same-standings (s ∷ ss) (t ∷ ts) len each =
      ap (λ (first : Standing). first ∷ map (standing_at streams) ss) (each 0 s t refl refl)
      ∙ ap (λ (later : List Standing). standing_at streams t ∷ later)
      (same-standings ss ts (omega (arith, len)) (λ i a b h k. each (suc i) a b h k))

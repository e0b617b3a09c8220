-- The PDUs at a place of a list of boxes, where one place is set.
use Rattle.std.proofs.Common.{◌≡◌, ◌≢◌, ◌<◌, ℕ, zero, suc, List, [], ◌∷◌, length, refl, ap, arith}
use Rattle.std.specs.Prelude.{slice_set, replicate, Option}
use Rattle.std.specs.{List.AllByRecursion, Option.option_map_or}
use Rattle.srp_base.proofs.Lists.{get_set_other}
use Rattle.mrp_participant.specs.Link.{with_repeat}
use Rattle.link_net.specs.Meaning.{with_one, without}
use Rattle.link_node.specs.Boxes.{box_at}

module _ {X : Type 0} where
  pub box_other : (boxes : List (List X)) (at k : ℕ) (pdus : List X) → at ≢ k → box_at k (slice_set boxes at pdus) ≡ box_at k boxes
  box_other boxes at k pdus ne = ap (λ (o : Option (List X)). option_map_or (λ ps. ps) o []) (get_set_other boxes at k pdus ne)

  -- a box that is set is what it was set to
  pub box_got : (boxes : List (List X)) (at : ℕ) (new : List X) → at < length boxes → box_at at (slice_set boxes at new) ≡ new
  box_got [] at new below = absurd (omega arith)
  box_got (b ∷ boxes) zero new below = refl
  box_got (b ∷ boxes) (suc at) new below = box_got boxes at new (omega arith)

  -- a box that isn't empty is there
  pub box_set : (boxes : List (List X)) (at : ℕ) (pdu : X) (pdus new : List X) → box_at at boxes ≡ pdu ∷ pdus → box_at at (slice_set boxes at new) ≡ new
  box_set [] at pdu pdus new h = cc
  box_set (b ∷ boxes) zero pdu pdus new h = refl
  box_set (b ∷ boxes) (suc at) pdu pdus new h = box_set boxes at pdu pdus new h

  -- a box that is set to what it holds changes nothing
  pub set_same : (boxes : List (List X)) (at : ℕ) → slice_set boxes at (box_at at boxes) ≡ boxes
  set_same [] at = refl
  set_same (b ∷ boxes) zero = refl
  set_same (b ∷ boxes) (suc at) = ap (λ bs. b ∷ bs) (set_same boxes at)

  -- a box that is emptied is empty
  pub box_none : (boxes : List (List X)) (at : ℕ) → box_at at (slice_set boxes at []) ≡ []
  box_none [] at = refl
  box_none (b ∷ boxes) zero = refl
  box_none (b ∷ boxes) (suc at) = box_none boxes at

  -- a new box is empty
  pub box_new : (count at : ℕ) → box_at {X = X} at (replicate count []) ≡ []
  box_new zero at = refl
  box_new (suc count) zero = refl
  box_new (suc count) (suc at) = box_new count at

  module _ (P : X → Type 0) where
    -- what holds of each PDU of each box holds of each PDU of one
    pub each_box : (boxes : List (List X)) (at : ℕ) → AllByRecursion (AllByRecursion P) boxes → AllByRecursion P (box_at at boxes)
    each_box [] at hs = tt
    each_box (b ∷ boxes) zero hs = hs.0
    each_box (b ∷ boxes) (suc at) hs = each_box boxes at hs.1

    pub each_without : (index : ℕ) (xs : List X) → AllByRecursion P xs → AllByRecursion P (without index xs)
    each_without index [] h = nil index
      where
        nil : (j : ℕ) → AllByRecursion P (without j [])
        nil zero = tt
        nil (suc j) = tt
    each_without zero (x ∷ xs) h = h.1
    each_without (suc index) (x ∷ xs) h = (h.0, each_without index xs h.1)

    pub each_repeated : (index : ℕ) (xs : List X) → AllByRecursion P xs → AllByRecursion P (with_repeat index xs)
    each_repeated index [] h = nil index
      where
        nil : (j : ℕ) → AllByRecursion P (with_repeat j [])
        nil j = tt
    each_repeated zero (x ∷ xs) h = (h.0, (h.0, h.1))
    each_repeated (suc index) (x ∷ xs) h = (h.0, each_repeated index xs h.1)

    pub each_with_one : (index : ℕ) (x : X) (xs : List X) → P x → AllByRecursion P xs → AllByRecursion P (with_one index x xs)
    each_with_one zero x xs p h = (p, h)
    each_with_one (suc index) x [] p h = (p, tt)
    each_with_one (suc index) x (y ∷ xs) p h = (h.0, each_with_one index x xs p h.1)

    pub each_new : (count : ℕ) → AllByRecursion (AllByRecursion P) (replicate count [])
    each_new zero = tt
    each_new (suc count) = (tt, each_new count)

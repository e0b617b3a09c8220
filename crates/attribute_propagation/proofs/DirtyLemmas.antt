-- Keys that ascend strictly: where a key stands, and what putting one in and taking one out leave.
use Rattle.std.proofs.Common.{◌≡◌, ℕ, zero, suc, ◌<◌, ◌≤◌, false, not, List, [], ◌∷◌, length, get_or, refl, sym, ap, ◌∙◌, arith, add-one}
use Rattle.std.specs.Prelude.{Result, Ok, Err}
use Rattle.std.specs.{declared.cmp.Ordering.Ordering, declared.cmp.Ordering.TheVariants.Less, declared.cmp.Ordering.TheVariants.Equal, declared.cmp.Ordering.TheVariants.Greater, Ordering.is_eq, Ordering.is_lt, Ordering.ordering_index, Ordering.ordering_reverse, Cmp.IsTotalOrder, List.AllByRecursion, List.Sorted.IsPartitionPoint, List.Sorted.IsNonDecreasingBy, List.Sorted.IsSortedBy, List.Sorted.IsBinarySearchResult, List.Sorted.IsSearchInRange}
use Rattle.std.proofs.lemmas.{Cmp.alike_right, List.Sorted.searchable_from_sorted}
use Rattle.srp_base.proofs.{Lists.each_filter as Each-filter, Lists.Each-map, Lists.Each-at, Bools.chosen}
use Rattle.attribute_propagation.specs.{IsAscending, is_awaiting, with_key, marked_at, without_key, IsFoundAt, IsMissingAt, IsPlace}

module _ {K : Type 0} {cmp : K → K → Ordering} (o : IsTotalOrder cmp) where
  -- keys above k
  abbrev pub AreAbove : K → List K → Type 0
  AreAbove k keys = AllByRecursion (λ y. cmp k y ≡ Less) keys

  greater : (k y : K) → cmp k y ≡ Less → cmp y k ≡ Greater
  greater k y h = o.antisymm y k ∙ ap ordering_reverse h

  less : (k y : K) → cmp y k ≡ Greater → cmp k y ≡ Less
  less k y h = o.antisymm k y ∙ ap ordering_reverse h

  awaiting-above : (k : K) (keys : List K) → AreAbove k keys → is_awaiting cmp k keys ≡ false
  awaiting-above k [] up = refl
  awaiting-above k (x ∷ keys) up = rw (greater k x up.0) (awaiting-above k keys up.1)

  cleared-above : (k : K) (keys : List K) → AreAbove k keys → without_key cmp k keys ≡ keys
  cleared-above k [] up = refl
  cleared-above k (x ∷ keys) up = rw (greater k x up.0) (ap (λ later. x ∷ later) (cleared-above k keys up.1))

  above_all : (k x : K) (keys : List K) → cmp k x ≡ Less → AreAbove x keys → AreAbove k keys
  above_all k x keys h up = Each-map _ _ (λ y e. o.trans k x y h e) keys up

  above_same : (x k : K) (keys : List K) → cmp x k ≡ Equal → AreAbove x keys → AreAbove k keys
  above_same x k keys e up = Each-map _ _ (λ y h. sym (o.congr x k y e) ∙ h) keys up

  -- a key that stands at a place
  pub found_at : (k : K) (keys : List K) (i : ℕ) → IsAscending cmp keys → i < length keys → ((d : K) → cmp (get_or keys i d) k ≡ Equal) → IsFoundAt cmp k keys i
  found_at k [] i up below at = absurd (omega arith)
  found_at k (x ∷ keys) zero up below at =
      record {
        within = below;
        present = rw (at x) refl;
        same = rw (at x) refl;
        without = rw (at x) (cleared-above k keys (above_same x k keys (at x) up.0));
      }
  found_at k (x ∷ keys) (suc i) up below at =
      let below_k : cmp x k ≡ Less = sym (alike_right o (get_or keys i x) k x (at x)) ∙ Each-at _ keys up.0 i x (omega arith) in
      let rest : IsFoundAt cmp k keys i = found_at k keys i up.1 (omega arith) at in
      record {
        within = below;
        present = rw below_k rest.present;
        same = rw below_k (ap (λ later. x ∷ later) rest.same);
        without = rw below_k (ap (λ later. x ∷ later) rest.without);
      }

  -- a key that would stand at a place
  pub missing_at : (k : K) (keys : List K) (i : ℕ) → IsAscending cmp keys → i ≤ length keys → IsPartitionPoint (λ (y : K). cmp y k ≡ Less) (λ y. cmp y k ≡ Greater) keys i → IsMissingAt cmp k keys i
  missing_at k [] zero up below at = record { within = below; absent = refl; more = refl; without = refl }
  missing_at k [] (suc i) up below at = absurd (omega arith)
  missing_at k (x ∷ keys) zero up below at =
      let above : cmp x k ≡ Greater = at.1 zero x (omega arith) (omega arith) in
      let ups : AreAbove k keys = above_all k x keys (less k x above) up.0 in
      record {
        within = below;
        absent = rw above (awaiting-above k keys ups);
        more = rw above refl;
        without = rw above (ap (λ later. x ∷ later) (cleared-above k keys ups));
      }
  missing_at k (x ∷ keys) (suc i) up below at =
      let below_k : cmp x k ≡ Less = at.0 zero x (omega arith) (omega arith) in
      let rest : IsMissingAt cmp k keys i =
      missing_at k keys i up.1 (omega arith) (λ j d low high. at.0 (suc j) d (omega arith) (omega arith), λ j d low high. at.1 (suc j) d (omega arith) (omega arith)) in
      record {
        within = below;
        absent = rw below_k rest.absent;
        more = rw below_k (ap (λ later. x ∷ later) rest.more);
        without = rw below_k (ap (λ later. x ∷ later) rest.without);
      }

  -- keys that ascend are in order for a binary search
  pub rises : (k : K) (keys : List K) → IsAscending cmp keys → IsNonDecreasingBy (λ (y : K). ordering_index (cmp y k)) keys
  rises k keys up = searchable_from_sorted o (λ y. y) keys k (sorted keys up)
    where
      sorted : (keys : List K) → IsAscending cmp keys → IsSortedBy (λ (a b : K). is_lt (cmp a b)) keys
      sorted [] up i d low high = absurd (omega arith)
      sorted (x ∷ []) up zero d low high = absurd (omega arith)
      sorted (x ∷ q ∷ keys) up zero d low high = ap is_lt (greater x q up.0.0)
      sorted (x ∷ keys) up (suc i) d low high = rw (add-one (suc i)) (rw (add-one i) at (sorted keys up.1 i d (omega arith) (omega arith)))

  pub place_is : (k : K) (keys : List K) (r : Result ℕ ℕ) → IsAscending cmp keys → IsSearchInRange r (length keys) → IsBinarySearchResult (λ y. cmp y k) keys r → IsPlace cmp k keys r
  place_is k keys (Ok i) up below at = found_at k keys i up below at
  place_is k keys (Err i) up below at = missing_at k keys i up below (at (rises k keys up))

  -- ---- keys stay ascending

  Each-marked_at : (P : K → Type 0) (k x : K) (keys later : List K) (c : Ordering) → P k → AllByRecursion P (x ∷ keys) → AllByRecursion P later → AllByRecursion P (marked_at c k x keys later)
  Each-marked_at P k x keys later Less h hs rest = (hs.0, rest)
  Each-marked_at P k x keys later Equal h hs rest = hs
  Each-marked_at P k x keys later Greater h hs rest = (h, hs)

  Each-marked : (P : K → Type 0) (k : K) (keys : List K) → P k → AllByRecursion P keys → AllByRecursion P (with_key cmp k keys)
  Each-marked P k [] h hs = (h, tt)
  Each-marked P k (x ∷ keys) h hs = Each-marked_at P k x keys (with_key cmp k keys) (cmp x k) h hs (Each-marked P k keys h hs.1)

  ascending-marked_at : (k x : K) (keys later : List K) (c : Ordering) → cmp x k ≡ c → IsAscending cmp (x ∷ keys)
      → (cmp x k ≡ Less → AreAbove x later) → IsAscending cmp later → IsAscending cmp (marked_at c k x keys later)
  ascending-marked_at k x keys later Less c up above rest = (above c, rest)
  ascending-marked_at k x keys later Equal c up above rest = up
  ascending-marked_at k x keys later Greater c up above rest = ((less k x c, above_all k x keys (less k x c) up.0), up)

  pub ascending-marked : (k : K) (keys : List K) → IsAscending cmp keys → IsAscending cmp (with_key cmp k keys)
  ascending-marked k [] up = (tt, tt)
  ascending-marked k (x ∷ keys) up =
      ascending-marked_at k x keys (with_key cmp k keys) (cmp x k) refl up (λ c. Each-marked (λ y. cmp x y ≡ Less) k keys c up.0) (ascending-marked k keys up.1)

  pub ascending-cleared : (k : K) (keys : List K) → IsAscending cmp keys → IsAscending cmp (without_key cmp k keys)
  ascending-cleared k [] up = tt
  ascending-cleared k (x ∷ keys) up =
      chosen (not (is_eq (cmp x k))) (IsAscending cmp) (x ∷ without_key cmp k keys) (without_key cmp k keys)
      (Each-filter _ _ keys up.0, ascending-cleared k keys up.1) (ascending-cleared k keys up.1)

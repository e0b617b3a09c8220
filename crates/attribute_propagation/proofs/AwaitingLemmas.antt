-- Whether a key is among the keys, once one was put in or taken out.
use Rattle.std.proofs.Common.{◌≡◌, Bool, true, false, not, ◌&&◌, ◌||◌, if◌then◌else◌, List, [], ◌∷◌, refl, ap, ◌∙◌}
use Rattle.std.specs.{declared.cmp.Ordering.Ordering, declared.cmp.Ordering.TheVariants.Less, declared.cmp.Ordering.TheVariants.Equal, declared.cmp.Ordering.TheVariants.Greater, Ordering.is_eq, Ordering.ordering_reverse, Cmp.IsTotalOrder, List.list_any}
use Rattle.attribute_propagation.specs.{is_awaiting, with_key, marked_at, all_marked, without_key}

or_swap : (a b c : Bool) → (a || (b || c)) ≡ (b || (a || c))
or_swap true true c = refl
or_swap true false c = refl
or_swap false true c = refl
or_swap false false c = refl

or_twice : (a b c : Bool) → a ≡ b → (a || c) ≡ (b || (a || c))
or_twice true true c e = refl
or_twice true false c e = cc
or_twice false true c e = cc
or_twice false false c e = refl

kept_or_not : {X : Type 0} (p : X → Bool) (b : Bool) (x : X) (xs : List X) → list_any p (if b then x ∷ xs else xs) ≡ ((b && p x) || list_any p xs)
kept_or_not p true x xs = refl
kept_or_not p false x xs = refl

module _ {K : Type 0} {cmp : K → K → Ordering} (o : IsTotalOrder cmp) where
  awaiting-marked_at : (k x y : K) (keys later : List K) (c : Ordering) → cmp y x ≡ c
      → is_awaiting cmp k later ≡ (is_eq (cmp x k) || is_awaiting cmp k keys)
      → is_awaiting cmp k (marked_at c x y keys later) ≡ (is_eq (cmp x k) || is_awaiting cmp k (y ∷ keys))
  awaiting-marked_at k x y keys later Less c rest =
      ap (λ t. is_eq (cmp y k) || t) rest ∙ or_swap (is_eq (cmp y k)) (is_eq (cmp x k)) (is_awaiting cmp k keys)
  awaiting-marked_at k x y keys later Equal c rest =
      or_twice (is_eq (cmp y k)) (is_eq (cmp x k)) (is_awaiting cmp k keys) (ap is_eq (o.congr y x k c))
  awaiting-marked_at k x y keys later Greater c rest = refl

  pub awaiting-marked : (k x : K) (keys : List K) → is_awaiting cmp k (with_key cmp x keys) ≡ (is_eq (cmp x k) || is_awaiting cmp k keys)
  awaiting-marked k x [] = refl
  awaiting-marked k x (y ∷ keys) = awaiting-marked_at k x y keys (with_key cmp x keys) (cmp y x) refl (awaiting-marked k x keys)

  pub awaiting-all_marked : (k : K) (new keys : List K) → is_awaiting cmp k (all_marked cmp new keys) ≡ (is_awaiting cmp k new || is_awaiting cmp k keys)
  awaiting-all_marked k [] keys = refl
  awaiting-all_marked k (x ∷ new) keys =
      awaiting-all_marked k new (with_key cmp x keys)
      ∙ (ap (λ t. is_awaiting cmp k new || t) (awaiting-marked k x keys)
      ∙ (or_swap (is_awaiting cmp k new) (is_eq (cmp x k)) (is_awaiting cmp k keys) ∙ or_assoc (is_eq (cmp x k)) (is_awaiting cmp k new) (is_awaiting cmp k keys)))
    where
      or_assoc : (a b c : Bool) → (a || (b || c)) ≡ ((a || b) || c)
      or_assoc true b c = refl
      or_assoc false b c = refl

  equal : (c : Ordering) → is_eq c ≡ true → c ≡ Equal
  equal Less h = cc
  equal Equal h = refl
  equal Greater h = cc

  -- keys that are the same as a third are the same
  alike : (x y k : K) → is_eq (cmp y k) ≡ true → is_eq (cmp x k) ≡ true → is_eq (cmp y x) ≡ true
  alike x y k a b =
      ap is_eq (o.congr y k x (equal (cmp y k) a) ∙ (o.antisymm k x ∙ ap ordering_reverse (equal (cmp x k) b)))

  same_key : (k x y : K) → is_eq (cmp y x) ≡ true → is_eq (cmp y k) ≡ is_eq (cmp x k)
  same_key k x y h = ap is_eq (o.congr y x k (equal (cmp y x) h))

  clearing : (b y x rest : Bool) → (b ≡ true → y ≡ x) → (y ≡ true → x ≡ true → b ≡ true) → ((not b && y) || (not x && rest)) ≡ (not x && (y || rest))
  clearing true true true rest h k = refl
  clearing true true false rest h k = let e = h refl in cc
  clearing true false x rest h k = refl
  clearing false true true rest h k = let e = k refl refl in cc
  clearing false true false rest h k = refl
  clearing false false x rest h k = refl

  pub awaiting-cleared : (k x : K) (keys : List K) → is_awaiting cmp k (without_key cmp x keys) ≡ (not (is_eq (cmp x k)) && is_awaiting cmp k keys)
  awaiting-cleared k x [] = and_false (not (is_eq (cmp x k)))
    where
      and_false : (b : Bool) → false ≡ (b && false)
      and_false true = refl
      and_false false = refl
  awaiting-cleared k x (y ∷ keys) =
      kept_or_not (λ z. is_eq (cmp z k)) (not (is_eq (cmp y x))) y (without_key cmp x keys)
      ∙ (ap (λ t. (not (is_eq (cmp y x)) && is_eq (cmp y k)) || t) (awaiting-cleared k x keys)
      ∙ clearing (is_eq (cmp y x)) (is_eq (cmp y k)) (is_eq (cmp x k)) (is_awaiting cmp k keys) (same_key k x y) (alike x y k))

-- A list that is thinned in place: what is made of each element, if anything, closes up to the front.
use Rattle.std.proofs.Common.{◌≡◌, ℕ, suc, ◌+◌, ◌<◌, ◌≤◌, List, [], ◌++◌, length, take, drop, get_or, ap, sym, ◌∙◌, arith}
use Rattle.std.specs.{declared.option.Option.Option, List.filter_map, List.cons_option}
use Rattle.mrp_participant.proofs.Places.{made_more, all_made}

-- ys began as xs: its first k elements are what is made of the first i, and from i on it is as it was
pub record ThinsInPlace {X : Type 0} (f : X → Option X) (xs ys : List X) (k i : ℕ) : Type 0 where
  pub whole : filter_map f xs ≡ take k ys ++ filter_map f (drop i ys)
  pub behind : k ≤ i

module _ {X : Type 0} (f : X → Option X) (xs ys : List X) (k i : ℕ) where
  pub thinned_more : (x : X) → i < length ys → x ≡ get_or ys i x → ThinsInPlace f xs ys k i
      → (made : Option X) → made ≡ f x → (zs : List X) (n : ℕ) → take n zs ≡ take k ys ++ cons_option made []
      → n ≤ suc k → ((m : ℕ) → k < m → drop m zs ≡ drop m ys) → ThinsInPlace f xs zs n (i + 1)
  thinned_more x below is so_far made by zs n kept few rest =
      let behind = so_far.behind in
      record {
        whole =
            made_more f ys (filter_map f xs) (take k ys) i x below is so_far.whole made by (take n zs) kept
            ∙ ap (λ l. take n zs ++ filter_map f l) (sym (rest (i + 1) (omega arith)));
        behind = omega arith;
      }

  pub thinned_all : length ys ≤ i → ThinsInPlace f xs ys k i → take k ys ≡ filter_map f xs
  thinned_all past so_far = all_made f ys (filter_map f xs) (take k ys) i past so_far.whole

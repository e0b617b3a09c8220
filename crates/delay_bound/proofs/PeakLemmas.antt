-- The groups' peak stands at span 0 or next to a crossing of two bounds of a group. Between crossings what the groups bring in
-- is a line; so from a span above the height where none is, it rises above the slope at each further span, up to
-- one next to a crossing, or beyond what the first bounds let in.
use Rattle.std.proofs.Common.{◌≡◌, ℕ, zero, suc, ◌+◌, ◌-◌, ◌*◌, ◌/◌, ◌<◌, ◌≤◌, ◌⊎◌, List, [], ◌∷◌, length, get_or, refl, sym, ◌∙◌, ap, subst, inl, inr, arith}
use Rattle.std.specs.Prelude.{◌^◌, ◌↔◌, Bool, false, IsTrue, All, sum_by}
use Rattle.std.specs.List.{AllWithin}
use Rattle.std.proofs.lemmas.List.{get_or_default}
use Rattle.std.proofs.Math.Nat.{mul-le-mul_left, mul-le-mul_right, mod-lt}
use Rattle.std.proofs.lemmas.Nat.{div-add-mod'}
use Rattle.std.proofs.lemmas.Bool.{cases_lt, false≢true}
use Rattle.std.proofs.lemmas.List.Sums.{sum_by-cons}
use Rattle.std.proofs.lemmas.List.Elements.{All-head, All-tail}
use Rattle.delay_bound.specs.declared.bound.Bound.{Bound}
use Rattle.delay_bound.specs.declared.bound.Group.{Group}
use Rattle.delay_bound.specs.Bounds.{given_in, least_in, brought_in, StaysBelow, IsPeak, first_slopes, bounds_of, bases_with, bases_of}
use Rattle.delay_bound.specs.Crossings.{crossing_of, IsBelowIn, IsBelowAt, IsBelowWith, IsBelowOver, IsNoHigher}

-- ---- the least of some bounds

pub least_below : (span : ℕ) (first : Bound) (more : List Bound) → All (λ b. least_in span first more ≤ given_in span b) (first ∷ more)
least_below span first [] k d lt =
    let P : ℕ → Type 0 = λ i. given_in span first ≤ given_in span (get_or (first ∷ []) i d) in
    let is : zero ≡ k = omega (arith, lt) in subst P is (omega arith)
least_below span first (b ∷ bs) zero d lt = let one = least_below span first bs zero d (omega arith) in omega (arith, one)
least_below span first (b ∷ bs) (suc zero) d lt = omega arith
least_below span first (b ∷ bs) (suc (suc k)) d lt =
    let one = least_below span first bs (suc k) d (omega (arith, lt)) in omega (arith, one)

-- the place of a bound that is the least over a span
record IsLeastAt (span : ℕ) (first : Bound) (more : List Bound) : Type 0 where
  at : ℕ
  there : at < length (first ∷ more)
  least : given_in span (get_or (first ∷ more) at first) ≡ least_in span first more

place_on : (span : ℕ) (first b : Bound) (bs : List Bound) (k : ℕ) → k < length (first ∷ bs) → given_in span (get_or (first ∷ bs) k first) ≡ least_in span first bs
    → least_in span first bs ≤ given_in span b → IsLeastAt span first (b ∷ bs)
place_on span first b bs zero lt is less = record { at = zero; there = omega arith; least = omega (arith, is, less) }
place_on span first b bs (suc k) lt is less = record { at = suc (suc k); there = omega (arith, lt); least = omega (arith, is, less) }

least_at : (span : ℕ) (first : Bound) (more : List Bound) → IsLeastAt span first more
least_at span first [] = record { at = zero; there = omega arith; least = refl }
least_at span first (b ∷ bs) =
    let rest : IsLeastAt span first bs = least_at span first bs in
    elim (cases_lt (given_in span b) (least_in span first bs)) [
      | inl lt ↦ record { at = 1; there = omega arith; least = omega (arith, lt) }
      | inr le ↦ place_on span first b bs rest.at rest.there rest.least le
    ]

-- ---- a crossing between two spans

pub crossing_near : (steep flat : Bound) (n : ℕ) → given_in n steep < given_in n flat → given_in (suc (suc n)) flat < given_in (suc (suc n)) steep
    → (flat.slope < steep.slope) × ((crossing_of steep flat ≡ suc n) ⊎ (crossing_of steep flat + 1 ≡ suc n))
crossing_near steep flat n low high =
    let up : ℕ = steep.slope - flat.slope in
    let over : ℕ = flat.base - steep.base in
    let rises : flat.slope < steep.slope = omega (arith, low, high) in
    let whole : flat.slope + up ≡ steep.slope = omega (arith, rises) in
    let here : (flat.slope + up) * n ≡ steep.slope * n = ap (λ k. k * n) whole in
    let there : (flat.slope + up) * suc (suc n) ≡ steep.slope * suc (suc n) = ap (λ k. k * suc (suc n)) whole in
    let more : up * n < over = omega (arith, low, here) in
    let less : over < up * suc (suc n) = omega (arith, high, there, more) in
    let some : 0 < up = omega (arith, rises) in
    let split = div-add-mod' over up in
    let small = mod-lt over some in (
      rises,
      elim (cases_lt (over / up) n) [
        | inl lt ↦ (let next : up * suc (over / up) ≤ up * n = mul-le-mul_left up lt in absurd (omega (arith, split, small, more, next)))
        | inr ge ↦ elim (cases_lt (over / up) (suc (suc n))) [
          | inl lt ↦ elim (cases_lt (over / up) (suc n)) [
            | inl few ↦ inr (omega (arith, ge, few))
            | inr all ↦ inl (omega (arith, lt, all))
          ]
          | inr far ↦ (let most : up * suc (suc n) ≤ up * (over / up) = mul-le-mul_left up far in absurd (omega (arith, split, less, most)))
        ]
      ],
    )

-- ---- three spans in a row

-- the groups are no higher than a height over the middle one, or what some bring in there is at most half of what they do at both sides
abbrev IsFlat : List Group → ℕ → ℕ → List Group → ℕ → Type 0
IsFlat groups slope height some n =
    IsBelowIn groups slope height (suc n)
    ⊎ (2 * brought_in some (suc n) ≤ brought_in some n + brought_in some (suc (suc n)))

beside : (groups : List Group) (slope height n : ℕ) (steep flat : Bound) → (crossing_of steep flat ≡ suc n) ⊎ (crossing_of steep flat + 1 ≡ suc n)
    → IsBelowIn groups slope height (crossing_of steep flat) × IsBelowIn groups slope height (crossing_of steep flat + 1) → IsBelowIn groups slope height (suc n)
beside groups slope height n steep flat (inl is) both = subst (λ (k : ℕ). IsBelowIn groups slope height k) is both.0
beside groups slope height n steep flat (inr is) both = subst (λ (k : ℕ). IsBelowIn groups slope height k) is both.1

group_flat : (groups : List Group) (slope height : ℕ) (g : Group) (n : ℕ) → IsBelowOver groups slope height (bounds_of g)
    → IsBelowIn groups slope height (suc n)
    ⊎ (2 * least_in (suc n) g.first g.more ≤ least_in n g.first g.more + least_in (suc (suc n)) g.first g.more)
group_flat groups slope height g n over =
    let low : IsLeastAt n g.first g.more = least_at n g.first g.more in
    let high : IsLeastAt (suc (suc n)) g.first g.more = least_at (suc (suc n)) g.first g.more in
    let a : Bound = get_or (bounds_of g) low.at g.first in
    let b : Bound = get_or (bounds_of g) high.at g.first in
    let a_is : given_in n a ≡ least_in n g.first g.more = low.least in
    let b_is : given_in (suc (suc n)) b ≡ least_in (suc (suc n)) g.first g.more = high.least in
    let under_a : least_in (suc n) g.first g.more ≤ given_in (suc n) a = least_below (suc n) g.first g.more low.at g.first low.there in
    let under_b : least_in (suc n) g.first g.more ≤ given_in (suc n) b = least_below (suc n) g.first g.more high.at g.first high.there in
    elim (cases_lt (given_in n a) (given_in n b)) [
      | inl first ↦ elim (cases_lt (given_in (suc (suc n)) b) (given_in (suc (suc n)) a)) [
        | inl last ↦ (
            let crossing = crossing_near a b n first last in
            inl (beside groups slope height n a b crossing.1 (over low.at g.first low.there high.at g.first high.there crossing.0)))
        | inr last ↦ inr (omega (arith, last, a_is, b_is, under_a))
      ]
      | inr first ↦ inr (omega (arith, first, a_is, b_is, under_b))
    ]

flat : (groups : List Group) (slope height : ℕ) (some : List Group) (n : ℕ) → All (λ g. IsBelowOver groups slope height (bounds_of g)) some → IsFlat groups slope height some n
flat groups slope height [] n all = inr (omega arith)
flat groups slope height (g ∷ gs) n all =
    elim (group_flat groups slope height g n (All-head (λ (t : Group). IsBelowOver groups slope height (bounds_of t)) g gs all)) [
      | inl is ↦ inl is
      | inr one ↦ elim (flat groups slope height gs n (All-tail (λ (t : Group). IsBelowOver groups slope height (bounds_of t)) g gs all)) [
        | inl is ↦ inl is
        | inr rest ↦ inr (omega (
          arith,
          one,
          rest,
          sum_by-cons (λ t. least_in n t.first t.more) g gs,
          sum_by-cons (λ t. least_in (suc n) t.first t.more) g gs,
          sum_by-cons (λ t. least_in (suc (suc n)) t.first t.more) g gs,
        ))
      ]
    ]

-- ---- above the height it rises, and goes on rising

rises : (groups : List Group) (slope height : ℕ) → IsBelowIn groups slope height 0 → All (λ g. IsBelowOver groups slope height (bounds_of g)) groups → (n : ℕ)
    → IsBelowIn groups slope height n ⊎ (brought_in groups n + slope + 1 ≤ brought_in groups (suc n))
rises groups slope height none all zero = inl none
rises groups slope height none all (suc n) =
    elim (flat groups slope height groups n all) [
      | inl is ↦ inl is
      | inr half ↦ elim (cases_lt (height + slope * suc n) (brought_in groups (suc n))) [
        | inr le ↦ inl le
        | inl above ↦ elim (rises groups slope height none all n) [
          | inl before ↦ inr (omega (arith, half, above, before))
          | inr before ↦ inr (omega (arith, half, before))
        ]
      ]
    ]

climbs : (groups : List Group) (slope height : ℕ) → IsBelowIn groups slope height 0 → All (λ g. IsBelowOver groups slope height (bounds_of g)) groups → (n m : ℕ)
    → height + slope * n < brought_in groups n → brought_in groups n + m * suc slope ≤ brought_in groups (n + m)
climbs groups slope height none all n zero above = let same : brought_in groups n ≡ brought_in groups (n + zero) = ap (brought_in groups) (omega arith) in omega (arith, same)
climbs groups slope height none all n (suc m) above =
    let before = climbs groups slope height none all n m above in
    let same : brought_in groups (suc (n + m)) ≡ brought_in groups (n + suc m) = ap (brought_in groups) (omega arith) in
    elim (rises groups slope height none all (n + m)) [
      | inl is ↦ absurd (omega (arith, is, before, above))
      | inr more ↦ omega (arith, more, before, same)
    ]

least_first : (span : ℕ) (first : Bound) (more : List Bound) → least_in span first more ≤ given_in span first
least_first span first [] = omega arith
least_first span first (b ∷ bs) = omega (arith, least_first span first bs)

pub firsts_bring : (groups : List Group) (span : ℕ) → brought_in groups span ≤ sum_by (λ g. g.first.base) groups + first_slopes groups * span
firsts_bring [] span = omega arith
firsts_bring (g ∷ gs) span =
    omega (
      arith,
      sum_by-cons (λ t. least_in span t.first t.more) g gs,
      sum_by-cons (λ t. t.first.base) g gs,
      sum_by-cons (λ t. t.first.slope) g gs,
      ap (λ k. k * span) (sum_by-cons (λ t. t.first.slope) g gs),
      least_first span g.first g.more,
      firsts_bring gs span,
    )

pub stays_below : (groups : List Group) (slope height : ℕ) → first_slopes groups ≤ slope → IsBelowIn groups slope height 0 → All (λ g. IsBelowOver groups slope height (bounds_of g)) groups
    → StaysBelow groups slope height
stays_below groups slope height slopes none all n =
    elim (cases_lt (height + slope * n) (brought_in groups n)) [
      | inr le ↦ le
      | inl above ↦ (
          let base : ℕ = sum_by (λ (g : Group). g.first.base) groups in
          let m : ℕ = suc (base + slope * n) in
          let high = climbs groups slope height none all n m above in
          let low = firsts_bring groups (n + m) in
          let most : first_slopes groups * (n + m) ≤ slope * (n + m) = mul-le-mul_right (n + m) slopes in
          absurd (omega (arith, high, low, most)))
    ]

-- ---- one step of a walk: a greater height, and one crossing more

pub raised_at : (groups : List Group) (slope height more : ℕ) (steep flat : Bound) → height ≤ more → IsBelowAt groups slope height steep flat
    → IsBelowAt groups slope more steep flat
raised_at groups slope height more steep flat le is rising = (omega (arith, le, (is rising).0), omega (arith, le, (is rising).1))

pub raised_with : (groups : List Group) (slope height more : ℕ) (bounds : List Bound) (steep : Bound) → height ≤ more → IsBelowWith groups slope height bounds steep
    → IsBelowWith groups slope more bounds steep
raised_with groups slope height more bounds steep le all k d lt = raised_at groups slope height more steep (get_or bounds k d) le (all k d lt)

pub raised_over : (groups : List Group) (slope height more : ℕ) (bounds : List Bound) → height ≤ more → IsBelowOver groups slope height bounds
    → IsBelowOver groups slope more bounds
raised_over groups slope height more bounds le all k d lt = raised_with groups slope height more bounds (get_or bounds k d) le (all k d lt)

-- what holds of the first and of each of the others holds of all
pub all_of : {X : Type 0} (P : X → Type 0) (x : X) (xs : List X) → P x → AllWithin P xs 0 (length xs) → All P (x ∷ xs)
all_of P x xs here all zero d lt = here
all_of P x xs here all (suc k) d lt = all k d (omega arith) (omega (arith, lt))

-- what holds of each so far at one height holds at another, and of one more
pub one_on : {X : Type 0} (P Q : X → Type 0) (xs : List X) (i : ℕ) (d : X) → i < length xs → ((y : X) → P y → Q y) → Q (get_or xs i d)
    → AllWithin P xs 0 i → AllWithin Q xs 0 (i + 1)
one_on {X} P Q xs i d below on here all k e low lt =
    elim (cases_lt k i) [
      | inl before ↦ on (get_or xs k e) (all k e low before)
      | inr after ↦ (
          let same : i ≡ k = omega (arith, after, lt) in
          let there : get_or xs i d ≡ get_or xs i e = get_or_default xs i d e below in
          subst (λ (j : ℕ). Q (get_or xs j e)) same (subst Q there here))
    ]

pub peak_of : (groups : List Group) (slope height : ℕ) → first_slopes groups ≤ slope → IsBelowIn groups slope height 0
    → AllWithin (λ g. IsBelowOver groups slope height (bounds_of g)) groups 0 (length groups) → IsNoHigher groups slope height → IsPeak groups slope height
peak_of groups slope height slopes none all least =
    record { stays = stays_below groups slope height slopes none (λ k d lt. all k d (omega arith) lt); least = least }

-- ---- the height at a span

height_up : (groups : List Group) (slope base more span : ℕ) → base + more * span ≡ brought_in groups span → slope ≤ more
    → (base + (more - slope) * span) + slope * span ≡ brought_in groups span
height_up groups slope base more span is le =
    let whole : slope + (more - slope) ≡ more = omega (arith, le) in
    let same : (slope + (more - slope)) * span ≡ more * span = ap (λ k. k * span) whole in
    omega (arith, same, is)

height_down : (slope base more span : ℕ) → more ≤ slope → (slope - more) * span + more * span ≡ slope * span
height_down slope base more span le =
    let whole : more + (slope - more) ≡ slope = omega (arith, le) in
    let same : (more + (slope - more)) * span ≡ slope * span = ap (λ k. k * span) whole in
    omega (arith, same)

pub bases_most : (groups : List Group) → sum_by (λ g. g.first.base) groups ≤ bases_of groups
bases_most [] = omega arith
bases_most (g ∷ gs) = omega (arith, sum_by-cons (λ t. t.first.base) g gs, sum_by-cons (λ t. bases_with t.first t.more) g gs, bases_most gs)

-- what stands above the slope at a span is no more than the first bounds' bases
pub height_fits : (groups : List Group) (slope base more span k : ℕ) → k ≡ slope → first_slopes groups ≤ slope → base + more * span ≡ brought_in groups span → k ≤ more
    → bases_of groups < 2 ^ 126 → base + (more - k) * span < 2 ^ 126
height_fits groups slope base more span k same slopes is le small =
    let up = height_up groups k base more span is le in
    let less : first_slopes groups * span ≤ k * span = mul-le-mul_right span (omega (arith, slopes, same)) in
    omega (arith, firsts_bring groups span, bases_most groups, less, up, small)

-- what the slope takes away is more than all that comes
pub below_none : (groups : List Group) (slope base more span k : ℕ) (fits : Bool) → k ≡ slope → base + more * span ≡ brought_in groups span → more ≤ k
    → fits ≡ false → (IsTrue fits ↔ ((k - more) * span ≤ base)) → IsBelowIn groups slope 0 span
below_none groups slope base more span k fits same is le nay means =
    elim (cases_lt base ((k - more) * span)) [
      | inl lt ↦ (
          let down = height_down k base more span le in
          let all : k * span ≡ slope * span = ap (λ t. t * span) same in
          omega (arith, down, all, is, lt))
      | inr few ↦ absurd (false≢true (sym nay ∙ means.1 few))
    ]

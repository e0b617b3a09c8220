-- What the groups of a port bring in together.
use Rattle.std.proofs.Common.{◌≡◌, ℕ, ◌+◌, ◌-◌, ◌*◌, ◌≤◌, Bool, true, List, [], ◌∷◌, map, Option, refl, ◌∙◌, ap, arith}
use Rattle.std.specs.Prelude.{All, Any, sum_by, filter}
use Rattle.std.proofs.Math.Nat.{add-mul}
use Rattle.std.proofs.lemmas.{List.Elements.All-head, List.Elements.All-tail, List.Elements.All-weaker, List.Sums.sum_by-cons}
use Rattle.srp_base.specs.declared.numbers.EgressPort.{EgressPort}
use Rattle.credit_shaper.specs.declared.shaper.Traffic.{Traffic}
use Rattle.frame_flow.specs.declared.{frame.Frame.Frame}
use Rattle.delay_bound.specs.declared.bound.{Group.Group}
use Rattle.delay_bound.specs.{Bounds.second, Bounds.brought_in, Bounds.bounds_of, Windows.bits_within, Windows.IsBoundBy, Windows.AreBoundBy, Windows.AreGroups}
use Rattle.delay_bound.proofs.WindowLemmas.{each_in_group, groups_bring}
use Rattle.delay_flow.specs.{ClassStream, is_frame_of}
use Rattle.delay_flow.proofs.Sums.{contains-map}

-- a bound of frames bounds those of them that pass a test
pub fewer-bound : (bits : Frame → ℕ) (at : Frame → Option ℕ) (base slope : ℕ) (fs gs : List Frame)
    → ((from to : ℕ) → bits_within bits at from to gs ≤ bits_within bits at from to fs) → IsBoundBy bits at base slope fs → IsBoundBy bits at base slope gs
fewer-bound bits at base slope fs gs fewer bound from to up = omega (arith, fewer from to, bound from to up)

any-map : (traffic : Traffic) (f : Frame) (xs : List ClassStream) → Any (λ x. is_frame_of traffic x f ≡ true) xs → Any (λ test. test f ≡ true) (map (is_frame_of traffic) xs)
any-map traffic f xs (k, x, below, same, passes) =
    let there = contains-map (is_frame_of traffic) xs x (k, below, same) in
    (there.0, is_frame_of traffic x, there.1, there.2, passes)

sum-map : (g : (Frame → Bool) → ℕ) (traffic : Traffic) (xs : List ClassStream) → sum_by g (map (is_frame_of traffic) xs) ≡ sum_by (λ x. g (is_frame_of traffic x)) xs
sum-map g traffic [] = refl
sum-map g traffic (x ∷ xs) =
    omega (arith, sum_by-cons g (is_frame_of traffic x) (map (is_frame_of traffic) xs), sum_by-cons (λ y. g (is_frame_of traffic y)) x xs, sum-map g traffic xs)

sums-within : (within base : ClassStream → ℕ) (span : ℕ) (xs : List ClassStream) → All (λ x. within x * second ≤ base x + x.limits.slope * span) xs
    → sum_by within xs * second ≤ sum_by base xs + sum_by (λ x. x.limits.slope) xs * span
sums-within within base span [] all = omega arith
sums-within within base span (x ∷ xs) all =
    let P : ClassStream → Type 0 = λ y. within y * second ≤ base y + y.limits.slope * span in
    let slopes : ClassStream → ℕ = λ y. y.limits.slope in
    let apart : sum_by slopes (x ∷ xs) * span ≡ x.limits.slope * span + sum_by slopes xs * span =
    ap (λ (k : ℕ). k * span) (sum_by-cons slopes x xs) ∙ add-mul x.limits.slope (sum_by slopes xs) span in
    omega (arith, sum_by-cons within x xs, sum_by-cons base x xs, apart, All-head P x xs all, sums-within within base span xs (All-tail P x xs all))

-- streams that keep each a base and its slope keep both together
pub bound-together : (bits : Frame → ℕ) (at : Frame → Option ℕ) (traffic : Traffic) (xs : List ClassStream) (base : ClassStream → ℕ) (fs : List Frame)
    → All (λ f. Any (λ x. is_frame_of traffic x f ≡ true) xs) fs
    → All (λ x. IsBoundBy bits at (base x) x.limits.slope (filter (is_frame_of traffic x) fs)) xs
    → IsBoundBy bits at (sum_by base xs) (sum_by (λ x. x.limits.slope) xs) fs
bound-together bits at traffic xs base fs some kept from to up =
    let within : ClassStream → ℕ = λ x. bits_within bits at from to (filter (is_frame_of traffic x) fs) in
    let each = each_in_group bits at (map (is_frame_of traffic) xs) fs from to
    (All-weaker (λ f. Any (λ x. is_frame_of traffic x f ≡ true) xs) (λ f. Any (λ test. test f ≡ true) (map (is_frame_of traffic) xs)) (λ f h. any-map traffic f xs h) fs some) in
    let over = sum-map (λ test. bits_within bits at from to (filter test fs)) traffic xs in
    let all = sums-within within base (to - from) xs
    (All-weaker (λ x. IsBoundBy bits at (base x) x.limits.slope (filter (is_frame_of traffic x) fs)) (λ x. within x * second ≤ base x + x.limits.slope * (to - from))
    (λ x h. h from to up) xs kept) in
    omega (arith, each, over, all)

-- groups side by side with their tests
pub groups-over : (bits : Frame → ℕ) (at : Frame → Option ℕ) (fs : List Frame) (test : EgressPort → Frame → Bool) (group : EgressPort → Group) (rs : List EgressPort)
    → All (λ r. AreBoundBy bits at (filter (test r) fs) (bounds_of (group r))) rs → AreGroups bits at fs (map test rs) (map group rs)
groups-over bits at fs test group [] all = tt
groups-over bits at fs test group (r ∷ rs) all =
    let P : EgressPort → Type 0 = λ t. AreBoundBy bits at (filter (test t) fs) (bounds_of (group t)) in
    (All-head P r rs all, groups-over bits at fs test group rs (All-tail P r rs all))

-- what comes in a window is no more than the groups bring in
pub all-brought : (bits : Frame → ℕ) (at : Frame → Option ℕ) (tests : List (Frame → Bool)) (groups : List Group) (fs : List Frame) (from to : ℕ)
    → All (λ f. Any (λ test. test f ≡ true) tests) fs → AreGroups bits at fs tests groups → from ≤ to
    → bits_within bits at from to fs * second ≤ brought_in groups (to - from)
all-brought bits at tests groups fs from to some are up =
    omega (arith, each_in_group bits at tests fs from to some, groups_bring bits at tests groups fs from to are up)

-- What a port hands on to another.
use Rattle.std.proofs.Common.{◌≡◌, ℕ, zero, suc, ◌^◌, ◌≤◌, inl, inr, Bool, List, [], ◌∷◌, map, Some, None, sym, ◌∙◌, ap, arith}
use Rattle.std.specs.Prelude.{nat_lt, not, filter, sum_by, Contains}
use Rattle.std.proofs.lemmas.{Bool.cond-true, Bool.cond-false, Bool.cases_Bool, Bool.ltb-false, List.Elements.All-contains, List.Sums.sum_by-cons}
use Rattle.srp_base.specs.declared.{numbers.EgressPort.EgressPort, bandwidth.Rate.Rate}
use Rattle.tree_topology.specs.{Ports.peer_of}
use Rattle.frame_flow.specs.{Force.is_port, Copies.ports_at}
use Rattle.delay_bound.specs.declared.{bound.Bound.Bound, bound.Group.Group}
use Rattle.delay_bound.specs.{Bounds.bases_with, Waits.in_u128}
use Rattle.delay_flow.specs.Rules.{IsBefore, line_bound, class_bound}
use Rattle.delay_flow.proofs.Places.{ports-have}
use Rattle.delay_flow.proofs.Sums.{contains-filter, contains-map}
use Rattle.class_delays.specs.declared.{coming.Coming.Coming, delays.PortDelays.PortDelays, delays.Unbounded.Unbounded}
use Rattle.class_delays.specs.declared.delays.Unbounded.TheVariants.{Steep, Large, NoMemory}
use Rattle.class_delays.specs.{ClassSetting, delays_at, rate_at, longest_of, fed_streams, slope_at, idle_at, further_of, group_of, groups_of, IsReckoned, AreReckoned, IsFaultOfGroup, IsFaultOfGroups}
use Rattle.class_delays.proofs.Entries.{at-port}
use Rattle.class_delays.proofs.Comings.{lists-fed}

-- a number below 2^128 is the one that is meant
pub in-u128-is : (n m : ℕ) → in_u128 n ≡ Some m → m ≡ n
in-u128-is n m is =
    elim (cases_Bool (nat_lt n (2 ^ 128))) [
      | inl less ↦ (let same : Some n ≡ Some m = sym (cond-true (nat_lt n (2 ^ 128)) (Some n) None less) ∙ is in cc)
      | inr more ↦ absurd (let nay : None ≡ Some m = sym (cond-false (nat_lt n (2 ^ 128)) (Some n) None more) ∙ is in cc)
    ]

pub in-u128-none : (n : ℕ) → in_u128 n ≡ None → 2 ^ 128 ≤ n
in-u128-none n is =
    elim (cases_Bool (nat_lt n (2 ^ 128))) [
      | inl less ↦ absurd (let nay : Some n ≡ None = sym (cond-true (nat_lt n (2 ^ 128)) (Some n) None less) ∙ is in cc)
      | inr more ↦ ltb-false n (2 ^ 128) more
    ]

pub first-large : (b d : Bound) → 2 ^ 128 ≤ b.base → 2 ^ 128 ≤ sum_by (λ t. t.base) (b ∷ d ∷ [])
first-large b d h = let f : Bound → ℕ = λ t. t.base in omega (arith, h, sum_by-cons f b (d ∷ []))

pub second-large : (b d : Bound) → 2 ^ 128 ≤ d.base → 2 ^ 128 ≤ sum_by (λ t. t.base) (b ∷ d ∷ [])
second-large b d h = let f : Bound → ℕ = λ t. t.base in omega (arith, h, sum_by-cons f b (d ∷ []), sum_by-cons f d [])

-- ---- what is too large in a group

sum-has : {X : Type 0} (f : X → ℕ) (xs : List X) (x : X) → Contains xs x → f x ≤ sum_by f xs
sum-has f [] x (k, below, same) = absurd (omega (arith, below))
sum-has f (y ∷ ys) x (zero, below, same) = omega (arith, sum_by-cons f y ys, ap f same)
sum-has f (y ∷ ys) x (suc k, below, same) = omega (arith, sum_by-cons f y ys, sum-has f ys x (k, omega (arith, below), same))

pub group-fault : (a : ClassSetting) (p : EgressPort) (cs : List Coming) (g : Group) (e : Unbounded) → Contains (groups_of a p cs) g → IsFaultOfGroup p g e → IsFaultOfGroups a p cs e
group-fault a p cs g (Steep q) has h = (h.0, omega (arith, h.1, sum-has (λ (t : Group). t.first.slope) (groups_of a p cs) g has))
group-fault a p cs g (Large q) has h = (h.0, omega (arith, h.1, sum-has (λ (t : Group). bases_with t.first t.more) (groups_of a p cs) g has))
group-fault a p cs g NoMemory has h = tt

-- the group of what comes by another port is one of them
pub group-has : (a : ClassSetting) (p r : EgressPort) (cs : List Coming) → IsBefore a.setting p r → Contains (groups_of a p cs) (group_of a p cs r)
group-has a p r cs other =
    let test : EgressPort → Bool = λ t. not (is_port t p) in
    let ports = ports_at a.setting.tree.links p.node.0 in
    let rs = filter test ports in
    let listed = contains-filter test ports r (ports-have a.setting.tree p.node.0 r other.port other.node) (ap (λ (b : Bool). not b) other.other) in
    let has = contains-map (group_of a p cs) rs r listed in
    (suc has.0, omega (arith, has.1), has.2)

pub reckoned-at : (a : ClassSetting) (ports : List PortDelays) → AreReckoned a ports → (q : EgressPort) (e : PortDelays) → delays_at ports q ≡ Some e → (e.at ≡ q) × IsReckoned a ports e
reckoned-at a ports all q e at = let h = at-port ports q e at in (h.0, All-contains (IsReckoned a ports) ports e all h.1)

pub rate-there : (a : ClassSetting) (ports : List PortDelays) → AreReckoned a ports → (q : EgressPort) (e : PortDelays) → delays_at ports q ≡ Some e → e.rate ≡ rate_at a.setting q
rate-there a ports all q e at = let h = reckoned-at a ports all q e at in h.1.entry.rate ∙ ap (rate_at a.setting) h.0

pub longest-there : (a : ClassSetting) (ports : List PortDelays) → AreReckoned a ports → (q : EgressPort) (e : PortDelays) → delays_at ports q ≡ Some e
    → longest_of (map (λ f. f.stream) e.fed) ≡ longest_of (fed_streams a q)
longest-there a ports all q e at =
    let h = reckoned-at a ports all q e at in
    ap longest_of (lists-fed a ports e h.1.entry) ∙ ap (λ (t : EgressPort). longest_of (fed_streams a t)) h.0

-- the further bounds, by what is known of their parts
pub further-made : (a : ClassSetting) (p r q : EgressPort) (behind here : Rate) (slope idle most : ℕ) → q ≡ peer_of a.setting.tree.links r → behind ≡ rate_at a.setting q → here ≡ rate_at a.setting p
    → slope ≡ slope_at a q → idle ≡ idle_at a q → most ≡ longest_of (fed_streams a q)
    → (class_bound behind here slope idle most ∷ line_bound behind here most ∷ []) ≡ further_of a p r
further-made a p r q behind here slope idle most peer rate_q rate_p is_slope is_idle is_most =
    let to : Rate → Rate → ℕ → ℕ → ℕ → List Bound = λ b h s i m. class_bound b h s i m ∷ line_bound b h m ∷ [] in
    let s = a.setting in
    ap (λ (b : Rate). to b here slope idle most) rate_q
    ∙ ap (λ (h : Rate). to (rate_at s q) h slope idle most) rate_p
    ∙ ap (λ (k : ℕ). to (rate_at s q) (rate_at s p) k idle most) is_slope
    ∙ ap (λ (k : ℕ). to (rate_at s q) (rate_at s p) (slope_at a q) k most) is_idle
    ∙ ap (λ (k : ℕ). to (rate_at s q) (rate_at s p) (slope_at a q) (idle_at a q) k) is_most
    ∙ ap (λ (t : EgressPort). to (rate_at s t) (rate_at s p) (slope_at a t) (idle_at a t) (longest_of (fed_streams a t))) peer

-- What the changes at a port keep, the slopes that its shaper is given keep.
use Rattle.std.proofs.Common.{◌≡◌, ℕ, ◌+◌, ◌≤◌, Bool, true, false, List, [], ◌∷◌, get_or, Option, Some, None, cond, sym, subst, arith}
use Rattle.std.specs.Prelude.{All, nat_le}
use Rattle.std.proofs.lemmas.List.Elements.{All-nil, All-cons, All-head, All-tail, All-filter, All-map, filter_passes}
use Rattle.srp_base.specs.declared.{numbers.EgressPort.EgressPort, bandwidth.Rate.Rate, ports.PortChange.PortChange}
use Rattle.credit_shaper.specs.declared.port.SlopeChange.{SlopeChange}
use Rattle.frame_flow.specs.{PortFlow, all_places, Setting, IsFlow, port_flow, is_port, changes_at, last_upto, in_force, first_slopes, does_change, slopes_of_change, later_slopes, slopes_over, KeepsCapsA, KeepsCaps, HasCaps}
use Rattle.frame_flow.proofs.LevelLemmas.{same-port}

-- two slopes keep what is asked of them, as no slopes do
abbrev AreKept : (ℕ → ℕ → Type 0) → List SlopeChange → Type 0
AreKept K slopes = All (λ s. K s.slope_a s.slope_b) slopes

held-kept : (K : ℕ → ℕ → Type 0) (newest : Option PortChange) (c : PortChange) (b : Bool)
    → K (first_slopes newest).slope_a (first_slopes newest).slope_b → K c.slope_a c.slope_b
    → K (first_slopes (cond b (Some c) newest)).slope_a (first_slopes (cond b (Some c) newest)).slope_b
held-kept K newest c true new one = one
held-kept K newest c false new one = new

last-kept : (K : ℕ → ℕ → Type 0) (tick : ℕ) (newest : Option PortChange) (cs : List PortChange)
    → K (first_slopes newest).slope_a (first_slopes newest).slope_b → All (λ c. K c.slope_a c.slope_b) cs
    → K (first_slopes (last_upto tick newest cs)).slope_a (first_slopes (last_upto tick newest cs)).slope_b
last-kept K tick newest [] new all = new
last-kept K tick newest (c ∷ cs) new all =
    let C : PortChange → Type 0 = λ x. K x.slope_a x.slope_b in
    last-kept K tick (cond (nat_le c.tick tick) (Some c) newest) cs
    (held-kept K newest c (nat_le c.tick tick) new (All-head C c cs all)) (All-tail C c cs all)

-- either list of slopes
either-kept : (K : ℕ → ℕ → Type 0) (b : Bool) (xs ys : List SlopeChange) → AreKept K xs → AreKept K ys → AreKept K (cond b xs ys)
either-kept K true xs ys one other = one
either-kept K false xs ys one other = other

later-kept : (K : ℕ → ℕ → Type 0) (rate : Rate) (ticks : ℕ) (last : SlopeChange) (cs : List PortChange)
    → All (λ c. K c.slope_a c.slope_b) cs → AreKept K (later_slopes rate ticks last cs)
later-kept K rate ticks last [] all = All-nil (λ (s : SlopeChange). K s.slope_a s.slope_b)
later-kept K rate ticks last (c ∷ cs) all =
    let C : PortChange → Type 0 = λ x. K x.slope_a x.slope_b in
    let S : SlopeChange → Type 0 = λ s. K s.slope_a s.slope_b in
    let rest = All-tail C c cs all in
    let own = slopes_of_change rate c in
    either-kept K (does_change ticks last c) (own ∷ later_slopes rate ticks own cs) (later_slopes rate ticks last cs)
    (All-cons S own (later_slopes rate ticks own cs) (All-head C c cs all) (later-kept K rate ticks own cs rest))
    (later-kept K rate ticks last cs rest)

-- the slopes of a run by a port's changes
slopes-kept : (K : ℕ → ℕ → Type 0) (rate : Rate) (ticks : ℕ) (cs : List PortChange) → K 0 0
    → All (λ c. K c.slope_a c.slope_b) cs → AreKept K (slopes_over rate ticks cs)
slopes-kept K rate ticks cs none all =
    let S : SlopeChange → Type 0 = λ s. K s.slope_a s.slope_b in
    let first = first_slopes (in_force 0 cs) in
    All-cons S first (later_slopes rate ticks first cs) (last-kept K 0 None cs none all) (later-kept K rate ticks first cs all)

-- the changes at a port
port-kept : (K : EgressPort → ℕ → ℕ → Type 0) (changes : List PortChange) (p : EgressPort)
    → All (λ c. K c.at c.slope_a c.slope_b) changes → All (λ c. K p c.slope_a c.slope_b) (changes_at changes p)
port-kept K changes p keeps k d below =
    let c = get_or (changes_at changes p) k d in
    let same : c.at ≡ p = same-port c.at p (filter_passes (λ (x : PortChange). is_port x.at p) changes k d below) in
    subst (λ (q : EgressPort). K q c.slope_a c.slope_b) same
    (All-filter (λ (x : PortChange). is_port x.at p) (λ x. K x.at x.slope_a x.slope_b) changes keeps k d below)

inputs-kept : (K : EgressPort → ℕ → ℕ → Type 0) (s : Setting) (flows : List PortFlow) → ((p : EgressPort) → K p 0 0)
    → All (λ c. K c.at c.slope_a c.slope_b) s.changes → IsFlow s flows → All (λ x. AreKept (K x.at) x.input.slopes) flows
inputs-kept K s flows none keeps is =
    let P : PortFlow → Type 0 = λ x. AreKept (K x.at) x.input.slopes in
    let places = all_places s.tree.links s.rates in
    subst (λ (t : List PortFlow). All P t) (sym is.each)
    (All-map P (port_flow s flows) places (λ k d below.
    let place = get_or places k d in
    slopes-kept (K place.at) place.rate s.ticks (changes_at s.changes place.at) (none place.at) (port-kept K s.changes place.at keeps)))

pub caps_a-kept : (s : Setting) (flows : List PortFlow) (cap : EgressPort → ℕ) → KeepsCapsA cap s.changes → IsFlow s flows
    → All (λ x. All (λ e. e.slope_a ≤ cap x.at) x.input.slopes) flows
caps_a-kept s flows cap keeps is = inputs-kept (λ p a b. a ≤ cap p) s flows (λ p. omega arith) keeps is

pub caps-kept : (s : Setting) (flows : List PortFlow) (cap_a cap_ab : EgressPort → ℕ) → KeepsCaps cap_a cap_ab s.changes → IsFlow s flows
    → All (HasCaps cap_a cap_ab) flows
caps-kept s flows cap_a cap_ab keeps is =
    inputs-kept (λ p a b. (a ≤ cap_a p) × (a + b ≤ cap_ab p)) s flows (λ p. (omega arith, omega arith)) keeps is

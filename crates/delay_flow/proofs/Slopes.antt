-- The slopes at a port from the steady tick on: those at the run's end.
use Rattle.std.proofs.Common.{◌≡◌, ℕ, ◌+◌, ◌-◌, ◌*◌, ◌<◌, ◌≤◌, Bool, cond, List, [], ◌∷◌, get_or, Option, Some, None, ◌∙◌, arith}
use Rattle.std.specs.Prelude.{All, nat_le}
use Rattle.std.proofs.lemmas.{Bool.cond_both, List.Elements.All-head, List.Elements.All-tail, List.Elements.All-contains, List.Elements.All-filter, List.Elements.filter_passes}
use Rattle.srp_base.specs.declared.{numbers.EgressPort.EgressPort, bandwidth.Rate.Rate, ports.PortChange.PortChange}
use Rattle.srp_base.specs.declared.bandwidth.Rate.TheVariants.{M100, G1, G10}
use Rattle.srp_base.specs.Bandwidth.{bits_of, bit_ps_of}
use Rattle.credit_shaper.specs.declared.{shaper.Traffic.Traffic, port.PortInput.PortInput}
use Rattle.credit_shaper.specs.declared.shaper.Traffic.TheVariants.{A, B, Other}
use Rattle.class_service.specs.{Class.IsClass, Class.slope_at, Range.HasRoom, Owed.HasOneSlope}
use Rattle.tree_topology.specs.{Topology.HasPort, PortLaws.HasPortLaws}
use Rattle.credit_shaper.proofs.PortLemmas.{some_rate}
use Rattle.frame_flow.specs.declared.{result.PortFlow.PortFlow}
use Rattle.frame_flow.specs.{Moments.bits_of_ticks, Moments.tick_at, Force.is_port, Force.changes_at, Force.first_slopes, Force.last_upto, Copies.all_places, Flow.Setting, Given.HasSlopesBelow, Given.IsSetting}
use Rattle.frame_flow.proofs.{SlopeLemmas.changes-ascend, ForceLemmas.slopes-in-force, LevelLemmas.same-port, ForceLemmas.begun, ForceLemmas.not-begun}
use Rattle.delay_bound.specs.{Bounds.second}
use Rattle.delay_flow.specs.{ClassStream, place_at, input_at, last_force, class_slope, Numbers}
use Rattle.delay_flow.proofs.{Places.Network, Places.HasRates, Places.listed, Ports.Premises}

pub rate-second : (rate : Rate) → bits_of rate * bit_ps_of rate ≡ second
rate-second M100 = omega arith
rate-second G1 = omega arith
rate-second G10 = omega arith

-- ---- one slope from the steady tick on

below-upto : (rate tick : ℕ) (newest : Option PortChange) (cs : List PortChange) → (first_slopes newest).slope_a + (first_slopes newest).slope_b < rate
    → All (λ c. c.slope_a + c.slope_b < rate) cs → (first_slopes (last_upto tick newest cs)).slope_a + (first_slopes (last_upto tick newest cs)).slope_b < rate
below-upto rate tick newest [] now all = now
below-upto rate tick newest (c ∷ cs) now all =
    let P : PortChange → Type 0 = λ d. d.slope_a + d.slope_b < rate in
    below-upto rate tick (cond (nat_le c.tick tick) (Some c) newest) cs
    (cond_both (nat_le c.tick tick) (Some c) newest (λ o. (first_slopes o).slope_a + (first_slopes o).slope_b < rate) (λ e. All-head P c cs all) (λ e. now)) (All-tail P c cs all)

pub below-there : (s : Setting) → HasPortLaws s.tree → IsSetting s → (rate : EgressPort → Rate) → HasRates s rate → (p : EgressPort) → HasPort s.tree p
    → (first_slopes (last_force s p)).slope_a + (first_slopes (last_force s p)).slope_b < bits_of (rate p)
below-there s laws given rate rates p port =
    let test : PortChange → Bool = λ c. is_port c.at p in
    let Q : PortChange → Type 0 = λ c. c.at ≡ p → c.slope_a + c.slope_b < bits_of (rate p) in
    let all = All-contains (HasSlopesBelow s.changes) (all_places s.tree.links s.rates) (place_at rate p) given.slopes (listed s laws rate rates p port) in
    below-upto (bits_of (rate p)) (s.ticks - 1) None (changes_at s.changes p) (some_rate (rate p))
    (λ k d few. All-filter test Q s.changes all k d few (same-port (get_or (changes_at s.changes p) k d).at p (filter_passes test s.changes k d few)))

pub slopes-below : (s : Setting) (flows : List PortFlow) (rate : EgressPort → Rate) → Network s flows rate → (p : EgressPort) → HasPort s.tree p
    → (first_slopes (last_force s p)).slope_a + (first_slopes (last_force s p)).slope_b < bits_of (rate p)
slopes-below s flows rate net p port = below-there s net.laws net.given rate net.rates p port

pub room-there : (rate a : ℕ) (traffic : Traffic) (force : Option PortChange) → IsClass traffic → (first_slopes force).slope_a + (first_slopes force).slope_b < rate
    → HasRoom rate (first_slopes force).slope_a (class_slope traffic force) traffic
room-there rate a A force class below = tt
room-there rate a B force class below = (omega (arith, below), omega (arith, below))
room-there rate a Other force class below = absurd class

-- the slopes in a steady tick are those at the end
pub steady-slopes : (s : Setting) (flows : List PortFlow) (traffic : Traffic) (streams : List ClassStream) (n : Numbers) (tick : ℕ) → Premises s flows traffic streams n tick
    → (p : EgressPort) → HasPort s.tree p → (t : ℕ) → bits_of_ticks (n.rate p) tick ≤ t → t < bits_of_ticks (n.rate p) s.ticks
    → (slope_at (input_at s flows n.rate p) A t ≡ (first_slopes (last_force s p)).slope_a)
    × (slope_at (input_at s flows n.rate p) B t ≡ (first_slopes (last_force s p)).slope_b)
steady-slopes s flows traffic streams n tick prem p port t from before =
    let changes = changes_at s.changes p in
    let now = slopes-in-force (n.rate p) s.ticks t changes (changes-ascend s.changes p prem.net.given.range.changes) before in
    let same = prem.steady.same p (tick_at (n.rate p) t) port (begun (n.rate p) tick t from) (not-begun (n.rate p) s.ticks t before) in
    (now.0 ∙ same.slope_a, now.1 ∙ same.slope_b)

pub class-slopes : (input : PortInput) (traffic : Traffic) (force : Option PortChange) (t : ℕ) → IsClass traffic
    → (slope_at input A t ≡ (first_slopes force).slope_a) × (slope_at input B t ≡ (first_slopes force).slope_b) → slope_at input traffic t ≡ class_slope traffic force
class-slopes input A force t class both = both.0
class-slopes input B force t class both = both.1
class-slopes input Other force t class both = absurd class

pub one-slope : (s : Setting) (flows : List PortFlow) (traffic : Traffic) (streams : List ClassStream) (n : Numbers) (tick : ℕ) → Premises s flows traffic streams n tick
    → (p : EgressPort) → HasPort s.tree p → 0 < class_slope traffic (last_force s p)
    → HasOneSlope (input_at s flows n.rate p) traffic (class_slope traffic (last_force s p)) (first_slopes (last_force s p)).slope_a
    (bits_of_ticks (n.rate p) tick) (bits_of_ticks (n.rate p) s.ticks)
one-slope s flows traffic streams n tick prem p port some =
    let force = last_force s p in
    record {
      some = some;
      room = room-there (bits_of (n.rate p)) 0 traffic force prem.class (slopes-below s flows n.rate prem.net p port);
      own = λ t from before. class-slopes (input_at s flows n.rate p) traffic force t prem.class (steady-slopes s flows traffic streams n tick prem p port t from before);
      class_a = λ t from before. (steady-slopes s flows traffic streams n tick prem p port t from before).0;
    }

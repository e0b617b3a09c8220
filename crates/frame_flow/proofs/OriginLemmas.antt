-- Where copies come from, what departs, and what goes on from port to port.
use Rattle.std.proofs.Common.{◌≡◌, ℕ, zero, suc, ◌<◌, inl, inr, ◌⊎◌, Bool, true, false, List, [], get_or, map, Option, Some, None, refl, sym, ◌∙◌, ap, subst, arith}
use Rattle.std.specs.Prelude.{All, Contains, filter, filter_map, find, flat_map, nat_lt, ◌==◌, ◌&&◌, if◌then◌else◌}
use Rattle.std.proofs.lemmas.{Bool.cond_both, Bool.cond-true, Bool.cond-false, Bool.cases_Bool, Bool.eqb-true, Bool.ltb-true, Bool.and_parts, List.Elements.All-nil, List.Elements.All-cons, List.Elements.All-append, List.Elements.All-filter, List.Elements.All-map, List.Elements.All-weaker, List.Elements.All-contains, List.Elements.All-contains_itself, List.Elements.filter_passes}
use Rattle.srp_base.proofs.Lists.{All-flat_map}
use Rattle.srp_base.specs.declared.{numbers.EgressPort.EgressPort}
use Rattle.credit_shaper.specs.declared.{shaper.Traffic.Traffic, port.Arrival.Arrival, port.Departure.Departure, port.PortInput.PortInput}
use Rattle.credit_shaper.specs.{Port.IsPortInput, Port.is_of, Departures.sent_of, Departures.left_of, Departures.departs_as, Departures.DepartInOrder}
use Rattle.tree_topology.specs.{Topology.Topology, Topology.HasPort, Ports.peer_of, PortLaws.HasPortLaws}
use Rattle.frame_flow.specs.{Frame, FrameCopy, Fate, Unbooked, NoVlan, Departed, Left, PortFlow, Place, bits_of_ticks, bit_from, moment_of, is_port, changes_at, Reached, sent_from, frame_of, reached_at, handed_on, handed_by, comes_over, flow_at, frames_reaching, ports_at, goes_by, copy_of, all_places, arriving, Setting, IsFlow, port_flow, force_on, may_send, has_vid, is_unbooked, sent_fate, fate_of, arrival_of, port_input, IsSetting, level_at, IsSentThere, ComesOver, HasSource, IsFlowOf, IsOfCopy}
use Rattle.frame_flow.proofs.{OrderLemmas.All-in_order, CopyLemmas.All-find, CopyLemmas.All-filter_map, SlopeLemmas.port-input, LevelLemmas.same-port, LevelLemmas.IsPortOf, LevelLemmas.ports-are, LevelLemmas.source-below, DepartureFacts.IsOfSome, DepartureFacts.sent-of}

-- ---- from port to port

along-below : (tree : Topology) → HasPortLaws tree → (P : EgressPort → Type 0)
    → ((p : EgressPort) → HasPort tree p → ((r : EgressPort) → HasPort tree r → r.node.0 ≡ p.node.0 → is_port r p ≡ false → P (peer_of tree.links r)) → P p)
    → (m : ℕ) (p : EgressPort) → HasPort tree p → level_at tree p < m → P p
along-below tree laws P rule zero p port lt = absurd (omega (arith, lt))
along-below tree laws P rule (suc m) p port lt =
    rule p port (λ r there node other.
    let low = source-below tree laws p r port there node other in
    along-below tree laws P rule m (peer_of tree.links r) low.0 (omega (arith, low.1, lt)))

-- what is so at a port where it is so at each that sends into its node over another link is so at each
pub along : (tree : Topology) → HasPortLaws tree → (P : EgressPort → Type 0)
    → ((p : EgressPort) → HasPort tree p → ((r : EgressPort) → HasPort tree r → r.node.0 ≡ p.node.0 → is_port r p ≡ false → P (peer_of tree.links r)) → P p)
    → (p : EgressPort) → HasPort tree p → P p
along tree laws P rule p port = along-below tree laws P rule (suc (level_at tree p)) p port (omega arith)

-- ---- where a frame at a node comes from

record IsHandedOn (frames : List Frame) (x : PortFlow) (r : Reached) : Type 0 where
  frame : Contains frames r.frame
  start : ℕ
  end : ℕ
  fate : Contains x.fates (r.frame.number, Departed start end)
  sent : r.moment ≡ moment_of x.input.rate end

handed-reached : (frames : List Frame) (x : PortFlow) (number start end : ℕ) → Contains x.fates (number, Departed start end) → (o : Option Frame) → frame_of frames number ≡ o
    → All (IsHandedOn frames x) (reached_at (moment_of x.input.rate end) o)
handed-reached frames x number start end there None e = All-nil (IsHandedOn frames x)
handed-reached frames x number start end there (Some f) e =
    let found = All-find (Contains frames) (λ g. g.number == number) frames f (All-contains_itself frames) e in
    All-cons (IsHandedOn frames x) (record { frame = f; moment = moment_of x.input.rate end }) []
    (record {
      frame = found.0;
      start = start;
      end = end;
      fate = subst (λ (n : ℕ). Contains x.fates (n, Departed start end)) (sym (eqb-true f.number number found.1)) there;
      sent = refl;
    })
    (All-nil (IsHandedOn frames x))

handed-fate : (frames : List Frame) (x : PortFlow) (number : ℕ) (fate : Fate) → Contains x.fates (number, fate)
    → All (IsHandedOn frames x) (handed_on frames x.input.rate number fate)
handed-fate frames x number Unbooked there = All-nil (IsHandedOn frames x)
handed-fate frames x number NoVlan there = All-nil (IsHandedOn frames x)
handed-fate frames x number Left there = All-nil (IsHandedOn frames x)
handed-fate frames x number (Departed start end) there = handed-reached frames x number start end there (frame_of frames number) refl

handed-each : (frames : List Frame) (x : PortFlow) → All (IsHandedOn frames x) (handed_by frames (Some x))
handed-each frames x =
    All-flat_map (Contains x.fates) (IsHandedOn frames x) (λ e. handed_on frames x.input.rate e.0 e.1)
    (λ e there. handed-fate frames x e.0 e.1 there) x.fates (All-contains_itself x.fates)

-- one of the frames that is at a port's node at a moment, from its station or over another port
abbrev IsFrom : Setting → List PortFlow → EgressPort → Reached → Type 0
IsFrom s flows p r = Contains s.frames r.frame × (IsSentThere p r.frame r.moment ⊎ ComesOver s flows p r.frame r.moment)

from-own : (s : Setting) (flows : List PortFlow) (p : EgressPort) → All (IsFrom s flows p) (sent_from s.frames p.node.0)
from-own s flows p =
    let test : Frame → Bool = λ f. f.from.0 == p.node.0 in
    let own = filter test s.frames in
    All-map (IsFrom s flows p) (λ f. record { frame = f; moment = f.at.0 }) own
    (λ k d below. (
      All-filter test (Contains s.frames) s.frames (All-contains_itself s.frames) k d below,
      inl (record { from = eqb-true (get_or own k d).from.0 p.node.0 (filter_passes test s.frames k d below); sent = refl }),
    ))

from-handed : (s : Setting) (flows : List PortFlow) (p r : EgressPort) → IsPortOf s.tree p.node.0 r → is_port r p ≡ false → (o : Option PortFlow)
    → flow_at flows (peer_of s.tree.links r) ≡ o → All (IsFrom s flows p) (handed_by s.frames o)
from-handed s flows p r there other None e = All-nil (IsFrom s flows p)
from-handed s flows p r there other (Some x) e =
    All-weaker (IsHandedOn s.frames x) (IsFrom s flows p)
    (λ t h. (
      h.frame,
      inr (record {
        via = r;
        port = there.0;
        node = there.1;
        other = other;
        flow = x;
        there = e;
        start = h.start;
        end = h.end;
        fate = h.fate;
        sent = h.sent;
      }),
    ))
    (handed_by s.frames (Some x)) (handed-each s.frames x)

from-over : (s : Setting) (flows : List PortFlow) (p r : EgressPort) → IsPortOf s.tree p.node.0 r → All (IsFrom s flows p) (comes_over s.tree.links s.frames flows p r)
from-over s flows p r there =
    let F : Reached → Type 0 = IsFrom s flows p in
    cond_both (is_port r p) [] (handed_by s.frames (flow_at flows (peer_of s.tree.links r))) (λ t. All F t)
    (λ e. All-nil F) (λ e. from-handed s flows p r there e (flow_at flows (peer_of s.tree.links r)) refl)

from-each : (s : Setting) (flows : List PortFlow) (p : EgressPort) → HasPort s.tree p → All (IsFrom s flows p) (frames_reaching s.tree.links s.frames flows p)
from-each s flows p port =
    let links = s.tree.links in
    let F : Reached → Type 0 = IsFrom s flows p in
    All-append F (sent_from s.frames p.node.0) (flat_map (comes_over links s.frames flows p) (ports_at links p.node.0))
    (from-own s flows p)
    (All-flat_map (IsPortOf s.tree p.node.0) F (comes_over links s.frames flows p) (λ r there. from-over s flows p r there) (ports_at links p.node.0)
    (ports-are s.tree p.node.0 port.0))

-- ---- where a copy comes from

source-copy : (s : Setting) (flows : List PortFlow) (place : Place) (r : Reached) (c : FrameCopy) → IsFrom s flows place.at r → copy_of s.tree.links s.ticks place r ≡ Some c
    → HasSource s flows place c
source-copy s flows place r c from e =
    let bit = bit_from place.rate r.moment in
    let made : FrameCopy = record { bit = bit; frame = r.frame } in
    let goes = goes_by s.tree.links place.at r.frame.route in
    let early = nat_lt bit (bits_of_ticks place.rate s.ticks) in
    elim (cases_Bool (goes && early)) [
      | inl is ↦ (
          let same : Some made ≡ Some c = sym (cond-true (goes && early) (Some made) None is) ∙ e in
          let one : made ≡ c = cc in
          let parts = and_parts goes early is in
          let here : HasSource s flows place made = record {
            frame = from.0;
            goes = parts.0;
            moment = r.moment;
            bit = refl;
            early = ltb-true bit (bits_of_ticks place.rate s.ticks) parts.1;
            source = from.1;
          } in
          subst (λ (t : FrameCopy). HasSource s flows place t) one here)
      | inr nay ↦ (
          let none : None ≡ Some c = sym (cond-false (goes && early) (Some made) None nay) ∙ e in
          absurd (let nothing : None ≡ Some c = none in cc))
    ]

pub sources : (s : Setting) (flows : List PortFlow) (place : Place) → HasPort s.tree place.at → All (HasSource s flows place) (arriving s.tree.links s.frames s.ticks flows place)
unfolding arriving
sources s flows place port =
    let links = s.tree.links in
    let all = frames_reaching links s.frames flows place.at in
    All-in_order (HasSource s flows place) (filter_map (copy_of links s.ticks place) all)
    (All-filter_map (IsFrom s flows place.at) (HasSource s flows place) (copy_of links s.ticks place)
    (λ r c from e. source-copy s flows place r c from e) all (from-each s flows place.at port))

-- ---- the flow at a port

pub flow-of : (s : Setting) (flows : List PortFlow) → IsFlow s flows → (p : EgressPort) (x : PortFlow) → flow_at flows p ≡ Some x → IsFlowOf s flows p x
flow-of s flows is p x e =
    let places = all_places s.tree.links s.rates in
    let P : PortFlow → Type 0 = λ y. (place : Place) × Contains places place × (y ≡ port_flow s flows place) in
    let there = All-contains_itself places in
    let all : All P (map (port_flow s flows) places) = All-map P (port_flow s flows) places (λ k d below. (get_or places k d, there k d below, refl)) in
    let found = All-find P (λ y. is_port y.at p) flows x (subst (λ (t : List PortFlow). All P t) (sym is.each) all) e in
    record {
      place = found.0.0;
      listed = found.0.1;
      at = sym (ap (λ (y : PortFlow). y.at) found.0.2) ∙ same-port x.at p found.1;
      flow = found.0.2;
    }

-- ---- what departs

-- a fate of one who departed was that of a departure
departed-found : (unbooked has : Bool) (o : Option Departure) (start end : ℕ)
    → (if unbooked then Unbooked else if has then sent_fate o else NoVlan) ≡ Departed start end
    → (d : Departure) × (o ≡ Some d) × (d.start ≡ start) × (d.end ≡ end)
departed-found true has o start end e = absurd (let nay : Unbooked ≡ Departed start end = e in cc)
departed-found false false o start end e = absurd (let nay : NoVlan ≡ Departed start end = e in cc)
departed-found false true None start end e = absurd (let nay : Left ≡ Departed start end = e in cc)
departed-found false true (Some d) start end e =
    let same : Departed d.start d.end ≡ Departed start end = e in (d, refl, cc, cc)

-- an arrival is that of a copy that may be sent
abbrev IsSendable : List FrameCopy → (FrameCopy → Bool) → Arrival → Type 0
IsSendable copies may x = (c : FrameCopy) × Contains copies c × (may c ≡ true) × (x ≡ arrival_of c)

sendable : (copies : List FrameCopy) (may : FrameCopy → Bool) → All (IsSendable copies may) (map arrival_of (filter may copies))
sendable copies may =
    let some = filter may copies in
    All-map (IsSendable copies may) arrival_of some
    (λ k d below. (
      get_or some k d,
      All-filter may (Contains copies) copies (All-contains_itself copies) k d below,
      filter_passes may copies k d below,
      refl,
    ))

pub departed : (s : Setting) → IsSetting s
    → ((input : PortInput) (traffic : Traffic) → IsPortInput input
    → DepartInOrder (filter (is_of traffic) input.arrivals) (filter (departs_as traffic) (sent_of input)) (filter (is_of traffic) (left_of input)))
    → (flows : List PortFlow) (place : Place) → Contains (all_places s.tree.links s.rates) place
    → (number start end : ℕ) → Contains (port_flow s flows place).fates (number, Departed start end) → IsOfCopy s flows place number start end
departed s given order flows place there number start end fate =
    let copies = arriving s.tree.links s.frames s.ticks flows place in
    let changes = changes_at s.changes place.at in
    let input = port_input s.ticks place.rate changes copies in
    let sent = sent_of input in
    let may : FrameCopy → Bool = λ c. may_send c (force_on place.rate changes c) in
    let valid = port-input s given flows place there changes copies refl refl in
    let of = sent-of (IsSendable copies may) input.arrivals sent (λ t. filter (is_of t) (left_of input)) (sendable copies may) (λ t. order input t valid) in
    let to : FrameCopy → ℕ × Fate = λ c. (c.frame.number, fate_of (force_on place.rate changes c) sent c) in
    let F : ℕ × Fate → Type 0 = λ e. (a b : ℕ) → e.1 ≡ Departed a b → IsOfCopy s flows place e.0 a b in
    let each : All F (map to copies) = All-map F to copies
    (λ k d below a b e.
    let c = get_or copies k d in
    let n = c.frame.number in
    let force = force_on place.rate changes c in
    let found = departed-found (is_unbooked c.frame.route force) (has_vid c.frame.vid force) (find (λ y. y.frame == n) sent) a b e in
    let x = All-find (IsOfSome (IsSendable copies may)) (λ y. y.frame == n) sent found.0 of found.1 in
    let one = x.0.0 in
    let by = x.0.1 in
    let is = x.0.2 in
    let arrival : one ≡ arrival_of by.0 = by.3 in
    record {
      copy = by.0;
      there = by.1;
      numbered = ap (λ (y : Arrival). y.frame) (sym arrival) ∙ sym is.frame ∙ eqb-true found.0.frame n x.1;
      sent = by.2;
      after = omega (arith, is.after, found.2, ap (λ (y : Arrival). y.bit) arrival);
      bits = omega (arith, is.end, found.2, found.3, ap (λ (y : Arrival). y.bits) arrival);
    }) in
    All-contains F (map to copies) (number, Departed start end) each fate start end refl

-- In a steady run a stream is booked wherever one of its copies arrives at a port where it is fed.
use Rattle.std.proofs.Common.{◌≡◌, ℕ, ◌*◌, ◌≤◌, ◌⊎◌, inl, inr, Bool, true, false, cond, List, Option, Some, None, refl, sym, ◌∙◌, ap, subst, arith}
use Rattle.std.specs.Prelude.{Contains, find, not, ◌==◌}
use Rattle.std.proofs.lemmas.{Bool.cases_Bool, Bool.cond-true, Bool.cond-false, Bool.eqb-true, Bool.and_parts, List.Elements.All-contains}
use Rattle.srp_base.specs.declared.{numbers.EgressPort.EgressPort, numbers.StreamId.StreamId, bandwidth.Rate.Rate, ports.PortChange.PortChange}
use Rattle.credit_shaper.specs.declared.{shaper.Traffic.Traffic, port.Departure.Departure}
use Rattle.credit_shaper.specs.Departures.{sent_of}
use Rattle.tree_topology.specs.{Topology.HasNode, Topology.HasPort, Ports.peer_of}
use Rattle.frame_flow.specs.declared.{frame.Frame.Frame, frame.FrameCopy.FrameCopy, frame.Route.Route, frame.Route.TheVariants.Stream, frame.Route.TheVariants.To, result.Fate.Fate, result.PortFlow.PortFlow}
use Rattle.frame_flow.specs.declared.result.Fate.TheVariants.{Unbooked, NoVlan, Departed, Left}
use Rattle.frame_flow.specs.{Moments.bit_from, Moments.moment_of, Moments.tick_at, Force.is_port, Force.changes_at, Force.has_booked, Force.has_vid, Flow.Setting, Flow.force_on, Flow.is_unbooked, Flow.sent_fate, Flow.fate_of, Origins.HasSource}
use Rattle.frame_flow.proofs.{ForceLemmas.begun, ForceLemmas.not-begun, OriginLemmas.along, OriginLemmas.sources}
use Rattle.delay_flow.specs.{ClassStream, is_in_class, is_route_of, is_frame_of, place_at, copies_at, sendable_at, input_at, IsSteady, is_fed, AreBookedAt}
use Rattle.delay_flow.proofs.Places.{Network, FromStation, FromBefore, bit-after, moments-up, bits-since, one-frame, from-before, origin}
use Rattle.delay_flow.proofs.Sums.{contains-unmap}
use Rattle.delay_flow.proofs.WayLemmas.{booked-fed}
use Rattle.delay_flow.proofs.Ports.{all-from}

-- ---- a copy is there no earlier than its frame is sent

abbrev IsTimelyAt : Setting → List PortFlow → (EgressPort → Rate) → EgressPort → Type 0
IsTimelyAt s flows rate p =
    (c : FrameCopy) → Contains (sendable_at s flows rate p) c → c.frame.at.0 ≤ moment_of (rate p) c.bit

came : (s : Setting) (flows : List PortFlow) (rate : EgressPort → Rate) (p : EgressPort) (c : FrameCopy)
    → ((r : EgressPort) → HasPort s.tree r → r.node.0 ≡ p.node.0 → is_port r p ≡ false → IsTimelyAt s flows rate (peer_of s.tree.links r))
    → FromStation rate p c ⊎ ((via : EgressPort) × FromBefore s flows rate p c via) → c.frame.at.0 ≤ moment_of (rate p) c.bit
came s flows rate p c before (inl own) =
    let m : ℕ → ℕ = λ b. moment_of (rate p) b in
    omega (arith, bit-after (rate p) c.frame.at.0, ap m own.bit)
came s flows rate p c before (inr (via, b)) =
    let q = peer_of s.tree.links via in
    let m : ℕ → ℕ = λ t. moment_of (rate p) t in
    let old = before via b.before.port b.before.node b.before.other b.copy b.there in
    let up = moments-up (rate q) b.copy.bit b.end (omega (arith, b.after, b.bits)) in
    let at : b.copy.frame.at.0 ≡ c.frame.at.0 = ap (λ (f : Frame). f.at.0) b.same in
    omega (arith, old, up, at, bit-after (rate p) (moment_of (rate q) b.end), ap m b.bit)

timely : (s : Setting) (flows : List PortFlow) (rate : EgressPort → Rate) → Network s flows rate → (p : EgressPort) → HasPort s.tree p → IsTimelyAt s flows rate p
timely s flows rate net p port =
    along s.tree net.laws (λ q. IsTimelyAt s flows rate q)
    (λ q there before c has. came s flows rate q c before (origin s flows rate net q there c has).1) p port

-- also one that may not be sent
source-there : (s : Setting) (flows : List PortFlow) (rate : EgressPort → Rate) → Network s flows rate → (p : EgressPort) → HasPort s.tree p → (c : FrameCopy)
    → Contains (copies_at s flows rate p) c → HasSource s flows (place_at rate p) c
source-there s flows rate net p port c here =
    All-contains (HasSource s flows (place_at rate p)) (copies_at s flows rate p) c (sources s flows (place_at rate p) port) here

timely-there : (s : Setting) (flows : List PortFlow) (rate : EgressPort → Rate) → Network s flows rate → (p : EgressPort) → HasPort s.tree p → (c : FrameCopy)
    → HasSource s flows (place_at rate p) c → c.frame.at.0 ≤ moment_of (rate p) c.bit
timely-there s flows rate net p port c source =
    came s flows rate p c (λ r there node other. timely s flows rate net (peer_of s.tree.links r) (net.laws.peer_port r there))
    (elim source.source [
      | inl own ↦ inl (record { from = own.from; bit = source.bit ∙ ap (λ (m : ℕ). bit_from (rate p) m) own.sent })
      | inr over ↦ inr (over.via, from-before s flows rate net p c source.moment source.frame source.bit over)
    ])

-- ---- its stream is booked as it arrives

routed : (route : Route) (id : StreamId) (force : Option PortChange) → is_route_of id route ≡ true → has_booked id force ≡ true → is_unbooked route force ≡ false
routed (Stream stream traffic) id force is booked =
    let to : ℕ → StreamId = λ v. record { 0 = v } in
    let same : stream ≡ id = ap to (eqb-true stream.0 id.0 is) in
    ap (λ (t : StreamId). not (has_booked t force)) same ∙ ap (λ (b : Bool). not b) booked
routed (To station) id force is booked = refl

booked-there : (s : Setting) (flows : List PortFlow) (rate : EgressPort → Rate) (traffic : Traffic) (tick : ℕ) → Network s flows rate → IsSteady s traffic tick → (x : ClassStream) (p : EgressPort)
    → HasPort s.tree p → HasNode s.tree x.talker.0 → is_fed s p x ≡ true → (c : FrameCopy) → Contains (copies_at s flows rate p) c → is_frame_of traffic x c.frame ≡ true
    → is_unbooked c.frame.route (force_on (rate p) (changes_at s.changes p) c) ≡ false
booked-there s flows rate traffic tick net steady x p port node fed c here is =
    let source = source-there s flows rate net p port c here in
    let parts = and_parts (is_in_class traffic c.frame) (is_route_of x.id c.frame.route) is in
    let late = All-contains (λ (f : Frame). is_in_class traffic f ≡ true → tick * 10000000000 ≤ f.at.0) s.frames c.frame steady.frames source.frame parts.0 in
    let since = bits-since (rate p) tick c.bit (omega (arith, late, timely-there s flows rate net p port c source)) in
    let ge = begun (rate p) tick c.bit since in
    let lt = not-begun (rate p) s.ticks c.bit source.early in
    routed c.frame.route x.id (force_on (rate p) (changes_at s.changes p) c) parts.1
    ((steady.same p (tick_at (rate p) c.bit) port ge lt).booked x.id ∙ booked-fed s net.laws p x port node fed)

-- ---- and so its fate is another

sent-booked : (o : Option Departure) → sent_fate o ≡ Unbooked → ⊥
sent-booked None e = (let no : Left ≡ Unbooked = e in cc)
sent-booked (Some d) e = (let no : Departed d.start d.end ≡ Unbooked = e in cc)

fate-booked : (force : Option PortChange) (sent : List Departure) (c : FrameCopy) → is_unbooked c.frame.route force ≡ false → fate_of force sent c ≡ Unbooked → ⊥
fate-booked force sent c un e =
    let o = find (λ d. d.frame == c.frame.number) sent in
    let vid = has_vid c.frame.vid force in
    let rest : Fate = cond vid (sent_fate o) NoVlan in
    let is : rest ≡ Unbooked = sym (cond-false (is_unbooked c.frame.route force) Unbooked rest un) ∙ e in
    elim (cases_Bool vid) [
      | inl has ↦ sent-booked o (sym (cond-true vid (sent_fate o) NoVlan has) ∙ is)
      | inr none ↦ (let no : NoVlan ≡ Unbooked = sym (cond-false vid (sent_fate o) NoVlan none) ∙ is in cc)
    ]

pub are-booked : (s : Setting) (flows : List PortFlow) (rate : EgressPort → Rate) (traffic : Traffic) (tick : ℕ) → Network s flows rate → IsSteady s traffic tick → (p : EgressPort)
    (x : ClassStream) → HasPort s.tree p → HasNode s.tree x.talker.0 → is_fed s p x ≡ true → AreBookedAt s flows rate traffic p x
are-booked s flows rate traffic tick net steady p x port node fed =
    let copies = copies_at s flows rate p in
    let booked = booked-there s flows rate traffic tick net steady x p port node fed in
    let changes = changes_at s.changes p in
    let sent = sent_of (input_at s flows rate p) in
    let fate : FrameCopy → ℕ × Fate = λ c. (c.frame.number, fate_of (force_on (rate p) changes c) sent c) in
    record {
      copies = all-from (λ c. is_frame_of traffic x c.frame ≡ true → is_unbooked c.frame.route (force_on (rate p) changes c) ≡ false) copies booked;
      fates = λ f known is has.
          let of = contains-unmap fate copies (f.number, Unbooked) has in
          let c = of.0 in
          let number : c.frame.number ≡ f.number = ap (λ (e : ℕ × Fate). e.0) of.2 in
          let same = one-frame s net.given c.frame f (source-there s flows rate net p port c of.1).frame known number in
          fate-booked (force_on (rate p) changes c) sent c (booked c of.1 (subst (λ (g : Frame). is_frame_of traffic x g ≡ true) (sym same) is))
          (ap (λ (e : ℕ × Fate). e.1) of.2);
    }

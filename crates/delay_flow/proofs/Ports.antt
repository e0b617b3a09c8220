-- What holds at a port, by what holds at each port that sends into its node.
use Rattle.std.proofs.Common.{◌≡◌, ◌≢◌, ℕ, ◌+◌, ◌*◌, ◌<◌, ◌≤◌, inl, inr, true, false, List, get_or, Option, Some, None, sym, ◌∙◌, ap, subst, arith}
use Rattle.std.specs.Prelude.{All, AllPairs, Contains, filter, not}
use Rattle.std.proofs.Math.Nat.{mul-add}
use Rattle.std.proofs.lemmas.{Bool.cases_Bool, Bool.eqb-true, Bool.and_parts, Bool.false≢true, List.Elements.All-contains, List.Elements.All-contains_itself, List.Elements.All-filter, List.Elements.filter_passes, List.Elements.Contains-get_or}
use Rattle.srp_base.proofs.Bools.{not-true-false, held_from}
use Rattle.srp_base.specs.declared.{numbers.EgressPort.EgressPort, numbers.StreamId.StreamId, bandwidth.Rate.Rate, bandwidth.Rate.TheVariants.M100, bandwidth.Rate.TheVariants.G1, bandwidth.Rate.TheVariants.G10, ports.PortChange.PortChange}
use Rattle.std.specs.List.{list_any}
use Rattle.srp_base.specs.Bandwidth.{bits_of, bit_ps_of}
use Rattle.credit_shaper.specs.declared.{shaper.Traffic.Traffic, port.Arrival.Arrival, port.PortInput.PortInput}
use Rattle.credit_shaper.specs.{Port.IsPortInput, Bounds.is_on_line, Departures.sent_of, Departures.is_sending}
use Rattle.class_service.specs.{Class.IsClass, Service.IsFresh, Service.TakesNoMore, Range.IsSince, Range.low_of, Range.high_of, Owed.HasNoneBefore, Owed.HasPlace, Owed.HasOneSlope, Owed.StartsInTime}
use Rattle.tree_topology.specs.{Topology.HasNode, Topology.HasPort, Ports.peer_of, Walk.is_behind}
use Rattle.frame_flow.specs.declared.{frame.Frame.Frame, frame.FrameCopy.FrameCopy, frame.Route.Route, frame.Route.TheVariants.Stream, frame.Route.TheVariants.To, result.PortFlow.PortFlow}
use Rattle.frame_flow.specs.{Moments.bits_of_ticks, Moments.tick_at, Moments.bit_from, Moments.moment_of, Force.is_port, Force.changes_at, Force.has_booked, Flow.Setting, Flow.is_unbooked, Force.has_vid, Flow.force_on}
use Rattle.delay_bound.specs.{Bounds.second, Windows.IsBoundBy, Windows.ComesFrom}
use Rattle.delay_bound.proofs.WindowLemmas.{bound_on}
use Rattle.delay_flow.specs.{ClassStream, is_in_class, is_route_of, is_frame_of, IsSentBy, AreStreams, sendable_at, copy_in, moment_in, there_at, is_booked, IsSteady, Numbers, IsBefore, KeepRules, GoesInTime, HoldsAt}
use Rattle.frame_flow.proofs.{LevelLemmas.same-port, ForceLemmas.begun, ForceLemmas.not-begun}
use Rattle.delay_flow.proofs.Places.{Network, FromBefore, bit-after, bit-soon, moments-up, bits-since, copy-there, differ-there, found-copy, at-copy, origin, aside-there, frame-is, early-there}

-- ---- the premises

-- the laws of a port's shaper that are asked for
pub record ShaperLaws : Type 0 where
  pub fresh : (input : PortInput) (traffic : Traffic) (from : ℕ) → IsPortInput input → IsClass traffic
      → HasNoneBefore traffic from input.arrivals → IsFresh input traffic from
  pub start : (input : PortInput) (front behind : List Arrival) (x : Arrival) (slope slope_a from : ℕ)
      → IsPortInput input → HasPlace input front x behind → IsClass x.traffic
      → IsFresh input x.traffic from → from ≤ x.bit
      → HasOneSlope input x.traffic slope slope_a from input.end
      → StartsInTime input front x slope slope_a from
  pub in_time : (input : PortInput) → All (λ d. d.start < input.end) (sent_of input)
  pub apart : (input : PortInput) → IsPortInput input → AllPairs (λ d e. d.end ≤ e.start) (sent_of input)
  pub line : (input : PortInput) (traffic : Traffic) (t : ℕ) → IsPortInput input → t < input.end
      → is_on_line input traffic t ≡ list_any (is_sending traffic t) (sent_of input)
  pub takes : (input : PortInput) (traffic : Traffic) (least longest most_a most_b from to a b : ℕ)
      → IsPortInput input → IsClass traffic
      → IsSince input traffic least longest most_a most_b from to → from ≤ a → a ≤ b → b ≤ to
      → TakesNoMore input traffic (low_of (bits_of input.rate) least longest)
      (high_of (bits_of input.rate) most_a most_b traffic) a b

pub record Premises (s : Setting) (flows : List PortFlow) (traffic : Traffic) (streams : List ClassStream) (n : Numbers) (tick : ℕ) : Type 0 where
  pub net : Network s flows n.rate
  pub class : IsClass traffic
  pub steady : IsSteady s traffic tick
  pub are : AreStreams s traffic streams
  pub rules : KeepRules s traffic streams n
  pub laws : ShaperLaws

-- ---- of each stream's copies

pub all-from : {X : Type 0} (P : X → Type 0) (xs : List X) → ((x : X) → Contains xs x → P x) → All P xs
all-from P xs each k d below = each (get_or xs k d) (Contains-get_or xs k d below)

abbrev pub OfCopies : (traffic : Traffic) → (ClassStream → FrameCopy → Type 0) → List ClassStream → List FrameCopy → Type 0
OfCopies traffic P streams cs =
    (x : ClassStream) (c : FrameCopy) → Contains streams x → Contains cs c → is_frame_of traffic x c.frame ≡ true → P x c

pub all-of : (traffic : Traffic) (P : ClassStream → FrameCopy → Type 0) (streams : List ClassStream) (cs : List FrameCopy) → OfCopies traffic P streams cs
    → All (λ x. All (λ c. is_frame_of traffic x c.frame ≡ true → P x c) cs) streams
all-of traffic P streams cs each =
    all-from (λ x. All (λ c. is_frame_of traffic x c.frame ≡ true → P x c) cs) streams
    (λ x has. all-from (λ c. is_frame_of traffic x c.frame ≡ true → P x c) cs (λ c there is. each x c has there is))

pub of-all : (traffic : Traffic) (P : ClassStream → FrameCopy → Type 0) (streams : List ClassStream) (cs : List FrameCopy)
    → All (λ x. All (λ c. is_frame_of traffic x c.frame ≡ true → P x c) cs) streams → OfCopies traffic P streams cs
of-all traffic P streams cs all x c has there is =
    All-contains (λ (d : FrameCopy). is_frame_of traffic x d.frame ≡ true → P x d) cs c
    (All-contains (λ (y : ClassStream). All (λ d. is_frame_of traffic y d.frame ≡ true → P y d) cs) streams x all has) there is

pub sent-by : (s : Setting) (traffic : Traffic) (streams : List ClassStream) → AreStreams s traffic streams → (x : ClassStream) (f : Frame)
    → Contains streams x → Contains s.frames f → is_frame_of traffic x f ≡ true → IsSentBy x f
sent-by s traffic streams are x f has there is =
    All-contains (λ (g : Frame). is_frame_of traffic x g ≡ true → IsSentBy x g) s.frames f
    (All-contains (λ (y : ClassStream). All (λ g. is_frame_of traffic y g ≡ true → IsSentBy y g) s.frames) streams x are.sent has) there is

-- what is known of the ports that send into a port's node
abbrev pub HoldBefore : Setting → List PortFlow → Traffic → List ClassStream → Numbers → EgressPort → Type 0
HoldBefore s flows traffic streams n p =
    (r : EgressPort) → HasPort s.tree r → r.node.0 ≡ p.node.0 → is_port r p ≡ false → HoldsAt s flows traffic streams n (peer_of s.tree.links r)

-- ---- a copy is there no earlier than its frame is sent

abbrev pub IsTimely : (EgressPort → Rate) → EgressPort → ClassStream → FrameCopy → Type 0
IsTimely rate p x c = c.frame.at.0 ≤ moment_of (rate p) c.bit

pub since-there : (s : Setting) (flows : List PortFlow) (traffic : Traffic) (streams : List ClassStream) (n : Numbers) (tick : ℕ) → Premises s flows traffic streams n tick
    → (p : EgressPort) → HasPort s.tree p → HoldBefore s flows traffic streams n p → OfCopies traffic (IsTimely n.rate p) streams (sendable_at s flows n.rate p)
since-there s flows traffic streams n tick prem p port before x c has there is =
    let m : ℕ → ℕ = λ b. moment_of (n.rate p) b in
    elim (origin s flows n.rate prem.net p port c there).1 [
      | inl own ↦ omega (arith, bit-after (n.rate p) c.frame.at.0, ap m own.bit)
      | inr (via, b) ↦ (
          let q = peer_of s.tree.links via in
          let hold = before via b.before.port b.before.node b.before.other in
          let is_there = subst (λ (f : Frame). is_frame_of traffic x f ≡ true) (sym b.same) is in
          let old = of-all traffic (IsTimely n.rate q) streams (sendable_at s flows n.rate q) hold.since x b.copy has b.there is_there in
          let up = moments-up (n.rate q) b.copy.bit b.end (omega (arith, b.after, b.bits)) in
          let at : b.copy.frame.at.0 ≡ c.frame.at.0 = ap (λ (f : Frame). f.at.0) b.same in
          omega (arith, old, up, at, bit-after (n.rate p) (moment_of (n.rate q) b.end), ap m b.bit))
    ]

-- ---- its stream is fed there

booked-route : (route : Route) (id : StreamId) (force : Option PortChange) → is_route_of id route ≡ true → is_unbooked route force ≡ false → has_booked id force ≡ true
booked-route (Stream stream traffic) id force is un =
    let to : ℕ → StreamId = λ v. record { 0 = v } in
    let same : stream ≡ id = ap to (eqb-true stream.0 id.0 is) in
    subst (λ (t : StreamId). has_booked t force ≡ true) same (not-true-false (has_booked stream force) un)
booked-route (To station) id force is un = absurd (false≢true is)

-- the tick of a copy is one of the steady ones
pub steady-tick : (s : Setting) (flows : List PortFlow) (traffic : Traffic) (streams : List ClassStream) (n : Numbers) (tick : ℕ) → Premises s flows traffic streams n tick
    → (p : EgressPort) → HasPort s.tree p → HoldBefore s flows traffic streams n p → OfCopies traffic (λ x c. bits_of_ticks (n.rate p) tick ≤ c.bit) streams (sendable_at s flows n.rate p)
steady-tick s flows traffic streams n tick prem p port before x c has there is =
    let frame = (origin s flows n.rate prem.net p port c there).0 in
    let class = (and_parts (is_in_class traffic c.frame) (is_route_of x.id c.frame.route) is).0 in
    let late = All-contains (λ (f : Frame). is_in_class traffic f ≡ true → tick * 10000000000 ≤ f.at.0) s.frames c.frame prem.steady.frames frame class in
    bits-since (n.rate p) tick c.bit (omega (arith, late, since-there s flows traffic streams n tick prem p port before x c has there is))

pub fed-there : (s : Setting) (flows : List PortFlow) (traffic : Traffic) (streams : List ClassStream) (n : Numbers) (tick : ℕ) → Premises s flows traffic streams n tick
    → (p : EgressPort) → HasPort s.tree p → HoldBefore s flows traffic streams n p → OfCopies traffic (λ x c. n.fed p x ≡ true) streams (sendable_at s flows n.rate p)
fed-there s flows traffic streams n tick prem p port before x c has there is =
    let from = origin s flows n.rate prem.net p port c there in
    let force = force_on (n.rate p) (changes_at s.changes p) c in
    let sends = (copy-there s flows n.rate p c there).1 in
    let unbooked = held_from (is_unbooked c.frame.route force) (and_parts (not (is_unbooked c.frame.route force)) (has_vid c.frame.vid force) sends).0 in
    let route = (and_parts (is_in_class traffic c.frame) (is_route_of x.id c.frame.route) is).1 in
    let ge = begun (n.rate p) tick c.bit (steady-tick s flows traffic streams n tick prem p port before x c has there is) in
    let lt = not-begun (n.rate p) s.ticks c.bit (early-there s flows n.rate p port c there) in
    let same = (prem.steady.same p (tick_at (n.rate p) c.bit) port ge lt).booked x.id in
    let booked : is_booked s p x.id ≡ true = sym same ∙ booked-route c.frame.route x.id force route unbooked in
    let by = sent-by s traffic streams prem.are x c.frame has from.0 is in
    elim from.1 [
      | inl own ↦ (prem.rules.at p port).fed_first x has booked (sym by.from ∙ own.from)
      | inr (via, b) ↦ (
          let q = peer_of s.tree.links via in
          let hold = before via b.before.port b.before.node b.before.other in
          let is_there = subst (λ (f : Frame). is_frame_of traffic x f ≡ true) (sym b.same) is in
          (prem.rules.at p port).fed_on via x b.before has booked
          (of-all traffic (λ y d. n.fed q y ≡ true) streams (sendable_at s flows n.rate q) hold.fed x b.copy has b.there is_there))
    ]

-- ---- what it brings

comes-none : (least gap : ℕ) (a : Option ℕ) → ComesFrom least gap a None
comes-none least gap None = tt
comes-none least gap (Some a) = tt

-- a frame that departs at one port is at the next after its bits at least, and its wait and a bit
-- time more at most
comes-on : (rq rp : Rate) (bit end least wait there : ℕ) → bit + least ≤ end → end ≤ bit + (wait + least) → there ≡ bit_from rp (moment_of rq end)
    → (moment_of rq bit + least * bit_ps_of rq ≤ moment_of rp there)
    × (moment_of rp there ≤ moment_of rq bit + least * bit_ps_of rq + (wait * bit_ps_of rq + bit_ps_of rp))
comes-on M100 rp bit end least wait there low high is =
    let m : moment_of rp there ≡ moment_of rp (bit_from rp (moment_of M100 end)) = ap (λ (b : ℕ). moment_of rp b) is in
    (omega (arith, low, m, bit-after rp (moment_of M100 end)), omega (arith, high, m, bit-soon rp (moment_of M100 end)))
comes-on G1 rp bit end least wait there low high is =
    let m : moment_of rp there ≡ moment_of rp (bit_from rp (moment_of G1 end)) = ap (λ (b : ℕ). moment_of rp b) is in
    (omega (arith, low, m, bit-after rp (moment_of G1 end)), omega (arith, high, m, bit-soon rp (moment_of G1 end)))
comes-on G10 rp bit end least wait there low high is =
    let m : moment_of rp there ≡ moment_of rp (bit_from rp (moment_of G10 end)) = ap (λ (b : ℕ). moment_of rp b) is in
    (omega (arith, low, m, bit-after rp (moment_of G10 end)), omega (arith, high, m, bit-soon rp (moment_of G10 end)))

bits : Frame → ℕ
bits f = f.bits

abbrev pub IsKept : Setting → List PortFlow → Traffic → Numbers → EgressPort → ClassStream → Type 0
IsKept s flows traffic n p x =
    IsBoundBy (λ f. f.bits) (there_at s flows n.rate p) (x.limits.burst * second + x.limits.slope * n.late p x) x.limits.slope (filter (is_frame_of traffic x) s.frames)

-- none of a stream's frames is there, or each that is was sent not long before
kept-from_file : (s : Setting) (flows : List PortFlow) (traffic : Traffic) (streams : List ClassStream) (n : Numbers) (tick : ℕ) → Premises s flows traffic streams n tick
    → (p : EgressPort) → HasPort s.tree p → (x : ClassStream) → Contains streams x
    → ((c : FrameCopy) → Contains (sendable_at s flows n.rate p) c → is_frame_of traffic x c.frame ≡ true
    → (c.frame.at.0 ≤ moment_of (n.rate p) c.bit) × (moment_of (n.rate p) c.bit ≤ c.frame.at.0 + n.late p x))
    → IsKept s flows traffic n p x
kept-from_file s flows traffic streams n tick prem p port x has soon =
    let test = is_frame_of traffic x in
    let fs = filter test s.frames in
    let conform = All-contains
    (λ (y : ClassStream). IsBoundBy (λ f. f.bits) (λ f. Some f.at.0) (y.limits.burst * second) y.limits.slope (filter (is_frame_of traffic y) s.frames)) streams x
    prem.are.conform has in
    bound_on (λ f. f.bits) (λ f. Some f.at.0) (there_at s flows n.rate p) (x.limits.burst * second) x.limits.slope 0 (n.late p x) fs conform
    (λ k d below.
    let f = get_or fs k d in
    let known = All-filter test (Contains s.frames) s.frames (All-contains_itself s.frames) k d below in
    let is = filter_passes test s.frames k d below in
    at-copy s flows n.rate p f (λ o. ComesFrom 0 (n.late p x) (Some f.at.0) o) tt
    (λ c there number.
    let same = frame-is s flows n.rate prem.net p port c f there known number in
    let both = soon c there (subst (λ (g : Frame). test g ≡ true) (sym same) is) in
    let at : c.frame.at.0 ≡ f.at.0 = ap (λ (g : Frame). g.at.0) same in
    (omega (arith, both.0, at), omega (arith, both.1, at))))

-- what comes from the station itself
own-alone : (s : Setting) (flows : List PortFlow) (rate : EgressPort → Rate) → Network s flows rate → (p : EgressPort) → HasPort s.tree p → (c : FrameCopy) (via : EgressPort)
    → FromBefore s flows rate p c via → c.frame.from.0 ≢ p.node.0
own-alone s flows rate net p port c via b from =
    net.laws.own via b.before.port (subst (λ (y : ℕ). is_behind s.tree.links via y ≡ true) (from ∙ sym b.before.node) b.behind)

kept-first : (s : Setting) (flows : List PortFlow) (traffic : Traffic) (streams : List ClassStream) (n : Numbers) (tick : ℕ) → Premises s flows traffic streams n tick
    → (p : EgressPort) → HasPort s.tree p → (x : ClassStream) → Contains streams x → n.fed p x ≡ true → x.talker.0 ≡ p.node.0 → IsKept s flows traffic n p x
kept-first s flows traffic streams n tick prem p port x has fed own =
    kept-from_file s flows traffic streams n tick prem p port x has
    (λ c there is.
    let from = origin s flows n.rate prem.net p port c there in
    let by = sent-by s traffic streams prem.are x c.frame has from.0 is in
    elim from.1 [
      | inl st ↦ (
          let m : moment_of (n.rate p) c.bit ≡ moment_of (n.rate p) (bit_from (n.rate p) c.frame.at.0) = ap (λ (b : ℕ). moment_of (n.rate p) b) st.bit in
          let late = (prem.rules.at p port).late_first x has fed own in
          (omega (arith, m, bit-after (n.rate p) c.frame.at.0), omega (arith, m, bit-soon (n.rate p) c.frame.at.0, late)))
      | inr (via, b) ↦ absurd (own-alone s flows n.rate prem.net p port c via b (by.from ∙ own))
    ])

-- what can't be there
kept-nowhere : (s : Setting) (flows : List PortFlow) (traffic : Traffic) (streams : List ClassStream) (n : Numbers) (tick : ℕ) → Premises s flows traffic streams n tick
    → (p : EgressPort) → HasPort s.tree p → (x : ClassStream) → Contains streams x
    → ((c : FrameCopy) → Contains (sendable_at s flows n.rate p) c → is_frame_of traffic x c.frame ≡ true → ⊥) → IsKept s flows traffic n p x
kept-nowhere s flows traffic streams n tick prem p port x has none =
    kept-from_file s flows traffic streams n tick prem p port x has (λ c there is. absurd (none c there is))

-- a copy of a stream whose Talker lies behind a port came by that port
came-by : (s : Setting) (flows : List PortFlow) (traffic : Traffic) (streams : List ClassStream) (n : Numbers) (tick : ℕ) → Premises s flows traffic streams n tick
    → (p r : EgressPort) → HasPort s.tree p → IsBefore s p r → (x : ClassStream) → Contains streams x → is_behind s.tree.links r x.talker.0 ≡ true
    → (c : FrameCopy) → Contains (sendable_at s flows n.rate p) c → is_frame_of traffic x c.frame ≡ true → FromBefore s flows n.rate p c r
came-by s flows traffic streams n tick prem p r port other x has behind c there is =
    let links = s.tree.links in
    let from = origin s flows n.rate prem.net p port c there in
    let by = sent-by s traffic streams prem.are x c.frame has from.0 is in
    let back : is_behind links r c.frame.from.0 ≡ true = subst (λ (y : ℕ). is_behind links r y ≡ true) (sym by.from) behind in
    elim from.1 [
      | inl st ↦ absurd (prem.net.laws.own r other.port (subst (λ (y : ℕ). is_behind links r y ≡ true) (st.from ∙ sym other.node) back))
      | inr (via, b) ↦ (
          let same = prem.net.laws.one_port via r c.frame.from.0 b.before.port other.port (b.before.node ∙ sym other.node) b.behind back in
          subst (λ (t : EgressPort). FromBefore s flows n.rate p c t) same b)
    ]

kept-on : (s : Setting) (flows : List PortFlow) (traffic : Traffic) (streams : List ClassStream) (n : Numbers) (tick : ℕ) → Premises s flows traffic streams n tick
    → (p r : EgressPort) → HasPort s.tree p → IsBefore s p r → HoldsAt s flows traffic streams n (peer_of s.tree.links r) → (x : ClassStream) → Contains streams x
    → is_behind s.tree.links r x.talker.0 ≡ true → n.fed (peer_of s.tree.links r) x ≡ true → n.fed p x ≡ true → IsKept s flows traffic n p x
kept-on s flows traffic streams n tick prem p r port other hold x has behind fed fed_here =
    let q = peer_of s.tree.links r in
    let test = is_frame_of traffic x in
    let fs = filter test s.frames in
    let slope = x.limits.slope in
    let least = x.least * bit_ps_of (n.rate q) in
    let gap = n.wait q x * bit_ps_of (n.rate q) + bit_ps_of (n.rate p) in
    let old = All-contains (λ (y : ClassStream). n.fed q y ≡ true → IsKept s flows traffic n q y) streams x hold.kept has fed in
    let base : (x.limits.burst * second + slope * n.late q x) + slope * gap ≡ x.limits.burst * second + slope * n.late p x =
    (let late : n.late p x ≡ n.late q x + gap = (prem.rules.at p port).late_on r x other has fed_here behind ∙ omega arith in
    let apart : slope * n.late p x ≡ slope * n.late q x + slope * gap = ap (λ (k : ℕ). slope * k) late ∙ mul-add slope (n.late q x) gap in
    omega (arith, apart)) in
    subst (λ (k : ℕ). IsBoundBy (λ f. f.bits) (there_at s flows n.rate p) k slope fs) base
    (bound_on (λ f. f.bits) (there_at s flows n.rate q) (there_at s flows n.rate p) (x.limits.burst * second + slope * n.late q x) slope least gap fs old
    (λ k d below.
    let f = get_or fs k d in
    let known = All-filter test (Contains s.frames) s.frames (All-contains_itself s.frames) k d below in
    let is = filter_passes test s.frames k d below in
    at-copy s flows n.rate p f (λ o. ComesFrom least gap (there_at s flows n.rate q f) o) (comes-none least gap (there_at s flows n.rate q f))
    (λ c there number.
    let same = frame-is s flows n.rate prem.net p port c f there known number in
    let is_c = subst (λ (g : Frame). test g ≡ true) (sym same) is in
    let b = came-by s flows traffic streams n tick prem p r port other x has behind c there is_c in
    let is_b = subst (λ (g : Frame). test g ≡ true) (sym b.same) is_c in
    let by = sent-by s traffic streams prem.are x c.frame has (origin s flows n.rate prem.net p port c there).0 is_c in
    let goes = of-all traffic (GoesInTime s flows n q) streams (sendable_at s flows n.rate q) hold.in_time x b.copy has b.there is_b in
    let high = (goes.starts b.start b.end b.fate).1 in
    let own : b.copy.frame.bits ≡ c.frame.bits = ap (λ (g : Frame). g.bits) b.same in
    let low : b.copy.bit + x.least ≤ b.end = omega (arith, b.after, b.bits, own, by.least) in
    let both = comes-on (n.rate q) (n.rate p) b.copy.bit b.end x.least (n.wait q x) c.bit low high b.bit in
    let port_q = prem.net.laws.peer_port r other.port in
    let number_q : b.copy.frame.number ≡ f.number = ap (λ (g : Frame). g.number) b.same ∙ number in
    let found : there_at s flows n.rate q f ≡ Some (moment_of (n.rate q) b.copy.bit) =
    ap (λ (k : ℕ). moment_in (n.rate q) (copy_in (sendable_at s flows n.rate q) k)) (sym number_q)
    ∙ ap (λ (o : Option FrameCopy). moment_in (n.rate q) o) (found-copy (sendable_at s flows n.rate q) b.copy (differ-there s flows n.rate prem.net q port_q) b.there) in
    subst (λ (o : Option ℕ). ComesFrom least gap o (Some (moment_of (n.rate p) c.bit))) (sym found) both)))

pub kept-there : (s : Setting) (flows : List PortFlow) (traffic : Traffic) (streams : List ClassStream) (n : Numbers) (tick : ℕ) → Premises s flows traffic streams n tick
    → (p : EgressPort) → HasPort s.tree p → HoldBefore s flows traffic streams n p → (x : ClassStream) → Contains streams x → n.fed p x ≡ true
    → IsKept s flows traffic n p x
kept-there s flows traffic streams n tick prem p port before x has fed_here =
    let links = s.tree.links in
    let laws = prem.net.laws in
    let test = is_frame_of traffic x in
    let node = All-contains (λ (y : ClassStream). HasNode s.tree y.talker.0) streams x prem.are.talkers has in
    elim (laws.some_port p.node.0 x.talker.0 port.0 node) [
      | inl own ↦ kept-first s flows traffic streams n tick prem p port x has fed_here (sym own)
      | inr (r, there, at, behind) ↦ elim (cases_Bool (is_port r p)) [
        | inl itself ↦ kept-nowhere s flows traffic streams n tick prem p port x has
            (λ c copy mine.
            let mine_by = sent-by s traffic streams prem.are x c.frame has (origin s flows n.rate prem.net p port c copy).0 mine in
            let back = subst (λ (t : EgressPort). is_behind links t x.talker.0 ≡ true) (same-port r p itself) behind in
            let ahead = subst (λ (y : ℕ). is_behind links p y ≡ true) (sym mine_by.from) back in
            false≢true (sym (aside-there s flows n.rate prem.net p port c copy) ∙ ahead))
        | inr other ↦ (
            let is_before : IsBefore s p r = record { port = there; node = at; other = other } in
            let q = peer_of links r in
            let hold = before r there at other in
            elim (cases_Bool (n.fed q x)) [
              | inl fed ↦ kept-on s flows traffic streams n tick prem p r port is_before hold x has behind fed fed_here
              | inr unfed ↦ kept-nowhere s flows traffic streams n tick prem p port x has
                  (λ c copy mine.
                  let b = came-by s flows traffic streams n tick prem p r port is_before x has behind c copy mine in
                  let is_b = subst (λ (g : Frame). test g ≡ true) (sym b.same) mine in
                  let fed = of-all traffic (λ y d. n.fed q y ≡ true) streams (sendable_at s flows n.rate q) hold.fed x b.copy has b.there is_b in
                  false≢true (sym unfed ∙ fed))
            ])
      ]
    ]

-- How long the copies at a port wait, by what comes to it.
use Rattle.std.proofs.Common.{◌≡◌, ℕ, zero, suc, ◌+◌, ◌-◌, ◌*◌, ◌<◌, ◌≤◌, inl, inr, Bool, true, false, cond, List, [], ◌∷◌, length, get_or, take, drop, map, Option, Some, None, refl, sym, ◌∙◌, ap, subst, arith}
use Rattle.std.specs.Prelude.{All, Any, Contains, filter, sum_by, not, nat_le, ◌==◌, ◌&&◌}
use Rattle.std.proofs.Math.{Nat.add-mul}
use Rattle.std.proofs.lemmas.{Bool.cond-true, Bool.eq-eqb, Bool.eqb-true, Bool.le-leb, Bool.leb-true, Bool.and_parts, Bool.and_from, List.Elements.All-cons, List.Elements.All-head, List.Elements.All-contains, List.Elements.All-contains_itself, List.Elements.All-filter, List.Elements.All-map, List.Elements.filter_passes, List.Elements.Contains-get_or, List.Kept.AllPairs-filter}
use Rattle.srp_base.specs.declared.{numbers.EgressPort.EgressPort, bandwidth.Rate.Rate, ports.PortChange.PortChange}
use Rattle.srp_base.specs.Bandwidth.{bits_of, bit_ps_of}
use Rattle.credit_shaper.specs.declared.{shaper.Traffic.Traffic, port.Arrival.Arrival, port.Departure.Departure}
use Rattle.credit_shaper.specs.declared.shaper.Traffic.TheVariants.{A, B, Other}
use Rattle.credit_shaper.specs.{Port.IsPortInput, Port.is_of, Trace.departure_at, Departures.sent_of}
use Rattle.class_service.specs.{Class.IsClass, Service.IsFresh, Range.idle_of, Owed.bits_among, Owed.arrivals_from, Owed.HasNoneBefore, Owed.HasOneSlope, Owed.IsWaitOwed}
use Rattle.tree_topology.specs.{Topology.HasPort, Ports.peer_of, Walk.is_behind}
use Rattle.frame_flow.specs.declared.{frame.Frame.Frame, frame.FrameCopy.FrameCopy, result.Fate.Fate, result.Fate.TheVariants.Departed, result.Fate.TheVariants.Left, result.PortFlow.PortFlow}
use Rattle.frame_flow.specs.{Moments.bits_of_ticks, Moments.moment_of, Force.is_port, Force.changes_at, Force.first_slopes, Copies.ports_at, Flow.Setting, Flow.traffic_of, Flow.arrival_of, Given.IsSetting, Copies.is_not_after, Laws.IsOutcome, Laws.DepartsOnce, Laws.departures_numbered}
use Rattle.srp_base.proofs.Bools.{held_from}
use Rattle.frame_flow.proofs.{CopyLemmas.All-find, CopyLemmas.order-arriving, SlopeLemmas.port-input, LevelLemmas.ports-are, OriginLemmas.departed, OriginLemmas.along}
use Rattle.delay_bound.specs.declared.{bound.Bound.Bound}
use Rattle.delay_bound.specs.{Bounds.second, Bounds.brought_in, Bounds.bounds_of, Windows.is_within, Windows.bits_within, Windows.IsBoundBy, Windows.AreBoundBy, Windows.IsOwed}
use Rattle.delay_bound.proofs.WaitLemmas.{wait_within}
use Rattle.delay_flow.specs.{ClassStream, is_in_class, is_route_of, is_frame_of, place_at, copies_at, may_go, sendable_at, flow_there, input_at, copy_in, moment_in, there_at, has_moment, is_there, frames_there, last_force, class_slope, Numbers, IsBefore, other_ports, own_group, group_by, groups_at, bound_of, GoesInTime, HoldsAt}
use Rattle.delay_flow.proofs.Sums.{contains-filter, contains-map, sum-filter_more, sum-into, sum-frames, value_in, only-one}
use Rattle.delay_flow.proofs.Arrivals.{bits_between, front-and-own, has-place}
use Rattle.delay_flow.proofs.Places.{Network, bit-soon, moments-up, moments-apart, same-traffic, listed, ports-have, one-frame, differ-there, has-copy, origin, early-there}
use Rattle.delay_flow.proofs.Slopes.{rate-second, slopes-below, one-slope}
use Rattle.delay_flow.proofs.Lines.{further-there, outcomes-there}
use Rattle.delay_flow.proofs.Groups.{fewer-bound, bound-together, groups-over, all-brought}
use Rattle.delay_flow.proofs.Ports.{Premises, OfCopies, of-all, sent-by, HoldBefore, IsTimely, IsKept, all-of, since-there, steady-tick, fed-there, kept-there}

-- ---- what comes in a window is what comes of the frames there

inside : (class a b c d : Bool) (k : ℕ) → (a ≡ true → c ≡ true) → (b ≡ true → d ≡ true) → cond (class && (a && b)) k 0 ≤ cond (class && true) (cond (c && d) k 0) 0
inside false a b c d k one two = omega arith
inside true false b c d k one two = omega arith
inside true true false c d k one two = omega arith
inside true true true c d k one two = omega (arith, cond-true (c && d) k 0 (and_from c d (one refl) (two refl)))

le-moments : (rate : Rate) (a b : ℕ) → nat_le a b ≡ true → nat_le (moment_of rate a) (moment_of rate b) ≡ true
le-moments rate a b h = le-leb (moment_of rate a) (moment_of rate b) (moments-up rate a b (leb-true a b h))

one-inside : (s : Setting) → IsSetting s → (rate : Rate) (traffic : Traffic) (since upto : ℕ) (f : Frame) → Contains s.frames f → (cs : List FrameCopy)
    → ((c : FrameCopy) → Contains cs c → Contains s.frames c.frame) → (o : Option FrameCopy) → copy_in cs f.number ≡ o
    → value_in (bits_between traffic since upto) o
    ≤ cond (is_in_class traffic f && has_moment (moment_in rate o)) (cond (is_within (moment_of rate since) (moment_of rate upto) (moment_in rate o)) f.bits 0) 0
one-inside s given rate traffic since upto f known cs frames None e = omega arith
one-inside s given rate traffic since upto f known cs frames (Some c) e =
    let found = All-find (Contains cs) (λ d. d.frame.number == f.number) cs c (All-contains_itself cs) e in
    let same = one-frame s given c.frame f (frames c found.0) known (eqb-true c.frame.number f.number found.1) in
    let V : Frame → ℕ = λ g. cond (is_in_class traffic g && (nat_le since c.bit && nat_le c.bit upto)) g.bits 0 in
    omega (
      arith,
      ap V same,
      inside (is_in_class traffic f) (nat_le since c.bit) (nat_le c.bit upto) (nat_le (moment_of rate since) (moment_of rate c.bit))
          (nat_le (moment_of rate c.bit) (moment_of rate upto)) f.bits (le-moments rate since c.bit) (le-moments rate c.bit upto),
    )

-- the copies of a class in some bit times are no more than the frames of it that are there in between
copies-within : (s : Setting) (flows : List PortFlow) (rate : EgressPort → Rate) → Network s flows rate → (traffic : Traffic) (p : EgressPort) → HasPort s.tree p → (since upto : ℕ)
    → sum_by (bits_between traffic since upto) (sendable_at s flows rate p)
    ≤ bits_within (λ f. f.bits) (there_at s flows rate p) (moment_of (rate p) since) (moment_of (rate p) upto) (frames_there s flows rate traffic p)
copies-within s flows rate net traffic p port since upto =
    let cs = sendable_at s flows rate p in
    let g = bits_between traffic since upto in
    let frames : (c : FrameCopy) → Contains cs c → Contains s.frames c.frame = λ c there. (origin s flows rate net p port c there).0 in
    let all = sum-frames g cs s.frames (differ-there s flows rate net p port) (λ k d below. frames (get_or cs k d) (Contains-get_or cs k d below)) in
    let into = sum-into (λ f. value_in g (copy_in cs f.number))
    (λ f. cond (is_within (moment_of (rate p) since) (moment_of (rate p) upto) (there_at s flows rate p f)) f.bits 0)
    (λ f. is_in_class traffic f && is_there s flows rate p f) s.frames
    (λ k d below.
    let f = get_or s.frames k d in
    one-inside s net.given (rate p) traffic since upto f (Contains-get_or s.frames k d below) cs frames (copy_in cs f.number) refl) in
    omega (arith, all, into)

-- ---- the groups of a port

-- the stream of a frame that is there
stream-of : (s : Setting) (flows : List PortFlow) (traffic : Traffic) (streams : List ClassStream) (n : Numbers) (tick : ℕ) → Premises s flows traffic streams n tick
    → (f : Frame) → Contains s.frames f → is_in_class traffic f ≡ true → (x : ClassStream) × Contains streams x × (is_frame_of traffic x f ≡ true)
stream-of s flows traffic streams n tick prem f known class =
    All-contains (λ (g : Frame). is_in_class traffic g ≡ true → (x : ClassStream) × Contains streams x × (is_frame_of traffic x g ≡ true)) s.frames f prem.are.known known class

-- what is known of the frames there
abbrev IsThere : Setting → List PortFlow → Traffic → Numbers → EgressPort → Frame → Type 0
IsThere s flows traffic n p f = Contains s.frames f × (is_in_class traffic f ≡ true) × (is_there s flows n.rate p f ≡ true)

are-there : (s : Setting) (flows : List PortFlow) (traffic : Traffic) (n : Numbers) (p : EgressPort) → All (IsThere s flows traffic n p) (frames_there s flows n.rate traffic p)
are-there s flows traffic n p k d below =
    let test : Frame → Bool = λ f. is_in_class traffic f && is_there s flows n.rate p f in
    let f = get_or (filter test s.frames) k d in
    let parts = and_parts (is_in_class traffic f) (is_there s flows n.rate p f) (filter_passes test s.frames k d below) in
    (All-filter test (Contains s.frames) s.frames (All-contains_itself s.frames) k d below, parts.0, parts.1)

-- the first bound of what passes a test is that of the streams that are fed there and pass their own
first-bound : (s : Setting) (flows : List PortFlow) (traffic : Traffic) (streams : List ClassStream) (n : Numbers) (tick : ℕ) → Premises s flows traffic streams n tick
    → (p : EgressPort) → HasPort s.tree p → OfCopies traffic (λ x c. n.fed p x ≡ true) streams (sendable_at s flows n.rate p)
    → ((x : ClassStream) → Contains streams x → n.fed p x ≡ true → IsKept s flows traffic n p x) → (side : ℕ → Bool)
    → IsBoundBy (λ f. f.bits) (there_at s flows n.rate p) (bound_of n p (filter (λ x. n.fed p x && side x.talker.0) streams)).base
    (bound_of n p (filter (λ x. n.fed p x && side x.talker.0) streams)).slope (filter (λ f. side f.from.0) (frames_there s flows n.rate traffic p))
first-bound s flows traffic streams n tick prem p port fed kept side =
    let mine : ClassStream → Bool = λ x. n.fed p x && side x.talker.0 in
    let xs = filter mine streams in
    let test : Frame → Bool = λ f. side f.from.0 in
    let all = frames_there s flows n.rate traffic p in
    let fs = filter test all in
    let at = there_at s flows n.rate p in
    let has : All (Contains streams) xs = All-filter mine (Contains streams) streams (All-contains_itself streams) in
    let some : All (λ f. Any (λ x. is_frame_of traffic x f ≡ true) xs) fs =
    (λ k d below.
    let f = get_or fs k d in
    let there = All-filter test (IsThere s flows traffic n p) all (are-there s flows traffic n p) k d below in
    let found = stream-of s flows traffic streams n tick prem f there.0 there.1 in
    let x = found.0 in
    let copy = has-copy s flows n.rate prem.net p port f there.0 there.2 in
    let is_c = subst (λ (g : Frame). is_frame_of traffic x g ≡ true) (sym copy.2) found.2 in
    let is_fed = fed x copy.0 found.1 copy.1 is_c in
    let by = sent-by s traffic streams prem.are x f found.1 there.0 found.2 in
    let on_side : side x.talker.0 ≡ true = ap side (sym by.from) ∙ filter_passes test all k d below in
    let there_x = contains-filter mine streams x found.1 (and_from (n.fed p x) (side x.talker.0) is_fed on_side) in
    (there_x.0, x, there_x.1, there_x.2, found.2)) in
    bound-together (λ f. f.bits) at traffic xs (λ x. x.limits.burst * second + x.limits.slope * n.late p x) fs some
    (λ k d below.
    let x = get_or xs k d in
    let own = is_frame_of traffic x in
    fewer-bound (λ f. f.bits) at (x.limits.burst * second + x.limits.slope * n.late p x) x.limits.slope (filter own s.frames) (filter own fs)
    (λ from to.
    let part : Frame → ℕ = λ f. cond (is_within from to (at f)) f.bits 0 in
    omega (arith, sum-filter_more part own test all, sum-filter_more part own (λ f. is_in_class traffic f && is_there s flows n.rate p f) s.frames))
    (kept x (has k d below) (and_parts (n.fed p x) (side x.talker.0) (filter_passes mine streams k d below)).0))

-- the tests of a port's groups
abbrev tests_at : Setting → EgressPort → List (Frame → Bool)
tests_at s p = (λ f. f.from.0 == p.node.0) ∷ map (λ r f. is_behind s.tree.links r f.from.0) (other_ports s p)

brought-there : (s : Setting) (flows : List PortFlow) (traffic : Traffic) (streams : List ClassStream) (n : Numbers) (tick : ℕ) → Premises s flows traffic streams n tick
    → (p : EgressPort) → HasPort s.tree p → OfCopies traffic (λ x c. n.fed p x ≡ true) streams (sendable_at s flows n.rate p)
    → ((x : ClassStream) → Contains streams x → n.fed p x ≡ true → IsKept s flows traffic n p x) → HoldBefore s flows traffic streams n p → (from to : ℕ) → from ≤ to
    → bits_within (λ f. f.bits) (there_at s flows n.rate p) from to (frames_there s flows n.rate traffic p) * second ≤ brought_in (groups_at s n streams p) (to - from)
brought-there s flows traffic streams n tick prem p port fed kept before from to up =
    let links = s.tree.links in
    let all = frames_there s flows n.rate traffic p in
    let at = there_at s flows n.rate p in
    let rs = other_ports s p in
    let behind : EgressPort → Frame → Bool = λ r f. is_behind links r f.from.0 in
    let test : EgressPort → Bool = λ r. not (is_port r p) in
    let some : All (λ f. Any (λ t. t f ≡ true) (tests_at s p)) all =
    (λ k d below.
    let f = get_or all k d in
    let there = are-there s flows traffic n p k d below in
    let copy = has-copy s flows n.rate prem.net p port f there.0 there.2 in
    elim (origin s flows n.rate prem.net p port copy.0 copy.1).1 [
      | inl own ↦ (zero, (λ g. g.from.0 == p.node.0), omega arith, refl, eq-eqb f.from.0 p.node.0 (ap (λ (g : Frame). g.from.0) (sym copy.2) ∙ own.from))
      | inr (via, b) ↦ (
          let listed_via = contains-filter test (ports_at links p.node.0) via (ports-have s.tree p.node.0 via b.before.port b.before.node) (ap (λ (v : Bool). not v) b.before.other) in
          let there_via = contains-map behind rs via listed_via in
          let is : behind via f ≡ true = subst (λ (g : Frame). is_behind links via g.from.0 ≡ true) copy.2 b.behind in
          (suc there_via.0, behind via, omega (arith, there_via.1), there_via.2, is))
    ]) in
    let own : AreBoundBy (λ f. f.bits) at (filter (λ f. f.from.0 == p.node.0) all) (bounds_of (own_group n streams p)) =
    All-cons (λ (b : Bound). IsBoundBy (λ f. f.bits) at b.base b.slope (filter (λ f. f.from.0 == p.node.0) all)) (own_group n streams p).first []
    (first-bound s flows traffic streams n tick prem p port fed kept (λ y. y == p.node.0)) (λ k d below. absurd (omega (arith, below))) in
    let over : All (λ r. AreBoundBy (λ f. f.bits) at (filter (behind r) all) (bounds_of (group_by s n streams p r))) rs =
    (λ k d below.
    let r = get_or rs k d in
    let known = All-filter test (λ (t : EgressPort). HasPort s.tree t × (t.node.0 ≡ p.node.0)) (ports_at links p.node.0) (ports-are s.tree p.node.0 port.0) k d below in
    let is_before : IsBefore s p r = record { port = known.0; node = known.1; other = held_from (is_port r p) (filter_passes test (ports_at links p.node.0) k d below) } in
    All-cons (λ (b : Bound). IsBoundBy (λ f. f.bits) at b.base b.slope (filter (behind r) all)) (group_by s n streams p r).first (n.more p r)
    (first-bound s flows traffic streams n tick prem p port fed kept (λ y. is_behind links r y))
    (further-there s flows traffic streams n tick prem p r port is_before (before r known.0 known.1 is_before.other))) in
    all-brought (λ f. f.bits) at (tests_at s p) (groups_at s n streams p) all from to some (own, groups-over (λ f. f.bits) at all behind (group_by s n streams p) rs over) up

-- ---- how long a copy waits

slope-fast : (rate : ℕ) (traffic : Traffic) (force : Option PortChange) → (first_slopes force).slope_a + (first_slopes force).slope_b < rate → class_slope traffic force ≤ rate
slope-fast rate A force below = omega (arith, below)
slope-fast rate B force below = omega (arith, below)
slope-fast rate Other force below = omega arith

none-before : (s : Setting) (flows : List PortFlow) (traffic : Traffic) (streams : List ClassStream) (n : Numbers) (tick : ℕ) → Premises s flows traffic streams n tick
    → (p : EgressPort) → HasPort s.tree p → HoldBefore s flows traffic streams n p
    → HasNoneBefore traffic (bits_of_ticks (n.rate p) tick) (input_at s flows n.rate p).arrivals
none-before s flows traffic streams n tick prem p port before =
    let cs = sendable_at s flows n.rate p in
    All-map (λ (y : Arrival). is_of traffic y ≡ true → bits_of_ticks (n.rate p) tick ≤ y.bit) arrival_of cs
    (λ k d below class.
    let c = get_or cs k d in
    let there = Contains-get_or cs k d below in
    let found = stream-of s flows traffic streams n tick prem c.frame (origin s flows n.rate prem.net p port c there).0 class in
    steady-tick s flows traffic streams n tick prem p port before found.0 c found.1 there found.2)

-- a copy that has waited up to a bit time has waited no more than its stream does there
owed-number : (s : Setting) (flows : List PortFlow) (traffic : Traffic) (streams : List ClassStream) (n : Numbers) (tick : ℕ) → Premises s flows traffic streams n tick
    → (p : EgressPort) → HasPort s.tree p → OfCopies traffic (λ x c. n.fed p x ≡ true) streams (sendable_at s flows n.rate p)
    → ((x : ClassStream) → Contains streams x → n.fed p x ≡ true → IsKept s flows traffic n p x) → HoldBefore s flows traffic streams n p
    → (x : ClassStream) → Contains streams x → (k : ℕ) (d : FrameCopy) → k < length (sendable_at s flows n.rate p)
    → is_frame_of traffic x (get_or (sendable_at s flows n.rate p) k d).frame ≡ true → (u : ℕ) → (get_or (sendable_at s flows n.rate p) k d).bit ≤ u
    → IsWaitOwed (input_at s flows n.rate p) (map arrival_of (take k (sendable_at s flows n.rate p))) (arrival_of (get_or (sendable_at s flows n.rate p) k d))
    (class_slope traffic (last_force s p)) (first_slopes (last_force s p)).slope_a (bits_of_ticks (n.rate p) tick) u
    → (u - (get_or (sendable_at s flows n.rate p) k d).bit) + (get_or (sendable_at s flows n.rate p) k d).frame.bits ≤ n.wait p x + x.least
owed-number s flows traffic streams n tick prem p port fed kept before x has k d below is u upto owed =
    let rate = n.rate p in
    let cs = sendable_at s flows n.rate p in
    let c = get_or cs k d in
    let there = Contains-get_or cs k d below in
    let force = last_force s p in
    let slope = class_slope traffic force in
    let slope_a = (first_slopes force).slope_a in
    let front = map arrival_of (take k cs) in
    let class = (and_parts (is_in_class traffic c.frame) (is_route_of x.id c.frame.route) is).0 in
    let same = same-traffic (traffic_of c.frame.route) traffic class in
    let order = AllPairs-filter (λ a b. is_not_after a b ≡ true) (may_go s n.rate p) (copies_at s flows n.rate p)
    (order-arriving s.tree.links s.frames s.ticks flows (place_at n.rate p)) in
    let ahead = bits_among traffic (arrivals_from front owed.since) in
    let idle = idle_of (bits_of rate) slope_a traffic in
    let wait : slope * (u - owed.since) ≤ bits_of rate * ahead + idle * slope =
    subst (λ (t : Traffic). slope * (u - owed.since) ≤ bits_of rate * bits_among t (arrivals_from front owed.since) + idle_of (bits_of rate) slope_a t * slope) same owed.wait in
    let count = front-and-own traffic owed.since cs k d below order class owed.before in
    let within = copies-within s flows n.rate prem.net traffic p port owed.since c.bit in
    let groups = groups_at s n streams p in
    let total = bits_within (λ f. f.bits) (there_at s flows n.rate p) (moment_of rate owed.since) (moment_of rate c.bit) (frames_there s flows n.rate traffic p) in
    let brought = brought-there s flows traffic streams n tick prem p port fed kept before (moment_of rate owed.since) (moment_of rate c.bit) (moments-up rate owed.since c.bit owed.before) in
    let spanned : total * second ≤ brought_in groups ((c.bit - owed.since) * bit_ps_of rate) =
    subst (λ (w : ℕ). total * second ≤ brought_in groups w) (moments-apart rate c.bit owed.since) brought in
    let is_fed = fed x c has there is in
    let below_rate = slopes-below s flows n.rate prem.net p port in
    let by = sent-by s traffic streams prem.are x c.frame has (origin s flows n.rate prem.net p port c there).0 is in
    let is_owed : IsOwed groups (bits_of rate) (bit_ps_of rate) slope idle c.frame.bits ahead owed.since c.bit u =
    record { since = owed.before; until = upto; owed = wait; brought = omega (arith, count, within, spanned) } in
    let number = wait_within groups (bits_of rate) (bit_ps_of rate) slope idle (n.peak p) x.least c.frame.bits ahead owed.since c.bit u
    ((prem.rules.at p port).peak x has is_fed) (rate-second rate) ((prem.rules.at p port).slope x has is_fed) (slope-fast (bits_of rate) traffic force below_rate) by.least is_owed in
    omega (arith, number, (prem.rules.at p port).wait x has is_fed)

-- ---- a copy goes in time

-- what departed under a copy's number took its bits
own-bits : (s : Setting) (flows : List PortFlow) (rate : EgressPort → Rate) → Network s flows rate → (p : EgressPort) → HasPort s.tree p → (c : FrameCopy)
    → Contains (sendable_at s flows rate p) c → (start end : ℕ) → Contains (flow_there s flows rate p).fates (c.frame.number, Departed start end) → end ≡ start + c.frame.bits
own-bits s flows rate net p port c there start end fate =
    let of = departed s net.given net.order flows (place_at rate p) (listed s net.laws rate net.rates p port) c.frame.number start end fate in
    let copy = contains-filter (may_go s rate p) (copies_at s flows rate p) of.copy of.there of.sent in
    let same = one-frame s net.given of.copy.frame c.frame (origin s flows rate net p port of.copy copy).0 (origin s flows rate net p port c there).0 of.numbered in
    omega (arith, of.bits, ap (λ (f : Frame). f.bits) same)

record Times (s : Setting) (flows : List PortFlow) (n : Numbers) (p : EgressPort) (x : ClassStream) (c : FrameCopy) : Type 0 where
  starts : (start end : ℕ) → Contains (flow_there s flows n.rate p).fates (c.frame.number, Departed start end)
      → (end ≡ start + c.frame.bits) × (end ≤ c.bit + (n.wait p x + x.least))
  ends : Contains (flow_there s flows n.rate p).fates (c.frame.number, Left)
      → (flow_there s flows n.rate p).input.end + c.frame.bits ≤ c.bit + (n.wait p x + x.least)

times-there : (s : Setting) (flows : List PortFlow) (traffic : Traffic) (streams : List ClassStream) (n : Numbers) (tick : ℕ) → Premises s flows traffic streams n tick
    → (p : EgressPort) → HasPort s.tree p → HoldBefore s flows traffic streams n p → OfCopies traffic (λ x c. n.fed p x ≡ true) streams (sendable_at s flows n.rate p)
    → ((x : ClassStream) → Contains streams x → n.fed p x ≡ true → IsKept s flows traffic n p x)
    → (x : ClassStream) → Contains streams x → (k : ℕ) (d : FrameCopy) → k < length (sendable_at s flows n.rate p)
    → is_frame_of traffic x (get_or (sendable_at s flows n.rate p) k d).frame ≡ true → Times s flows n p x (get_or (sendable_at s flows n.rate p) k d)
times-there s flows traffic streams n tick prem p port before fed kept x has k d below is =
    let net = prem.net in
    let rate = n.rate p in
    let cs = sendable_at s flows n.rate p in
    let c = get_or cs k d in
    let there = Contains-get_or cs k d below in
    let a = arrival_of c in
    let number = c.frame.number in
    let input = input_at s flows n.rate p in
    let force = last_force s p in
    let slope = class_slope traffic force in
    let slope_a = (first_slopes force).slope_a in
    let z = bits_of_ticks rate tick in
    let valid : IsPortInput input = port-input s net.given flows (place_at n.rate p) (listed s net.laws n.rate net.rates p port) (changes_at s.changes p) (copies_at s flows n.rate p) refl refl in
    let class = (and_parts (is_in_class traffic c.frame) (is_route_of x.id c.frame.route) is).0 in
    let same = sym (same-traffic (traffic_of c.frame.route) traffic class) in
    let fresh = prem.laws.fresh input traffic z valid prem.class (none-before s flows traffic streams n tick prem p port before) in
    let some = (prem.rules.at p port).slope x has (fed x c has there is) in
    let one = one-slope s flows traffic streams n tick prem p port some in
    let starts = prem.laws.start input (map arrival_of (take k cs)) (map arrival_of (drop (suc k) cs)) a slope slope_a z valid (has-place cs k d below)
    (subst IsClass same prem.class) (subst (λ (t : Traffic). IsFresh input t z) same fresh) (steady-tick s flows traffic streams n tick prem p port before x c has there is)
    (subst (λ (t : Traffic). HasOneSlope input t slope slope_a z input.end) same one) in
    let early : c.bit ≤ input.end = omega (arith, early-there s flows n.rate p port c there) in
    let owed = owed-number s flows traffic streams n tick prem p port fed kept before x has k d below is in
    let fates = (flow_there s flows n.rate p).fates in
    let out = outcomes-there s flows n.rate net p port in
    let test : Departure → Bool = λ e. e.frame == number in
    let O : ℕ × Fate → Type 0 = λ e. IsOutcome input e.0 e.1 in
    record {
      starts = λ start end fate.
          let once : DepartsOnce input number start end = All-contains O fates (number, Departed start end) out fate in
          let own = own-bits s flows n.rate net p port c there start end fate in
          elim starts [
            | inl (t, at, wait) ↦ (
                let dep = departure_at t a in
                let there_dep = contains-filter test (sent_of input) dep at.departs (eq-eqb number number refl) in
                let only = only-one once.0 dep (subst (λ (l : List Departure). Contains l dep) once.1 there_dep) in
                let at_t : start ≡ t = sym once.2 ∙ ap (λ (e : Departure). e.start) only in
                (own, omega (arith, own, at_t, at.arrived, owed t at.arrived wait)))
            | inr (left, wait) ↦ (
                let S : Departure → Type 0 = λ e. e.start < input.end in
                let all = subst (λ (l : List Departure). All S l) once.1 (All-filter test S (sent_of input) (prem.laws.in_time input)) in
                let before_end = All-head S once.0 [] all in
                (own, omega (arith, own, before_end, once.2, early, owed input.end early wait)))
          ];
      ends = λ fate.
          let none : departures_numbered input number ≡ [] = All-contains O fates (number, Left) out fate in
          elim starts [
            | inl (t, at, wait) ↦ absurd (
                let dep = departure_at t a in
                let there_dep = contains-filter test (sent_of input) dep at.departs (eq-eqb number number refl) in
                let empty = subst (λ (l : List Departure). Contains l dep) none there_dep in
                omega (arith, empty.1))
            | inr (left, wait) ↦ omega (arith, early, owed input.end early wait)
          ];
    }

-- how long it has taken on its way
spent-there : (s : Setting) (flows : List PortFlow) (traffic : Traffic) (streams : List ClassStream) (n : Numbers) (tick : ℕ) → Premises s flows traffic streams n tick
    → (p : EgressPort) → HasPort s.tree p → HoldBefore s flows traffic streams n p → (x : ClassStream) → Contains streams x → (c : FrameCopy)
    → n.fed p x ≡ true → Contains (sendable_at s flows n.rate p) c → is_frame_of traffic x c.frame ≡ true → (end : ℕ) → end ≤ c.bit + (n.wait p x + x.least)
    → moment_of (n.rate p) end ≤ c.frame.at.0 + n.spent p x
spent-there s flows traffic streams n tick prem p port before x has c is_fed there is end soon =
    let rate = n.rate p in
    let way = n.wait p x + x.least in
    let up = moments-up rate end (c.bit + way) soon in
    let apart : moment_of rate (c.bit + way) ≡ moment_of rate c.bit + way * bit_ps_of rate = add-mul c.bit way (bit_ps_of rate) in
    let from = origin s flows n.rate prem.net p port c there in
    let by = sent-by s traffic streams prem.are x c.frame has from.0 is in
    let m : ℕ → ℕ = λ b. moment_of rate b in
    elim from.1 [
      | inl own ↦ omega (arith, up, apart, bit-soon rate c.frame.at.0, ap m own.bit, (prem.rules.at p port).spent_first x has is_fed (sym by.from ∙ own.from))
      | inr (via, b) ↦ (
          let q = peer_of s.tree.links via in
          let hold = before via b.before.port b.before.node b.before.other in
          let is_there = subst (λ (f : Frame). is_frame_of traffic x f ≡ true) (sym b.same) is in
          let goes = of-all traffic (GoesInTime s flows n q) streams (sendable_at s flows n.rate q) hold.in_time x b.copy has b.there is_there in
          let old = goes.spent b.start b.end b.fate in
          let at : b.copy.frame.at.0 ≡ c.frame.at.0 = ap (λ (f : Frame). f.at.0) b.same in
          let behind = subst (λ (y : ℕ). is_behind s.tree.links via y ≡ true) by.from b.behind in
          omega (arith, up, apart, old, at, bit-soon rate (moment_of (n.rate q) b.end), ap m b.bit, (prem.rules.at p port).spent_on via x b.before has is_fed behind))
    ]

-- ---- at each port

step : (s : Setting) (flows : List PortFlow) (traffic : Traffic) (streams : List ClassStream) (n : Numbers) (tick : ℕ) → Premises s flows traffic streams n tick
    → (p : EgressPort) → HasPort s.tree p → HoldBefore s flows traffic streams n p → HoldsAt s flows traffic streams n p
step s flows traffic streams n tick prem p port before =
    let cs = sendable_at s flows n.rate p in
    let fed = fed-there s flows traffic streams n tick prem p port before in
    let kept = kept-there s flows traffic streams n tick prem p port before in
    record {
      fed = all-of traffic (λ x c. n.fed p x ≡ true) streams cs fed;
      since = all-of traffic (IsTimely n.rate p) streams cs (since-there s flows traffic streams n tick prem p port before);
      kept = λ i y few is_fed. kept (get_or streams i y) (Contains-get_or streams i y few) is_fed;
      in_time = λ i y few k d below is.
          let x = get_or streams i y in
          let has = Contains-get_or streams i y few in
          let there = Contains-get_or cs k d below in
          let times = times-there s flows traffic streams n tick prem p port before fed kept x has k d below is in
          record {
            starts = times.starts;
            ends = times.ends;
            spent = λ start end fate. spent-there s flows traffic streams n tick prem p port before x has (get_or cs k d) (fed x (get_or cs k d) has there is) there is end (times.starts start end fate).1;
          };
    }

pub holds : (s : Setting) (flows : List PortFlow) (traffic : Traffic) (streams : List ClassStream) (n : Numbers) (tick : ℕ) → Premises s flows traffic streams n tick
    → (p : EgressPort) → HasPort s.tree p → HoldsAt s flows traffic streams n p
holds s flows traffic streams n tick prem p port =
    along s.tree prem.net.laws (λ q. HoldsAt s flows traffic streams n q) (λ q there before. step s flows traffic streams n tick prem q there before) p port

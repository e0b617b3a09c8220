-- The further bounds of what comes by another port: what the line of the port before carries, and what
-- the class's credit there lets out.
use Rattle.std.proofs.Common.{◌≡◌, ◌≢◌, ℕ, zero, suc, ◌+◌, ◌-◌, ◌*◌, ◌/◌, ◌<◌, ◌≤◌, ◌⊎◌, inl, inr, Bool, true, cond, List, [], ◌∷◌, get_or, Option, Some, None, refl, sym, ◌∙◌, ap, subst, arith}
use Rattle.std.specs.Prelude.{ℤ, pos, ◌+ℤ◌, ◌-ℤ◌, ◌≤ℤ◌, All, AllPairs, Contains, filter, find, sum_by, nat_le, nat_lt, ◌==◌, ◌&&◌}
use Rattle.std.specs.List.{list_any}
use Rattle.std.proofs.Math.Nat.{mul-suc, mul_comm, mul_assoc, mul-le-mul_left}
use Rattle.std.proofs.lemmas.{Int.ints, Bool.or_left, Bool.or_right, Bool.and_from, Bool.le-leb, Bool.lt-ltb, Bool.cond_both, Bool.cases_lt, Bool.eq-eqb, Bool.eqb-true, Bool.leb-true, Bool.and_parts, List.Elements.All-head, List.Elements.All-tail, List.Elements.All-contains, List.Elements.All-contains_itself, List.Elements.All-filter, List.Elements.All-map, List.Elements.filter_passes, List.Elements.Contains-get_or, List.Kept.AllPairs-filter, List.Sums.sum_by-cons}
use Rattle.srp_base.specs.declared.{numbers.EgressPort.EgressPort, bandwidth.Rate.Rate, ports.PortChange.PortChange}
use Rattle.srp_base.specs.declared.bandwidth.Rate.TheVariants.{M100, G1, G10}
use Rattle.srp_base.specs.Bandwidth.{bits_of, bit_ps_of}
use Rattle.credit_shaper.specs.declared.shaper.Traffic.TheVariants.{A, B, Other}
use Rattle.credit_shaper.specs.declared.{shaper.Traffic.Traffic, port.Arrival.Arrival, port.Departure.Departure, port.PortInput.PortInput}
use Rattle.credit_shaper.specs.{Credit.traffic_number, Port.IsPortInput, Port.is_of, Departures.sent_of, Departures.left_of, Departures.departs_as, Departures.is_sending, Bounds.is_on_line, Bounds.bit_times}
use Rattle.class_service.specs.{Class.IsClass, Class.slope_at, Class.bits_in, Class.area_in, Range.HasLongest, Range.HasRoom, Range.idle_of, Range.high_of, Range.IsSince, Owed.HasNoneBefore}
use Rattle.class_service.proofs.CreditLemmas.{bit_of, bits_more, sum_more, sum_none}
use Rattle.credit_shaper.proofs.PairLemmas.{pairs-head, pairs-tail}
use Rattle.tree_topology.specs.{Topology.HasPort, Ports.peer_of, Walk.is_behind}
use Rattle.frame_flow.specs.declared.{frame.Frame.Frame, frame.FrameCopy.FrameCopy, result.Fate.Fate, result.Fate.TheVariants.Departed, result.PortFlow.PortFlow}
use Rattle.frame_flow.specs.{Moments.bits_of_ticks, Moments.bit_from, Moments.moment_of, Copies.all_places, Force.changes_at, Force.first_slopes, Flow.Setting, Flow.port_flow, Flow.traffic_of, Flow.arrival_of, Given.IsSetting, Laws.HasOutcomes, Laws.IsOutcome, Laws.DepartsOnce, Laws.departures_numbered}
use Rattle.frame_flow.proofs.{CopyLemmas.All-find, SlopeLemmas.port-input, LawLemmas.outcomes, DepartureFacts.IsOfSome, DepartureFacts.sent-of}
use Rattle.delay_bound.specs.declared.bound.Bound.{Bound}
use Rattle.delay_bound.specs.{Bounds.second, Windows.is_within, Windows.bits_within, Windows.IsBoundBy, Windows.ComesFrom}
use Rattle.delay_bound.proofs.WindowLemmas.{bound_on}
use Rattle.delay_flow.specs.{ClassStream, is_in_class, is_frame_of, place_at, copies_at, sendable_at, flow_there, input_at, copy_in, moment_in, there_at, is_there, frames_there, last_force, class_slope, Numbers, IsBefore, AreNoLonger, line_bound, IsFurther, HoldsAt}
use Rattle.delay_flow.proofs.Sums.{contains-filter, contains-map, sum-keys, value_in, only-one, find-alone}
use Rattle.delay_flow.proofs.Places.{Network, FromBefore, bit-after, bit-soon, bits-since, moments-up, listed, differ-there, found-copy, has-copy, origin, frame-is, early-there}
use Rattle.delay_flow.proofs.Slopes.{slopes-below, steady-slopes, class-slopes}
use Rattle.delay_flow.proofs.Ports.{ShaperLaws, Premises, of-all, sent-by, IsTimely}

-- ---- departures one after the other

-- a measure of bit times from one on, which grows
pub record IsMeasure (measure : ℕ → ℕ → ℕ) : Type 0 where
  pub first : (a : ℕ) → measure a a ≡ 0
  pub grows : (a t u : ℕ) → a ≤ t → t ≤ u → measure a t ≤ measure a u

-- a departure that counts in a window, with so many bits, moves the measure on
pub record IsCounted (rate : Rate) (measure : ℕ → ℕ → ℕ) (v most first from hi : ℕ) (d : Departure) : Type 0 where
  pub since : first ≤ d.end
  pub order : d.start ≤ d.end
  pub upto : d.end ≤ hi
  pub opens : from ≤ moment_of rate d.end
  pub small : v ≤ most
  pub moves : (a : ℕ) → a ≤ d.start → measure a d.start + v ≤ measure a d.end

abbrev pub Counts : Rate → (ℕ → ℕ → ℕ) → (Departure → ℕ) → ℕ → ℕ → ℕ → ℕ → Departure → Type 0
Counts rate measure v most first from hi d = (v d ≡ 0) ⊎ IsCounted rate measure (v d) most first from hi d

abbrev IsBeforeNext : Departure → Departure → Type 0
IsBeforeNext d e = d.end ≤ e.start

sweep : (rate : Rate) (measure : ℕ → ℕ → ℕ) (v : Departure → ℕ) (most first from hi a m : ℕ) → IsMeasure measure → a ≤ m → m ≤ hi → (ds : List Departure)
    → AllPairs IsBeforeNext ds → All (λ d. m ≤ d.start) ds → All (Counts rate measure v most first from hi) ds → measure a m + sum_by v ds ≤ measure a hi
sweep rate measure v most first from hi a m is after upto [] apart since counts = omega (arith, is.grows a m hi after upto)
sweep rate measure v most first from hi a m is after upto (d ∷ ds) apart since counts =
    let C : Departure → Type 0 = Counts rate measure v most first from hi in
    let S : Departure → Type 0 = λ e. m ≤ e.start in
    let begun = All-head S d ds since in
    elim (All-head C d ds counts) [
      | inl none ↦ omega (
        arith,
        sum_by-cons v d ds,
        none,
        sweep rate measure v most first from hi a m is after upto ds (pairs-tail IsBeforeNext d ds apart) (All-tail S d ds since) (All-tail C d ds counts),
      )
      | inr c ↦ omega (
        arith,
        sum_by-cons v d ds,
        is.grows a m d.start after begun,
        c.moves a (omega (arith, after, begun)),
        sweep rate measure v most first from hi a d.end is (omega (arith, after, begun, c.order)) c.upto ds (pairs-tail IsBeforeNext d ds apart)
            (pairs-head IsBeforeNext d ds apart) (All-tail C d ds counts),
      )
    ]

-- what counts over a window is nothing, or a frame and what the measure moves on from its end
pub record IsSwept (rate : Rate) (measure : ℕ → ℕ → ℕ) (most first from hi total : ℕ) : Type 0 where
  pub since : ℕ
  pub after : first ≤ since
  pub opens : from ≤ moment_of rate since
  pub upto : since ≤ hi
  pub few : total ≤ most + measure since hi

swept : (rate : Rate) (measure : ℕ → ℕ → ℕ) (v : Departure → ℕ) (most first from hi : ℕ) → IsMeasure measure → (ds : List Departure)
    → AllPairs IsBeforeNext ds → All (Counts rate measure v most first from hi) ds → (sum_by v ds ≡ 0) ⊎ IsSwept rate measure most first from hi (sum_by v ds)
swept rate measure v most first from hi is [] apart counts = inl refl
swept rate measure v most first from hi is (d ∷ ds) apart counts =
    let C : Departure → Type 0 = Counts rate measure v most first from hi in
    let rest = pairs-tail IsBeforeNext d ds apart in
    elim (All-head C d ds counts) [
      | inl none ↦ elim (swept rate measure v most first from hi is ds rest (All-tail C d ds counts)) [
        | inl zero_ ↦ inl (omega (arith, sum_by-cons v d ds, none, zero_))
        | inr some ↦ inr (record { since = some.since; after = some.after; opens = some.opens; upto = some.upto; few = omega (arith, sum_by-cons v d ds, none, some.few) })
      ]
      | inr c ↦ inr (record {
        since = d.end;
        after = c.since;
        opens = c.opens;
        upto = c.upto;
        few = omega (
          arith,
          sum_by-cons v d ds,
          c.small,
          is.first d.end,
          sweep rate measure v most first from hi d.end d.end is (omega arith) c.upto ds rest (pairs-head IsBeforeNext d ds apart) (All-tail C d ds counts),
        );
      })
    ]

quotient-low : (rate : Rate) (to : ℕ) → moment_of rate (to / bit_ps_of rate) ≤ to
quotient-low M100 to = omega arith
quotient-low G1 to = omega arith
quotient-low G10 to = omega arith

quotient-high : (rate : Rate) (to k : ℕ) → moment_of rate k ≤ to → k ≤ to / bit_ps_of rate
quotient-high M100 to k h = omega (arith, h)
quotient-high G1 to k h = omega (arith, h)
quotient-high G10 to k h = omega (arith, h)

-- the last bit time up to another that begins in a window
last-bit : (rate : Rate) (to end : ℕ) → (hi : ℕ) × (hi ≤ end) × (moment_of rate hi ≤ to) × ((k : ℕ) → k ≤ end → moment_of rate k ≤ to → k ≤ hi)
last-bit rate to end =
    let q = to / bit_ps_of rate in
    let low = quotient-low rate to in
    elim (cases_lt end q) [
      | inl less ↦ (end, omega arith, omega (arith, moments-up rate end q (omega (arith, less)), low), λ k few h. few)
      | inr more ↦ (q, omega (arith, more), low, λ k few h. quotient-high rate to k h)
    ]

-- ---- frames that have left a port

-- the moment at which a frame's last bit has gone there
abbrev end_in : Rate → Option Departure → Option ℕ
end_in rate None = None
end_in rate (Some d) = Some (moment_of rate d.end)

abbrev left_at : PortInput → Rate → Frame → Option ℕ
left_at input rate f = end_in rate (find (λ d. d.frame == f.number) (sent_of input))

-- a frame has left a port once, in its own bits, before the run's end
record HasLeft (input : PortInput) (traffic : Traffic) (most first : ℕ) (f : Frame) : Type 0 where
  departure : Departure
  once : departures_numbered input f.number ≡ departure ∷ []
  bits : departure.end ≡ departure.start + f.bits
  small : f.bits ≤ most
  since : first ≤ departure.end
  before : departure.end ≤ input.end
  class : departs_as traffic departure ≡ true

left-found : (input : PortInput) (traffic : Traffic) (most first : ℕ) (rate : Rate) (f : Frame) (has : HasLeft input traffic most first f)
    → left_at input rate f ≡ Some (moment_of rate has.departure.end)
left-found input traffic most first rate f has =
    ap (λ (o : Option Departure). end_in rate o) (find-alone (λ d. d.frame == f.number) (sent_of input) has.departure has.once)

-- a departure of such a frame moves the measure on by the frame's bits
abbrev Moves : PortInput → Traffic → (ℕ → ℕ → ℕ) → Type 0
Moves input traffic measure =
    (d : Departure) → Contains (sent_of input) d → departs_as traffic d ≡ true → d.start ≤ d.end → d.end ≤ input.end
    → (a k : ℕ) → a ≤ d.start → d.start + k ≤ d.end → measure a d.start + k ≤ measure a d.end

counted : (input : PortInput) (traffic : Traffic) (most first : ℕ) (rate : Rate) (measure : ℕ → ℕ → ℕ) (fs : List Frame) (from to hi : ℕ)
    → ((k : ℕ) → k ≤ input.end → moment_of rate k ≤ to → k ≤ hi) → Moves input traffic measure → All (HasLeft input traffic most first) fs
    → (d : Departure) → Contains (sent_of input) d → (o : Option Frame) → find (λ f. f.number == d.frame) fs ≡ o
    → (value_in (λ f. cond (is_within from to (left_at input rate f)) f.bits 0) o ≡ 0)
    ⊎ IsCounted rate measure (value_in (λ f. cond (is_within from to (left_at input rate f)) f.bits 0) o) most first from hi d
counted input traffic most first rate measure fs from to hi last moves left d there None e = inl refl
counted input traffic most first rate measure fs from to hi last moves left d there (Some f) e =
    let found = All-find (HasLeft input traffic most first) (λ g. g.number == d.frame) fs f left e in
    let has = found.0 in
    let numbered = eqb-true f.number d.frame found.1 in
    let test : Departure → Bool = λ x. x.frame == f.number in
    let one : has.departure ≡ d =
    only-one has.departure d (subst (λ (l : List Departure). Contains l d) has.once (contains-filter test (sent_of input) d there (eq-eqb d.frame f.number (sym numbered)))) in
    let at : left_at input rate f ≡ Some (moment_of rate d.end) =
    left-found input traffic most first rate f has ∙ ap (λ (x : Departure). Some (moment_of rate x.end)) one in
    let ends : d.end ≡ d.start + f.bits = subst (λ (x : Departure). x.end ≡ x.start + f.bits) one has.bits in
    let class = subst (λ (x : Departure). departs_as traffic x ≡ true) one has.class in
    let before = subst (λ (x : Departure). x.end ≤ input.end) one has.before in
    let G : Option ℕ → ℕ = λ o. cond (is_within from to o) f.bits 0 in
    let V : ℕ → Type 0 = λ v. (v ≡ 0) ⊎ IsCounted rate measure v most first from hi d in
    let m = moment_of rate d.end in
    let since = subst (λ (x : Departure). first ≤ x.end) one has.since in
    subst V (sym (ap G at))
    (cond_both (is_within from to (Some m)) f.bits 0 V
    (λ is.
    let parts = and_parts (nat_le from m) (nat_le m to) is in
    inr (record {
      since = since;
      order = omega (arith, ends);
      upto = last d.end before (leb-true m to parts.1);
      opens = leb-true from m parts.0;
      small = has.small;
      moves = λ a after. moves d there class (omega (arith, ends)) before a f.bits after (omega (arith, ends));
    }))
    (λ nay. inl refl))

abbrev Numbered : Frame → Frame → Type 0
Numbered f g = f.number ≢ g.number

-- what has left in a window is nothing, or a frame and what the measure moves on
out-swept : (input : PortInput) (traffic : Traffic) (most first : ℕ) (rate : Rate) (measure : ℕ → ℕ → ℕ) (fs : List Frame) (from to hi : ℕ)
    → ((k : ℕ) → k ≤ input.end → moment_of rate k ≤ to → k ≤ hi) → Moves input traffic measure → IsMeasure measure → AllPairs Numbered fs
    → AllPairs IsBeforeNext (sent_of input) → All (HasLeft input traffic most first) fs
    → (bits_within (λ f. f.bits) (left_at input rate) from to fs ≡ 0)
    ⊎ IsSwept rate measure most first from hi (bits_within (λ f. f.bits) (left_at input rate) from to fs)
out-swept input traffic most first rate measure fs from to hi last moves is apart next left =
    let g : Frame → ℕ = λ f. cond (is_within from to (left_at input rate f)) f.bits 0 in
    let v : Departure → ℕ = λ d. value_in g (find (λ f. f.number == d.frame) fs) in
    let sent = sent_of input in
    let known : All (λ f. (d : Departure) × Contains sent d × (d.frame ≡ f.number)) fs =
    (λ k x below.
    let has = left k x below in
    let f = get_or fs k x in
    let test : Departure → Bool = λ d. d.frame == f.number in
    let d = has.departure in
    let alone : Contains (filter test sent) d = subst (λ (l : List Departure). Contains l d) (sym has.once) (zero, omega arith, refl) in (
      d,
      All-contains (Contains sent) (filter test sent) d (All-filter test (Contains sent) sent (All-contains_itself sent)) alone,
      eqb-true d.frame f.number (All-contains (λ (e : Departure). test e ≡ true) (filter test sent) d (filter_passes test sent) alone),
    )) in
    let less = sum-keys (λ f. f.number) (λ d. d.frame) g fs sent apart known in
    let counts : All (Counts rate measure v most first from hi) sent =
    (λ k x below.
    let d = get_or sent k x in
    counted input traffic most first rate measure fs from to hi last moves left d (Contains-get_or sent k x below) (find (λ f. f.number == d.frame) fs) refl) in
    elim (swept rate measure v most first from hi is sent next counts) [
      | inl none ↦ inl (omega (arith, less, none))
      | inr some ↦ inr (record { since = some.since; after = some.after; opens = some.opens; upto = some.upto; few = omega (arith, less, some.few) })
    ]

-- ---- what the line lets out

line-measure : IsMeasure (λ a t. t - a)
line-measure = record { first = λ a. omega arith; grows = λ a t u after upto. omega (arith, upto) }

line-total : (rate : Rate) (most total a hi from to : ℕ) → total ≤ most + (hi - a) → from ≤ moment_of rate a → a ≤ hi → moment_of rate hi ≤ to
    → total * second ≤ most * second + bits_of rate * (to - from)
line-total M100 most total a hi from to h one two three = omega (arith, h, one, two, three)
line-total G1 most total a hi from to h one two three = omega (arith, h, one, two, three)
line-total G10 most total a hi from to h one two three = omega (arith, h, one, two, three)

line-out : (input : PortInput) (traffic : Traffic) (most first : ℕ) (rate : Rate) (fs : List Frame) → AllPairs Numbered fs → AllPairs IsBeforeNext (sent_of input)
    → All (HasLeft input traffic most first) fs → IsBoundBy (λ f. f.bits) (left_at input rate) (most * second) (bits_of rate) fs
line-out input traffic most first rate fs apart next left from to up =
    let last = last-bit rate to input.end in
    let total = bits_within (λ f. f.bits) (left_at input rate) from to fs in
    elim (out-swept input traffic most first rate (λ a t. t - a) fs from to last.0 last.3 (λ d there class order before a k after moves. omega (arith, after, moves)) line-measure apart next left) [
      | inl none ↦ omega (arith, none)
      | inr some ↦ line-total rate most total some.since last.0 from to some.few some.opens some.upto last.2
    ]

pub outcomes-there : (s : Setting) (flows : List PortFlow) (rate : EgressPort → Rate) → Network s flows rate → (p : EgressPort) → HasPort s.tree p → HasOutcomes (flow_there s flows rate p)
outcomes-there s flows rate net p port =
    let places = all_places s.tree.links s.rates in
    let there = contains-map (port_flow s flows) places (place_at rate p) (listed s net.laws rate net.rates p port) in
    All-contains HasOutcomes flows (flow_there s flows rate p) (outcomes s net.given net.laws net.order flows net.flow)
    (subst (λ (t : List PortFlow). Contains t (flow_there s flows rate p)) (sym net.flow.each) there)

-- ---- what comes by a port has left the one before

-- a copy whose station lies behind a port came by that port
came-behind : (s : Setting) (flows : List PortFlow) (rate : EgressPort → Rate) → Network s flows rate → (p r : EgressPort) → HasPort s.tree p → IsBefore s p r
    → (c : FrameCopy) → Contains (sendable_at s flows rate p) c → is_behind s.tree.links r c.frame.from.0 ≡ true → FromBefore s flows rate p c r
came-behind s flows rate net p r port other c there back =
    elim (origin s flows rate net p port c there).1 [
      | inl st ↦ absurd (net.laws.own r other.port (subst (λ (y : ℕ). is_behind s.tree.links r y ≡ true) (st.from ∙ sym other.node) back))
      | inr (via, b) ↦ subst (λ (t : EgressPort). FromBefore s flows rate p c t)
          (net.laws.one_port via r c.frame.from.0 b.before.port other.port (b.before.node ∙ sym other.node) b.behind back) b
    ]

-- what departs is of the traffic of the copy of its number
abbrev IsSentCopy : List FrameCopy → Arrival → Type 0
IsSentCopy cs x = (c : FrameCopy) × Contains cs c × (x ≡ arrival_of c)

sent-copies : (s : Setting) (flows : List PortFlow) (rate : EgressPort → Rate) → Network s flows rate → (q : EgressPort) → IsPortInput (input_at s flows rate q)
    → All (IsOfSome (IsSentCopy (sendable_at s flows rate q))) (sent_of (input_at s flows rate q))
sent-copies s flows rate net q valid =
    let cs = sendable_at s flows rate q in
    let input = input_at s flows rate q in
    sent-of (IsSentCopy cs) input.arrivals (sent_of input) (λ t. filter (is_of t) (left_of input))
    (All-map (IsSentCopy cs) arrival_of cs (λ k d below. (get_or cs k d, Contains-get_or cs k d below, refl))) (λ t. net.order input t valid)

-- the frames of the class that come by a port have left the port before
abbrev by_port : Setting → List PortFlow → Traffic → Numbers → EgressPort → EgressPort → List Frame
by_port s flows traffic n p r = filter (λ f. is_behind s.tree.links r f.from.0) (frames_there s flows n.rate traffic p)

record CameBy (s : Setting) (flows : List PortFlow) (traffic : Traffic) (n : Numbers) (p r : EgressPort) (f : Frame) : Type 0 where
  known : Contains s.frames f
  class : is_in_class traffic f ≡ true
  copy : FrameCopy
  there : Contains (sendable_at s flows n.rate p) copy
  same : copy.frame ≡ f
  before : FromBefore s flows n.rate p copy r

came-each : (s : Setting) (flows : List PortFlow) (traffic : Traffic) (n : Numbers) → Network s flows n.rate → (p r : EgressPort) → HasPort s.tree p → IsBefore s p r
    → All (CameBy s flows traffic n p r) (by_port s flows traffic n p r)
came-each s flows traffic n net p r port other k d below =
    let test : Frame → Bool = λ f. is_in_class traffic f && is_there s flows n.rate p f in
    let back : Frame → Bool = λ f. is_behind s.tree.links r f.from.0 in
    let all = filter test s.frames in
    let f = get_or (filter back all) k d in
    let has = All-filter back (Contains all) all (All-contains_itself all) k d below in
    let known = All-contains (Contains s.frames) all f (All-filter test (Contains s.frames) s.frames (All-contains_itself s.frames)) has in
    let parts = and_parts (is_in_class traffic f) (is_there s flows n.rate p f) (All-contains (λ (g : Frame). test g ≡ true) all f (filter_passes test s.frames) has) in
    let copy = has-copy s flows n.rate net p port f known parts.1 in
    let behind = subst (λ (g : Frame). back g ≡ true) (sym copy.2) (filter_passes back all k d below) in
    record {
      known = known;
      class = parts.0;
      copy = copy.0;
      there = copy.1;
      same = copy.2;
      before = came-behind s flows n.rate net p r port other copy.0 copy.1 behind;
    }

-- the stream of a copy is fed where it may be sent, and has waited since the steady tick
record IsOfStream (s : Setting) (traffic : Traffic) (streams : List ClassStream) (f : Frame) : Type 0 where
  stream : ClassStream
  has : Contains streams stream
  is : is_frame_of traffic stream f ≡ true

of-stream : (s : Setting) (flows : List PortFlow) (traffic : Traffic) (streams : List ClassStream) (n : Numbers) (tick : ℕ) → Premises s flows traffic streams n tick
    → (f : Frame) → Contains s.frames f → is_in_class traffic f ≡ true → IsOfStream s traffic streams f
of-stream s flows traffic streams n tick prem f known class =
    let found = All-contains (λ (g : Frame). is_in_class traffic g ≡ true → (x : ClassStream) × Contains streams x × (is_frame_of traffic x g ≡ true)) s.frames f prem.are.known known class in
    record { stream = found.0; has = found.1; is = found.2 }

run-moment : (rate : Rate) (bit ticks : ℕ) → bit < bits_of_ticks rate ticks → moment_of rate bit < ticks * 10000000000
run-moment M100 bit ticks h = omega (arith, h)
run-moment G1 bit ticks h = omega (arith, h)
run-moment G10 bit ticks h = omega (arith, h)

run-bit : (rate : Rate) (end ticks : ℕ) → moment_of rate end < ticks * 10000000000 → end ≤ bits_of_ticks rate ticks
run-bit M100 end ticks h = omega (arith, h)
run-bit G1 end ticks h = omega (arith, h)
run-bit G10 end ticks h = omega (arith, h)

before-end : (rq rp : Rate) (end bit ticks : ℕ) → bit ≡ bit_from rp (moment_of rq end) → bit < bits_of_ticks rp ticks → end ≤ bits_of_ticks rq ticks
before-end rq rp end bit ticks is early =
    run-bit rq end ticks (omega (arith, bit-after rp (moment_of rq end), ap (λ (b : ℕ). moment_of rp b) is, run-moment rp bit ticks early))

left-each : (s : Setting) (flows : List PortFlow) (traffic : Traffic) (streams : List ClassStream) (n : Numbers) (tick : ℕ) → Premises s flows traffic streams n tick
    → (p r : EgressPort) → HasPort s.tree p → IsBefore s p r → HoldsAt s flows traffic streams n (peer_of s.tree.links r) → (most : ℕ)
    → AreNoLonger n streams (peer_of s.tree.links r) most
    → All (HasLeft (input_at s flows n.rate (peer_of s.tree.links r)) traffic most (bits_of_ticks (n.rate (peer_of s.tree.links r)) tick)) (by_port s flows traffic n p r)
left-each s flows traffic streams n tick prem p r port other hold most longest k d below =
    let net = prem.net in
    let q = peer_of s.tree.links r in
    let port_q = net.laws.peer_port r other.port in
    let input = input_at s flows n.rate q in
    let cs = sendable_at s flows n.rate q in
    let f = get_or (by_port s flows traffic n p r) k d in
    let came = came-each s flows traffic n net p r port other k d below in
    let b = came.before in
    let same_f : b.copy.frame ≡ f = b.same ∙ came.same in
    let of = of-stream s flows traffic streams n tick prem f came.known came.class in
    let x = of.stream in
    let is_b = subst (λ (g : Frame). is_frame_of traffic x g ≡ true) (sym same_f) of.is in
    let fed = of-all traffic (λ y c. n.fed q y ≡ true) streams cs hold.fed x b.copy of.has b.there is_b in
    let sentby = sent-by s traffic streams prem.are x f of.has came.known of.is in
    let long = All-contains (λ (y : ClassStream). n.fed q y ≡ true → y.limits.most ≤ most) streams x longest of.has fed in
    let fate = subst (λ (m : ℕ). Contains (flow_there s flows n.rate q).fates (m, Departed b.start b.end)) (ap (λ (g : Frame). g.number) same_f) b.fate in
    let O : ℕ × Fate → Type 0 = λ e. IsOutcome input e.0 e.1 in
    let once : DepartsOnce input f.number b.start b.end =
    All-contains O (flow_there s flows n.rate q).fates (f.number, Departed b.start b.end) (outcomes-there s flows n.rate net q port_q) fate in
    let e = once.0 in
    let test : Departure → Bool = λ y. y.frame == f.number in
    let sent = sent_of input in
    let alone : Contains (filter test sent) e = subst (λ (l : List Departure). Contains l e) (sym once.1) (zero, omega arith, refl) in
    let there_e = All-contains (Contains sent) (filter test sent) e (All-filter test (Contains sent) sent (All-contains_itself sent)) alone in
    let numbered = eqb-true e.frame f.number (All-contains (λ (y : Departure). test y ≡ true) (filter test sent) e (filter_passes test sent) alone) in
    let valid = port-input s net.given flows (place_at n.rate q) (listed s net.laws n.rate net.rates q port_q) (changes_at s.changes q) (copies_at s flows n.rate q) refl refl in
    let copy = All-contains (IsOfSome (IsSentCopy cs)) sent e (sent-copies s flows n.rate net q valid) there_e in
    let c = copy.1.0 in
    let c_frame : c.frame ≡ f =
    frame-is s flows n.rate net q port_q c f copy.1.1 came.known (ap (λ (y : Arrival). y.frame) (sym copy.1.2) ∙ sym copy.2.frame ∙ numbered) in
    let traffic_e : e.traffic ≡ traffic_of f.route = copy.2.traffic ∙ ap (λ (y : Arrival). y.traffic) copy.1.2 ∙ ap (λ (g : Frame). traffic_of g.route) c_frame in
    let since = of-all traffic (IsTimely n.rate q) streams cs hold.since x b.copy of.has b.there is_b in
    let late = All-contains (λ (g : Frame). is_in_class traffic g ≡ true → tick * 10000000000 ≤ g.at.0) s.frames f prem.steady.frames came.known came.class in
    let first = bits-since (n.rate q) tick b.copy.bit (omega (arith, late, since, ap (λ (g : Frame). g.at.0) same_f)) in
    record {
      departure = e;
      once = once.1;
      bits = omega (arith, once.2, once.3, b.bits, ap (λ (g : Frame). g.bits) same_f);
      small = omega (arith, long, sentby.most);
      since = omega (arith, first, b.after, b.bits, once.3);
      before = omega (arith, once.3, before-end (n.rate q) (n.rate p) b.end came.copy.bit s.ticks b.bit (early-there s flows n.rate p port came.copy came.there));
      class = ap (λ (t : Traffic). traffic_number t == traffic_number traffic) traffic_e ∙ came.class;
    }

-- what has left one port comes to the next in a bit time
left-comes : (s : Setting) (flows : List PortFlow) (traffic : Traffic) (streams : List ClassStream) (n : Numbers) (tick : ℕ) → Premises s flows traffic streams n tick
    → (p r : EgressPort) → HasPort s.tree p → IsBefore s p r
    → All (λ f. ComesFrom 0 (bit_ps_of (n.rate p)) (left_at (input_at s flows n.rate (peer_of s.tree.links r)) (n.rate (peer_of s.tree.links r)) f) (there_at s flows n.rate p f))
    (by_port s flows traffic n p r)
left-comes s flows traffic streams n tick prem p r port other k d below =
    let net = prem.net in
    let q = peer_of s.tree.links r in
    let port_q = net.laws.peer_port r other.port in
    let input = input_at s flows n.rate q in
    let f = get_or (by_port s flows traffic n p r) k d in
    let came = came-each s flows traffic n net p r port other k d below in
    let b = came.before in
    let O : ℕ × Fate → Type 0 = λ e. IsOutcome input e.0 e.1 in
    let once : DepartsOnce input b.copy.frame.number b.start b.end =
    All-contains O (flow_there s flows n.rate q).fates (b.copy.frame.number, Departed b.start b.end) (outcomes-there s flows n.rate net q port_q) b.fate in
    let number : b.copy.frame.number ≡ f.number = ap (λ (g : Frame). g.number) (b.same ∙ came.same) in
    let alone = subst (λ (m : ℕ). departures_numbered input m ≡ once.0 ∷ []) number once.1 in
    let left : left_at input (n.rate q) f ≡ Some (moment_of (n.rate q) b.end) =
    ap (λ (o : Option Departure). end_in (n.rate q) o) (find-alone (λ e. e.frame == f.number) (sent_of input) once.0 alone)
    ∙ ap (λ (m : ℕ). Some (moment_of (n.rate q) m)) once.3 in
    let c_number : came.copy.frame.number ≡ f.number = ap (λ (g : Frame). g.number) came.same in
    let there : there_at s flows n.rate p f ≡ Some (moment_of (n.rate p) came.copy.bit) =
    ap (λ (m : ℕ). moment_in (n.rate p) (copy_in (sendable_at s flows n.rate p) m)) (sym c_number)
    ∙ ap (λ (o : Option FrameCopy). moment_in (n.rate p) o) (found-copy (sendable_at s flows n.rate p) came.copy (differ-there s flows n.rate net p port) came.there) in
    let m : ℕ → ℕ = λ t. moment_of (n.rate p) t in
    let both : ComesFrom 0 (bit_ps_of (n.rate p)) (Some (moment_of (n.rate q) b.end)) (Some (moment_of (n.rate p) came.copy.bit)) =
    (omega (arith, bit-after (n.rate p) (moment_of (n.rate q) b.end), ap m b.bit), omega (arith, bit-soon (n.rate p) (moment_of (n.rate q) b.end), ap m b.bit)) in
    subst (λ (o : Option ℕ). ComesFrom 0 (bit_ps_of (n.rate p)) (left_at input (n.rate q) f) o) (sym there)
    (subst (λ (o : Option ℕ). ComesFrom 0 (bit_ps_of (n.rate p)) o (Some (moment_of (n.rate p) came.copy.bit))) (sym left) both)

numbers-differ : (s : Setting) → IsSetting s → (test other : Frame → Bool) → AllPairs Numbered (filter test (filter other s.frames))
numbers-differ s given test other =
    AllPairs-filter Numbered test (filter other s.frames) (AllPairs-filter Numbered other s.frames (λ i j d lt below e. omega (arith, given.range.numbers i j d lt below, e)))

-- the line's bound
line-there : (s : Setting) (flows : List PortFlow) (traffic : Traffic) (streams : List ClassStream) (n : Numbers) (tick : ℕ) → Premises s flows traffic streams n tick
    → (p r : EgressPort) → HasPort s.tree p → IsBefore s p r → HoldsAt s flows traffic streams n (peer_of s.tree.links r) → (most : ℕ)
    → AreNoLonger n streams (peer_of s.tree.links r) most
    → IsBoundBy (λ f. f.bits) (there_at s flows n.rate p) (line_bound (n.rate (peer_of s.tree.links r)) (n.rate p) most).base
    (line_bound (n.rate (peer_of s.tree.links r)) (n.rate p) most).slope (by_port s flows traffic n p r)
line-there s flows traffic streams n tick prem p r port other hold most longest =
    let net = prem.net in
    let q = peer_of s.tree.links r in
    let port_q = net.laws.peer_port r other.port in
    let input = input_at s flows n.rate q in
    let valid = port-input s net.given flows (place_at n.rate q) (listed s net.laws n.rate net.rates q port_q) (changes_at s.changes q) (copies_at s flows n.rate q) refl refl in
    let fs = by_port s flows traffic n p r in
    let first = bits_of_ticks (n.rate q) tick in
    let out = line-out input traffic most first (n.rate q) fs
    (numbers-differ s net.given (λ f. is_behind s.tree.links r f.from.0) (λ f. is_in_class traffic f && is_there s flows n.rate p f)) (prem.laws.apart input valid)
    (left-each s flows traffic streams n tick prem p r port other hold most longest) in
    bound_on (λ f. f.bits) (left_at input (n.rate q)) (there_at s flows n.rate p) (most * second) (bits_of (n.rate q)) 0 (bit_ps_of (n.rate p)) fs out
    (left-comes s flows traffic streams n tick prem p r port other)

-- ---- what the class's credit lets out

any-there : {X : Type 0} (p : X → Bool) (xs : List X) (x : X) → Contains xs x → p x ≡ true → list_any p xs ≡ true
any-there p [] x (k, below, same) is = absurd (omega (arith, below))
any-there p (z ∷ zs) x (zero, below, same) is = or_left (p z) (list_any p zs) (ap p same ∙ is)
any-there p (z ∷ zs) x (suc k, below, same) is = or_right (p z) (list_any p zs) (any-there p zs x (k, omega (arith, below), same) is)

bits-grow : (input : PortInput) (traffic : Traffic) (a t k : ℕ) → a ≤ t → bits_in input traffic a t ≤ bits_in input traffic a (t + k)
bits-grow input traffic a t zero after = let same : t + 0 ≡ t = omega arith in subst (λ (u : ℕ). bits_in input traffic a t ≤ bits_in input traffic a u) (sym same) (omega arith)
bits-grow input traffic a t (suc k) after =
    let same : t + suc k ≡ suc (t + k) = omega arith in
    subst (λ (u : ℕ). bits_in input traffic a t ≤ bits_in input traffic a u) (sym same)
    (omega (arith, bits-grow input traffic a t k after, bits_more input traffic a (t + k) (omega (arith, after))))

bits-moved : (input : PortInput) (traffic : Traffic) (a t k : ℕ) → a ≤ t → ((u : ℕ) → t ≤ u → u < t + k → is_on_line input traffic u ≡ true)
    → bits_in input traffic a t + k ≤ bits_in input traffic a (t + k)
bits-moved input traffic a t zero after on = let same : t + 0 ≡ t = omega arith in subst (λ (u : ℕ). bits_in input traffic a t + 0 ≤ bits_in input traffic a u) (sym same) (omega arith)
bits-moved input traffic a t (suc k) after on =
    let same : t + suc k ≡ suc (t + k) = omega arith in
    let one : bit_of input traffic (t + k) ≡ 1 = ap (λ (b : Bool). cond b 1 0) (on (t + k) (omega arith) (omega arith)) in
    subst (λ (u : ℕ). bits_in input traffic a t + suc k ≤ bits_in input traffic a u) (sym same)
    (omega (arith, bits-moved input traffic a t k after (λ u from upto. on u from (omega (arith, upto))), bits_more input traffic a (t + k) (omega (arith, after)), one))

bits-measure : (input : PortInput) (traffic : Traffic) → IsMeasure (bits_in input traffic)
bits-measure input traffic = record {
  first = λ a. sum_none (bit_of input traffic) a;
  grows = λ a t u after upto.
      let same : t + (u - t) ≡ u = omega (arith, upto) in
      subst (λ (k : ℕ). bits_in input traffic a t ≤ bits_in input traffic a k) same (bits-grow input traffic a t (u - t) after);
}

bits-moves : (laws : ShaperLaws) (input : PortInput) (traffic : Traffic) → IsPortInput input → Moves input traffic (bits_in input traffic)
bits-moves laws input traffic valid d there class order before a k after moves =
    let on : (u : ℕ) → d.start ≤ u → u < d.start + k → is_on_line input traffic u ≡ true =
    (λ u from upto.
    let sending : is_sending traffic u d ≡ true =
    and_from (departs_as traffic d) (nat_le d.start u && nat_lt u d.end) class
    (and_from (nat_le d.start u) (nat_lt u d.end) (le-leb d.start u from) (lt-ltb u d.end (omega (arith, upto, moves)))) in
    laws.line input traffic u valid (omega (arith, upto, moves, before)) ∙ any-there (is_sending traffic u) (sent_of input) d there sending) in
    let same : d.start + k + (d.end - (d.start + k)) ≡ d.end = omega (arith, moves) in
    let rest = subst (λ (u : ℕ). bits_in input traffic a (d.start + k) ≤ bits_in input traffic a u) same
    (bits-grow input traffic a (d.start + k) (d.end - (d.start + k)) (omega (arith, after))) in
    omega (arith, bits-moved input traffic a d.start k after on, rest)

area-by : (f : ℕ → ℕ) (slope a k : ℕ) → ((u : ℕ) → a ≤ u → u < a + k → f u ≡ slope) → sum_by f (bit_times a (a + k)) ≡ slope * k
area-by f slope a zero same =
    let here : a + 0 ≡ a = omega arith in
    subst (λ (u : ℕ). sum_by f (bit_times a u) ≡ slope * 0) (sym here) (omega (arith, sum_none f a))
area-by f slope a (suc k) same =
    let here : a + suc k ≡ suc (a + k) = omega arith in
    let apart : slope * suc k ≡ slope * k + slope = mul-suc slope k in
    subst (λ (u : ℕ). sum_by f (bit_times a u) ≡ slope * suc k) (sym here)
    (omega (arith, sum_more f a (a + k) (omega arith), area-by f slope a k (λ u from upto. same u from (omega (arith, upto))), same (a + k) (omega arith) (omega arith), apart))

-- the area of a slope that stays the same
area-one : (f : ℕ → ℕ) (slope a hi : ℕ) → a ≤ hi → ((u : ℕ) → a ≤ u → u < hi → f u ≡ slope) → sum_by f (bit_times a hi) ≡ slope * (hi - a)
area-one f slope a hi up same =
    let here : a + (hi - a) ≡ hi = omega (arith, up) in
    subst (λ (u : ℕ). sum_by f (bit_times a u) ≡ slope * (hi - a)) here (area-by f slope a (hi - a) (λ u from upto. same u from (omega (arith, upto, here))))

room-since : (rate : ℕ) (traffic : Traffic) (force : Option PortChange) → IsClass traffic → (first_slopes force).slope_a + (first_slopes force).slope_b < rate
    → HasRoom rate (first_slopes force).slope_a (first_slopes force).slope_b traffic
room-since rate A force class below = tt
room-since rate B force class below = (omega (arith, below), omega (arith, below))
room-since rate Other force class below = absurd class

high-is : (rate : ℕ) (traffic : Traffic) (force : Option PortChange) → IsClass traffic
    → high_of rate (first_slopes force).slope_a (first_slopes force).slope_b traffic ≡ pos (idle_of rate (first_slopes force).slope_a traffic * class_slope traffic force)
high-is rate A force class = refl
high-is rate B force class = ap (λ (k : ℕ). pos k) (mul_comm (first_slopes force).slope_b (idle_of rate (first_slopes force).slope_a B))
high-is rate Other force class = absurd class

-- what a class takes of a window, in natural numbers
taken : (bits area high low : ℕ) (h : ℤ) → h ≡ pos high → pos bits ≤ℤ (pos area +ℤ h -ℤ (pos 0 -ℤ pos low)) → bits ≤ area + high + low
taken bits area high low h is takes = omega (arith, ints, is, takes)

class-total : (rate : Rate) (most total b sw y v : ℕ) → total ≤ most + b → bits_of rate * b ≤ sw + y → sw * bit_ps_of rate ≤ v
    → total * second ≤ y * bit_ps_of rate + most * second + v
class-total M100 most total b sw y v one two three = omega (arith, one, two, three)
class-total G1 most total b sw y v one two three = omega (arith, one, two, three)
class-total G10 most total b sw y v one two three = omega (arith, one, two, three)

window-bits : (rate : Rate) (from to since hi : ℕ) → from ≤ moment_of rate since → since ≤ hi → moment_of rate hi ≤ to → (hi - since) * bit_ps_of rate ≤ to - from
window-bits M100 from to since hi one two three = omega (arith, one, two, three)
window-bits G1 from to since hi one two three = omega (arith, one, two, three)
window-bits G10 from to since hi one two three = omega (arith, one, two, three)

-- no frame of the class at a port is longer than those of the streams that are fed there
longest-there : (s : Setting) (flows : List PortFlow) (traffic : Traffic) (streams : List ClassStream) (n : Numbers) (tick : ℕ) → Premises s flows traffic streams n tick
    → (q : EgressPort) → HasPort s.tree q → HoldsAt s flows traffic streams n q → (most : ℕ) → AreNoLonger n streams q most → HasLongest traffic most (input_at s flows n.rate q).arrivals
longest-there s flows traffic streams n tick prem q port hold most longest =
    let cs = sendable_at s flows n.rate q in
    All-map (λ (y : Arrival). is_of traffic y ≡ true → y.bits ≤ most) arrival_of cs
    (λ k d below class.
    let c = get_or cs k d in
    let there = Contains-get_or cs k d below in
    let known = (origin s flows n.rate prem.net q port c there).0 in
    let of = of-stream s flows traffic streams n tick prem c.frame known class in
    let fed = of-all traffic (λ y e. n.fed q y ≡ true) streams cs hold.fed of.stream c of.has there of.is in
    let long = All-contains (λ (y : ClassStream). n.fed q y ≡ true → y.limits.most ≤ most) streams of.stream longest of.has fed in
    omega (arith, long, (sent-by s traffic streams prem.are of.stream c.frame of.has known of.is).most))

class-out : (s : Setting) (flows : List PortFlow) (traffic : Traffic) (streams : List ClassStream) (n : Numbers) (tick : ℕ) → Premises s flows traffic streams n tick
    → (q : EgressPort) → HasPort s.tree q → HoldsAt s flows traffic streams n q → HasNoneBefore traffic (bits_of_ticks (n.rate q) tick) (input_at s flows n.rate q).arrivals
    → (most : ℕ) → AreNoLonger n streams q most → (fs : List Frame) → AllPairs Numbered fs
    → All (HasLeft (input_at s flows n.rate q) traffic most (bits_of_ticks (n.rate q) tick)) fs
    → IsBoundBy (λ f. f.bits) (left_at (input_at s flows n.rate q) (n.rate q))
    ((idle_of (bits_of (n.rate q)) (first_slopes (last_force s q)).slope_a traffic * class_slope traffic (last_force s q)
    + (bits_of (n.rate q) - class_slope traffic (last_force s q)) * most) * bit_ps_of (n.rate q) + most * second)
    (class_slope traffic (last_force s q)) fs
class-out s flows traffic streams n tick prem q port hold none most longest fs apart left from to up =
    let net = prem.net in
    let rate = n.rate q in
    let input = input_at s flows n.rate q in
    let force = last_force s q in
    let slope = class_slope traffic force in
    let slope_a = (first_slopes force).slope_a in
    let slope_b = (first_slopes force).slope_b in
    let first = bits_of_ticks rate tick in
    let valid = port-input s net.given flows (place_at n.rate q) (listed s net.laws n.rate net.rates q port) (changes_at s.changes q) (copies_at s flows n.rate q) refl refl in
    let last = last-bit rate to input.end in
    let hi = last.0 in
    let slopes = steady-slopes s flows traffic streams n tick prem q port in
    let y = idle_of (bits_of rate) slope_a traffic * slope + (bits_of rate - slope) * most in
    elim (out-swept input traffic most first rate (bits_in input traffic) fs from to hi last.3 (bits-moves prem.laws input traffic valid)
    (bits-measure input traffic) apart (prem.laws.apart input valid) left) [
      | inl zero_ ↦ omega (arith, zero_)
      | inr some ↦ (
          let a = some.since in
          let is_since : IsSince input traffic slope most slope_a slope_b first input.end = record {
            from_zero = (prem.laws.fresh input traffic first valid prem.class none).credit;
            frames = longest-there s flows traffic streams n tick prem q port hold most longest;
            at_least = λ t after before. omega (arith, class-slopes input traffic force t prem.class (slopes t after before));
            at_most = λ t after before. (omega (arith, (slopes t after before).0), omega (arith, (slopes t after before).1));
            room = room-since (bits_of rate) traffic force prem.class (slopes-below s flows n.rate net q port);
          } in
          let takes = prem.laws.takes input traffic slope most slope_a slope_b first input.end a hi valid prem.class is_since some.after some.upto last.1 in
          let area : area_in input traffic a hi ≡ slope * (hi - a) =
          area-one (slope_at input traffic) slope a hi some.upto
          (λ t after before. class-slopes input traffic force t prem.class (slopes t (omega (arith, after, some.after)) (omega (arith, before, last.1)))) in
          let b = bits_in input traffic a hi in
          let number = taken (bits_of rate * b) (area_in input traffic a hi) (idle_of (bits_of rate) slope_a traffic * slope) ((bits_of rate - slope) * most)
          (high_of (bits_of rate) slope_a slope_b traffic) (high-is (bits_of rate) traffic force prem.class) takes in
          let wide : slope * ((hi - a) * bit_ps_of rate) ≤ slope * (to - from) = mul-le-mul_left slope (window-bits rate from to a hi some.opens some.upto last.2) in
          let assoc : slope * (hi - a) * bit_ps_of rate ≡ slope * ((hi - a) * bit_ps_of rate) = mul_assoc slope (hi - a) (bit_ps_of rate) in
          class-total rate most (bits_within (λ f. f.bits) (left_at input rate) from to fs) b (slope * (hi - a)) y (slope * (to - from))
          some.few (omega (arith, number, area)) (omega (arith, wide, assoc)))
    ]

-- at a port where all this holds no frame of the class arrived before the steady tick
none-held : (s : Setting) (flows : List PortFlow) (traffic : Traffic) (streams : List ClassStream) (n : Numbers) (tick : ℕ) → Premises s flows traffic streams n tick
    → (q : EgressPort) → HasPort s.tree q → HoldsAt s flows traffic streams n q → HasNoneBefore traffic (bits_of_ticks (n.rate q) tick) (input_at s flows n.rate q).arrivals
none-held s flows traffic streams n tick prem q port hold =
    let cs = sendable_at s flows n.rate q in
    All-map (λ (y : Arrival). is_of traffic y ≡ true → bits_of_ticks (n.rate q) tick ≤ y.bit) arrival_of cs
    (λ k d below class.
    let c = get_or cs k d in
    let there = Contains-get_or cs k d below in
    let known = (origin s flows n.rate prem.net q port c there).0 in
    let of = of-stream s flows traffic streams n tick prem c.frame known class in
    let since = of-all traffic (IsTimely n.rate q) streams cs hold.since of.stream c of.has there of.is in
    let late = All-contains (λ (g : Frame). is_in_class traffic g ≡ true → tick * 10000000000 ≤ g.at.0) s.frames c.frame prem.steady.frames known class in
    bits-since (n.rate q) tick c.bit (omega (arith, late, since)))

class-there : (s : Setting) (flows : List PortFlow) (traffic : Traffic) (streams : List ClassStream) (n : Numbers) (tick : ℕ) → Premises s flows traffic streams n tick
    → (p r : EgressPort) → HasPort s.tree p → IsBefore s p r → HoldsAt s flows traffic streams n (peer_of s.tree.links r) → (most : ℕ)
    → AreNoLonger n streams (peer_of s.tree.links r) most
    → IsBoundBy (λ f. f.bits) (there_at s flows n.rate p)
    ((idle_of (bits_of (n.rate (peer_of s.tree.links r))) (first_slopes (last_force s (peer_of s.tree.links r))).slope_a traffic
    * class_slope traffic (last_force s (peer_of s.tree.links r))
    + (bits_of (n.rate (peer_of s.tree.links r)) - class_slope traffic (last_force s (peer_of s.tree.links r))) * most) * bit_ps_of (n.rate (peer_of s.tree.links r))
    + most * second + class_slope traffic (last_force s (peer_of s.tree.links r)) * bit_ps_of (n.rate p))
    (class_slope traffic (last_force s (peer_of s.tree.links r))) (by_port s flows traffic n p r)
class-there s flows traffic streams n tick prem p r port other hold most longest =
    let net = prem.net in
    let q = peer_of s.tree.links r in
    let port_q = net.laws.peer_port r other.port in
    let force = last_force s q in
    let slope = class_slope traffic force in
    let y = idle_of (bits_of (n.rate q)) (first_slopes force).slope_a traffic * slope + (bits_of (n.rate q) - slope) * most in
    let fs = by_port s flows traffic n p r in
    let out = class-out s flows traffic streams n tick prem q port_q hold (none-held s flows traffic streams n tick prem q port_q hold) most longest fs
    (numbers-differ s net.given (λ f. is_behind s.tree.links r f.from.0) (λ f. is_in_class traffic f && is_there s flows n.rate p f))
    (left-each s flows traffic streams n tick prem p r port other hold most longest) in
    bound_on (λ f. f.bits) (left_at (input_at s flows n.rate q) (n.rate q)) (there_at s flows n.rate p) (y * bit_ps_of (n.rate q) + most * second) slope 0 (bit_ps_of (n.rate p)) fs out
    (left-comes s flows traffic streams n tick prem p r port other)

-- each further bound
further-each : (s : Setting) (flows : List PortFlow) (traffic : Traffic) (streams : List ClassStream) (n : Numbers) (tick : ℕ) → Premises s flows traffic streams n tick
    → (p r : EgressPort) → HasPort s.tree p → IsBefore s p r → HoldsAt s flows traffic streams n (peer_of s.tree.links r) → (b : Bound) → IsFurther s traffic streams n p r b
    → IsBoundBy (λ f. f.bits) (there_at s flows n.rate p) b.base b.slope (by_port s flows traffic n p r)
further-each s flows traffic streams n tick prem p r port other hold b is =
    let K : Bound → Type 0 = λ c. IsBoundBy (λ f. f.bits) (there_at s flows n.rate p) c.base c.slope (by_port s flows traffic n p r) in
    elim is.bound [
      | inl line ↦ subst K (sym line) (line-there s flows traffic streams n tick prem p r port other hold is.most is.longest)
      | inr class ↦ subst K (sym class) (class-there s flows traffic streams n tick prem p r port other hold is.most is.longest)
    ]

pub further-there : (s : Setting) (flows : List PortFlow) (traffic : Traffic) (streams : List ClassStream) (n : Numbers) (tick : ℕ) → Premises s flows traffic streams n tick
    → (p r : EgressPort) → HasPort s.tree p → IsBefore s p r → HoldsAt s flows traffic streams n (peer_of s.tree.links r)
    → All (λ b. IsBoundBy (λ f. f.bits) (there_at s flows n.rate p) b.base b.slope (filter (λ f. is_behind s.tree.links r f.from.0) (frames_there s flows n.rate traffic p))) (n.more p r)
further-there s flows traffic streams n tick prem p r port other hold k d below =
    further-each s flows traffic streams n tick prem p r port other hold (get_or (n.more p r) k d) ((prem.rules.at p port).more r other k d below)

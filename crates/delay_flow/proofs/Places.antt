-- Ports and their rates, frames by their numbers, and where a copy that may be sent comes from.
use Rattle.std.proofs.Common.{◌≡◌, ℕ, zero, suc, ◌+◌, ◌-◌, ◌*◌, ◌<◌, ◌≤◌, ◌⊎◌, inl, inr, true, false, List, [], ◌∷◌, length, get_or, Option, Some, None, refl, sym, ◌∙◌, ap, subst, arith}
use Rattle.std.specs.Prelude.{All, AllPairs, Contains, filter, flat_map, find, ◌==◌}
use Rattle.std.specs.List.{range_with_len}
use Rattle.std.proofs.lemmas.{Bool.eq-eqb, Bool.ne_eqb, Bool.eqb-true, Bool.false≢true, List.Elements.All-contains, List.Elements.All-contains_itself, List.Elements.All-filter, List.Elements.All-weaker, List.Elements.filter_passes, List.Elements.Contains-append_left, List.Elements.Contains-append_right, List.FromFn.get_or-range_with_len, List.FromFn.length-range_with_len, List.Kept.AllPairs-filter}
use Rattle.srp_base.proofs.Bools.{not-true-false}
use Rattle.srp_base.specs.declared.{numbers.EgressPort.EgressPort, bandwidth.Rate.Rate, bandwidth.Rate.TheVariants.M100, bandwidth.Rate.TheVariants.G1, bandwidth.Rate.TheVariants.G10}
use Rattle.srp_base.specs.Bandwidth.{bit_ps_of}
use Rattle.credit_shaper.specs.declared.{shaper.Traffic.Traffic, port.PortInput.PortInput}
use Rattle.credit_shaper.specs.declared.shaper.Traffic.TheVariants.{A, B, Other}
use Rattle.credit_shaper.specs.{Credit.traffic_number, Port.IsPortInput, Port.is_of, Departures.sent_of, Departures.left_of, Departures.departs_as, Departures.DepartInOrder}
use Rattle.tree_topology.specs.{Topology.Topology, Topology.HasNode, Topology.HasPort, Ports.neighbours, Ports.peer_of, Ports.ends_of, Walk.is_behind, PortLaws.HasPortLaws}
use Rattle.frame_flow.specs.declared.{frame.Frame.Frame, frame.FrameCopy.FrameCopy, result.Fate.TheVariants.Departed, result.PortFlow.PortFlow, place.Place.Place}
use Rattle.frame_flow.specs.{Moments.bits_of_ticks, Moments.bit_from, Moments.moment_of, Copies.all_places, Copies.places_of_link, Copies.port_of, Copies.ports_at, Flow.Setting, Flow.IsFlow, Flow.port_flow, Given.IsSetting, Given.IsFrame, Origins.ComesOver, Origins.HasSource}
use Rattle.frame_flow.proofs.{NumberLemmas.find-here, CopyLemmas.known-each, CopyLemmas.All-find, OnceLemmas.once-copies, OnceLemmas.side-copies, OriginLemmas.sources, OriginLemmas.flow-of, OriginLemmas.departed}
use Rattle.delay_flow.specs.{place_at, copies_at, may_go, sendable_at, flow_there, copy_in, moment_in, there_at, has_moment, is_there, IsBefore}
use Rattle.delay_flow.proofs.Sums.{Differ, contains-filter, contains-map}

-- ---- moments and bit times

pub bit-after : (rate : Rate) (moment : ℕ) → moment ≤ moment_of rate (bit_from rate moment)
bit-after M100 moment = omega arith
bit-after G1 moment = omega arith
bit-after G10 moment = omega arith

pub bit-soon : (rate : Rate) (moment : ℕ) → moment_of rate (bit_from rate moment) ≤ moment + bit_ps_of rate
bit-soon M100 moment = omega arith
bit-soon G1 moment = omega arith
bit-soon G10 moment = omega arith

pub moments-up : (rate : Rate) (a b : ℕ) → a ≤ b → moment_of rate a ≤ moment_of rate b
moments-up M100 a b h = omega (arith, h)
moments-up G1 a b h = omega (arith, h)
moments-up G10 a b h = omega (arith, h)

pub moments-apart : (rate : Rate) (a b : ℕ) → moment_of rate a - moment_of rate b ≡ (a - b) * bit_ps_of rate
moments-apart M100 a b = omega arith
moments-apart G1 a b = omega arith
moments-apart G10 a b = omega arith

-- a bit time that begins in a tick or later comes no earlier than the tick's first
pub bits-since : (rate : Rate) (tick bit : ℕ) → tick * 10000000000 ≤ moment_of rate bit → bits_of_ticks rate tick ≤ bit
bits-since M100 tick bit h = omega (arith, h)
bits-since G1 tick bit h = omega (arith, h)
bits-since G10 tick bit h = omega (arith, h)

pub same-traffic : (a b : Traffic) → (traffic_number a == traffic_number b) ≡ true → a ≡ b
same-traffic A A e = refl
same-traffic A B e = absurd (false≢true e)
same-traffic A Other e = absurd (false≢true e)
same-traffic B A e = absurd (false≢true e)
same-traffic B B e = refl
same-traffic B Other e = absurd (false≢true e)
same-traffic Other A e = absurd (false≢true e)
same-traffic Other B e = absurd (false≢true e)
same-traffic Other Other e = refl

-- ---- each port is one of the places, with its rate

contains-flat_map : {X Y : Type 0} (f : X → List Y) (xs : List X) (x : X) (y : Y) → Contains xs x → Contains (f x) y → Contains (flat_map f xs) y
contains-flat_map f [] x y (k, below, same) has = absurd (omega (arith, below))
contains-flat_map {X} {Y} f (z ∷ zs) x y (zero, below, same) has =
    Contains-append_left (f z) (flat_map f zs) y (subst (λ (t : X). Contains (f t) y) (sym same) has)
contains-flat_map f (z ∷ zs) x y (suc k, below, same) has =
    Contains-append_right (f z) (flat_map f zs) y (contains-flat_map f zs x y (k, omega (arith, below), same) has)

range-has : (n k : ℕ) → 1 ≤ k → k ≤ n → Contains (range_with_len 1 n) k
range-has n k one few =
    let i = k - 1 in
    let below : i < n = omega (arith, one, few) in
    let at : get_or (range_with_len 1 n) i k ≡ k = get_or-range_with_len 1 n i k below ∙ omega (arith, one) in
    (i, omega (arith, below, length-range_with_len 1 n), at)

same-place : (x : Place) (rate : EgressPort → Rate) (p : EgressPort) → x.at ≡ p → x.rate ≡ rate x.at → x ≡ place_at rate p
same-place x rate p at is =
    let to : EgressPort → Rate → Place = λ q r. record { at = q; rate = r } in
    ap (λ (r : Rate). to x.at r) is ∙ ap (λ (q : EgressPort). to q (rate q)) at

abbrev pub HasRates : Setting → (EgressPort → Rate) → Type 0
HasRates s rate = All (λ x. x.rate ≡ rate x.at) (all_places s.tree.links s.rates)

pub listed-is : (s : Setting) (rate : EgressPort → Rate) → HasRates s rate → (x : Place) (p : EgressPort) → Contains (all_places s.tree.links s.rates) x → x.at ≡ p → x ≡ place_at rate p
listed-is s rate rates x p there at =
    same-place x rate p at (All-contains (λ y. y.rate ≡ rate y.at) (all_places s.tree.links s.rates) x rates there)

pub listed : (s : Setting) → HasPortLaws s.tree → (rate : EgressPort → Rate) → HasRates s rate → (p : EgressPort) → HasPort s.tree p
    → Contains (all_places s.tree.links s.rates) (place_at rate p)
listed s laws rate rates p port =
    let links = s.tree.links in
    let places = all_places links s.rates in
    let found = laws.port_end p port in
    let n = found.0 in
    let ends = ends_of links n in
    let bits = get_or s.rates (n - 1) M100 in
    let a : Place = record { at = ends.0; rate = bits } in
    let b : Place = record { at = ends.1; rate = bits } in
    let link = range-has (length links) n found.1.0 found.1.1 in
    let into : (x : Place) → Contains (places_of_link links s.rates n) x → x.at ≡ p → Contains places (place_at rate p) =
    λ x has at.
    (let there = contains-flat_map (places_of_link links s.rates) (range_with_len 1 (length links)) n x link has in
    subst (λ (t : Place). Contains places t) (listed-is s rate rates x p there at) there) in
    elim found.2 [
      | inl e ↦ into a (zero, omega arith, refl) (sym e)
      | inr e ↦ into b (suc zero, omega arith, refl) (sym e)
    ]

-- a node's ports are listed
pub ports-have : (tree : Topology) (x : ℕ) (r : EgressPort) → HasPort tree r → r.node.0 ≡ x → Contains (ports_at tree.links x) r
ports-have tree x r port node =
    let n = length (neighbours tree.links r.node.0) in
    let one = contains-map (port_of r.node.0) (range_with_len 1 n) r.port.0 (range-has n r.port.0 port.1 port.2) in
    subst (λ (y : ℕ). Contains (ports_at tree.links y) r) node one

-- ---- frames by their numbers

pub one-frame : (s : Setting) → IsSetting s → (f g : Frame) → Contains s.frames f → Contains s.frames g → f.number ≡ g.number → f ≡ g
one-frame s given f g has_f has_g same =
    let known = known-each s.frames given.range.numbers in
    let K : Frame → Type 0 = λ h. find (λ k. k.number == h.number) s.frames ≡ Some h in
    let one = All-contains K s.frames f known has_f in
    let other = All-contains K s.frames g known has_g in
    let some : Some f ≡ Some g = sym one ∙ ap (λ (n : ℕ). find (λ k. k.number == n) s.frames) same ∙ other in
    cc

-- ---- the copies at a port that may be sent

-- a network with a flow through it, and a rate for each port
pub record Network (s : Setting) (flows : List PortFlow) (rate : EgressPort → Rate) : Type 0 where
  pub given : IsSetting s
  pub laws : HasPortLaws s.tree
  pub flow : IsFlow s flows
  pub rates : HasRates s rate
  pub order : (input : PortInput) (traffic : Traffic) → IsPortInput input
      → DepartInOrder (filter (is_of traffic) input.arrivals) (filter (departs_as traffic) (sent_of input)) (filter (is_of traffic) (left_of input))

pub copy-there : (s : Setting) (flows : List PortFlow) (rate : EgressPort → Rate) (p : EgressPort) (c : FrameCopy) → Contains (sendable_at s flows rate p) c
    → Contains (copies_at s flows rate p) c × (may_go s rate p c ≡ true)
copy-there s flows rate p c there =
    let may = may_go s rate p in
    let cs = copies_at s flows rate p in (
      All-contains (Contains cs) (filter may cs) c (All-filter may (Contains cs) cs (All-contains_itself cs)) there,
      All-contains (λ d. may d ≡ true) (filter may cs) c (filter_passes may cs) there,
    )

pub differ-there : (s : Setting) (flows : List PortFlow) (rate : EgressPort → Rate) → Network s flows rate → (p : EgressPort) → HasPort s.tree p
    → AllPairs Differ (sendable_at s flows rate p)
differ-there s flows rate net p port =
    AllPairs-filter Differ (may_go s rate p) (copies_at s flows rate p) (once-copies s net.given net.laws flows net.flow (place_at rate p) port)

pub found-copy : (cs : List FrameCopy) (c : FrameCopy) → AllPairs Differ cs → Contains cs c → copy_in cs c.frame.number ≡ Some c
found-copy cs c apart (k, below, same) =
    let n = c.frame.number in
    let number : FrameCopy → ℕ = λ d. d.frame.number in
    find-here (λ d. d.frame.number == n) cs k c below
    (λ j lt. ne_eqb (get_or cs j c).frame.number n (λ e. apart j k c lt below (e ∙ sym (ap number same))))
    (eq-eqb (get_or cs k c).frame.number n (ap number same))
    ∙ ap (λ (d : FrameCopy). Some d) same

at-found : (cs : List FrameCopy) (rate : Rate) (n : ℕ) (P : Option ℕ → Type 0) → P None
    → ((c : FrameCopy) → Contains cs c → c.frame.number ≡ n → P (Some (moment_of rate c.bit)))
    → (o : Option FrameCopy) → copy_in cs n ≡ o → P (moment_in rate o)
at-found cs rate n P none some None e = none
at-found cs rate n P none some (Some c) e =
    let found = All-find (Contains cs) (λ d. d.frame.number == n) cs c (All-contains_itself cs) e in
    some c found.0 (eqb-true c.frame.number n found.1)

-- a frame is at a port by its copy, or not at all
pub at-copy : (s : Setting) (flows : List PortFlow) (rate : EgressPort → Rate) (p : EgressPort) (f : Frame) (P : Option ℕ → Type 0) → P None
    → ((c : FrameCopy) → Contains (sendable_at s flows rate p) c → c.frame.number ≡ f.number → P (Some (moment_of (rate p) c.bit)))
    → P (there_at s flows rate p f)
at-copy s flows rate p f P none some =
    at-found (sendable_at s flows rate p) (rate p) f.number P none some (copy_in (sendable_at s flows rate p) f.number) refl

-- a copy is of a frame of its station, in the first bit time from then on
pub record FromStation (rate : EgressPort → Rate) (p : EgressPort) (c : FrameCopy) : Type 0 where
  pub from : c.frame.from.0 ≡ p.node.0
  pub bit : c.bit ≡ bit_from (rate p) c.frame.at.0

-- or of one that departed before, as a copy that could be sent there
pub record FromBefore (s : Setting) (flows : List PortFlow) (rate : EgressPort → Rate) (p : EgressPort) (c : FrameCopy) (via : EgressPort) : Type 0 where
  pub before : IsBefore s p via
  pub copy : FrameCopy
  pub there : Contains (sendable_at s flows rate (peer_of s.tree.links via)) copy
  pub same : copy.frame ≡ c.frame
  pub start : ℕ
  pub end : ℕ
  pub fate : Contains (flow_there s flows rate (peer_of s.tree.links via)).fates (copy.frame.number, Departed start end)
  pub after : copy.bit ≤ start
  pub bits : end ≡ start + copy.frame.bits
  pub bit : c.bit ≡ bit_from (rate p) (moment_of (rate (peer_of s.tree.links via)) end)
  pub behind : is_behind s.tree.links via c.frame.from.0 ≡ true

pub frame-node : (s : Setting) → IsSetting s → (f : Frame) → Contains s.frames f → HasNode s.tree f.from.0
frame-node s given f has =
    let N : Frame → Type 0 = λ g. HasNode s.tree g.from.0 in
    All-contains N s.frames f (All-weaker (IsFrame s.tree s.ticks) N (λ g h. h.from) s.frames given.range.frames) has

pub from-before : (s : Setting) (flows : List PortFlow) (rate : EgressPort → Rate) → Network s flows rate → (p : EgressPort) (c : FrameCopy) (moment : ℕ)
    → Contains s.frames c.frame → c.bit ≡ bit_from (rate p) moment → (over : ComesOver s flows p c.frame moment) → FromBefore s flows rate p c over.via
from-before s flows rate net p c moment has bit over =
    let links = s.tree.links in
    let q = peer_of links over.via in
    let there = place_at rate q in
    let found = flow-of s flows net.flow q over.flow over.there in
    let same_flow : over.flow ≡ flow_there s flows rate q =
    found.flow ∙ ap (λ (x : Place). port_flow s flows x) (listed-is s rate net.rates found.place q found.listed found.at) in
    let fate = subst (λ (x : PortFlow). Contains x.fates (c.frame.number, Departed over.start over.end)) same_flow over.fate in
    let port_q = net.laws.peer_port over.via over.port in
    let of = departed s net.given net.order flows there (listed s net.laws rate net.rates q port_q) c.frame.number over.start over.end fate in
    let source = All-contains (HasSource s flows there) (copies_at s flows rate q) of.copy (sources s flows there port_q) of.there in
    let same = one-frame s net.given of.copy.frame c.frame source.frame has of.numbered in
    let aside = All-contains (λ (d : FrameCopy). is_behind links q d.frame.from.0 ≡ false) (copies_at s flows rate q) of.copy
    (side-copies s net.given net.laws flows net.flow there port_q) of.there in
    let away = subst (λ (f : Frame). is_behind links q f.from.0 ≡ false) same aside in
    let y = c.frame.from.0 in
    let back : is_behind links (peer_of links q) y ≡ true =
    not-true-false (is_behind links (peer_of links q) y) (sym (net.laws.sides q y port_q (frame-node s net.given c.frame has)) ∙ away) in
    record {
      before = record { port = over.port; node = over.node; other = over.other };
      copy = of.copy;
      there = contains-filter (may_go s rate q) (copies_at s flows rate q) of.copy of.there of.sent;
      same = same;
      start = over.start;
      end = over.end;
      fate = subst (λ (n : ℕ). Contains (flow_there s flows rate q).fates (n, Departed over.start over.end)) (sym of.numbered) fate;
      after = of.after;
      bits = of.bits;
      bit = bit ∙ ap (λ (m : ℕ). bit_from (rate p) m) (over.sent ∙ ap (λ (x : PortFlow). moment_of x.input.rate over.end) same_flow);
      behind = subst (λ (t : EgressPort). is_behind links t y ≡ true) (net.laws.peer_twice over.via over.port) back;
    }

pub origin : (s : Setting) (flows : List PortFlow) (rate : EgressPort → Rate) → Network s flows rate → (p : EgressPort) → HasPort s.tree p → (c : FrameCopy)
    → Contains (sendable_at s flows rate p) c → Contains s.frames c.frame × (FromStation rate p c ⊎ ((via : EgressPort) × FromBefore s flows rate p c via))
origin s flows rate net p port c there =
    let place = place_at rate p in
    let here = (copy-there s flows rate p c there).0 in
    let source = All-contains (HasSource s flows place) (copies_at s flows rate p) c (sources s flows place port) here in (
      source.frame,
      elim source.source [
        | inl own ↦ inl (record { from = own.from; bit = source.bit ∙ ap (λ (m : ℕ). bit_from (rate p) m) own.sent })
        | inr over ↦ inr (over.via, from-before s flows rate net p c source.moment source.frame source.bit over)
      ],
    )

-- no copy's station lies behind the port
pub aside-there : (s : Setting) (flows : List PortFlow) (rate : EgressPort → Rate) → Network s flows rate → (p : EgressPort) → HasPort s.tree p → (c : FrameCopy)
    → Contains (sendable_at s flows rate p) c → is_behind s.tree.links p c.frame.from.0 ≡ false
aside-there s flows rate net p port c there =
    All-contains (λ (d : FrameCopy). is_behind s.tree.links p d.frame.from.0 ≡ false) (copies_at s flows rate p) c
    (side-copies s net.given net.laws flows net.flow (place_at rate p) port) (copy-there s flows rate p c there).0

-- a frame of a number that has a copy at a port is that copy's
pub frame-is : (s : Setting) (flows : List PortFlow) (rate : EgressPort → Rate) → Network s flows rate → (p : EgressPort) → HasPort s.tree p → (c : FrameCopy) (f : Frame)
    → Contains (sendable_at s flows rate p) c → Contains s.frames f → c.frame.number ≡ f.number → c.frame ≡ f
frame-is s flows rate net p port c f there has same =
    one-frame s net.given c.frame f (origin s flows rate net p port c there).0 has same

-- it is there before the run's end
pub early-there : (s : Setting) (flows : List PortFlow) (rate : EgressPort → Rate) (p : EgressPort) → HasPort s.tree p → (c : FrameCopy)
    → Contains (sendable_at s flows rate p) c → c.bit < bits_of_ticks (rate p) s.ticks
early-there s flows rate p port c there =
    (All-contains (HasSource s flows (place_at rate p)) (copies_at s flows rate p) c (sources s flows (place_at rate p) port) (copy-there s flows rate p c there).0).early

-- a frame that is there has a copy
pub has-copy : (s : Setting) (flows : List PortFlow) (rate : EgressPort → Rate) → Network s flows rate → (p : EgressPort) → HasPort s.tree p → (f : Frame) → Contains s.frames f
    → is_there s flows rate p f ≡ true → (c : FrameCopy) × Contains (sendable_at s flows rate p) c × (c.frame ≡ f)
has-copy s flows rate net p port f known there =
    at-copy s flows rate p f (λ o. has_moment o ≡ true → (c : FrameCopy) × Contains (sendable_at s flows rate p) c × (c.frame ≡ f))
    (λ nay. absurd (false≢true nay)) (λ c at number yes_. (c, at, frame-is s flows rate net p port c f at known number)) there

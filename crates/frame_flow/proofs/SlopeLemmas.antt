-- What a port's shaper is given is in order and in its ranges.
use Rattle.std.proofs.Common.{◌≡◌, ℕ, ◌+◌, ◌^◌, ◌<◌, ◌≤◌, inl, inr, Bool, true, cond, List, [], ◌∷◌, length, get_or, map, Option, Some, None, refl, sym, ◌∙◌, subst, arith}
use Rattle.std.specs.Prelude.{All, AllPairs, Contains, filter, nat_lt, nat_le, ◌==◌, ◌&&◌, not}
use Rattle.std.specs.List.{AllAdjacentBelow}
use Rattle.std.proofs.lemmas.{Bool.cond_both, Bool.eqb-true, Bool.ltb-true, Bool.and_parts, List.Elements.All-nil, List.Elements.All-cons, List.Elements.All-head, List.Elements.All-tail, List.Elements.All-map, List.Elements.All-filter, List.Elements.All-weaker, List.Elements.All-contains, List.Elements.filter_passes, List.Kept.AllPairs-cons, List.Kept.AllPairs-filter}
use Rattle.std.proofs.Math.Nat.{mul-lt-mul_of_pos_right}
use Rattle.std.proofs.Math.Dec.{lit<}
use Rattle.srp_base.specs.declared.{numbers.EgressPort.EgressPort, bandwidth.Rate.Rate, ports.PortChange.PortChange}
use Rattle.srp_base.specs.declared.bandwidth.Rate.TheVariants.{M100, G1, G10}
use Rattle.srp_base.specs.Bandwidth.{bits_of}
use Rattle.credit_shaper.specs.declared.port.SlopeChange.{SlopeChange}
use Rattle.credit_shaper.specs.Port.{IsPortInput, AreSlopes, AreArrivals, IsNotAfter, IsFrameSize}
use Rattle.credit_shaper.proofs.{PairLemmas.AllPairs-map, PairLemmas.AllPairs-weaker, PairLemmas.pairs-from-adjacent, PairLemmas.pairs-head, PairLemmas.pairs-none, PairLemmas.pairs-tail, PortLemmas.some_rate}
use Rattle.frame_flow.specs.{Frame, FrameCopy, Place, tick_bits_of, bits_of_ticks, is_port, changes_at, in_force, last_upto, does_change, slopes_of_change, first_slopes, later_slopes, slopes_over, PortFlow, is_not_after, all_places, arriving, Setting, arrival_of, may_send, force_on, port_input, IsInOrder, IsEarlier, IsFrame, IsSetting, HasSlopesBelow}
use Rattle.frame_flow.proofs.{OrderLemmas.lex-is, CopyLemmas.IsArrived, CopyLemmas.All-arriving, CopyLemmas.order-arriving, LevelLemmas.same-port as one-port}

-- ---- slopes

tick-some : (rate : Rate) → 0 < tick_bits_of rate
tick-some M100 = lit< tt
tick-some G1 = lit< tt
tick-some G10 = lit< tt

later-tick : (rate : Rate) (s t : ℕ) → s < t → bits_of_ticks rate s < bits_of_ticks rate t
later-tick rate s t h = mul-lt-mul_of_pos_right {m = s} {n = t} {k = tick_bits_of rate} h (tick-some rate)

abbrev pub IsLater : ℕ → PortChange → Type 0
IsLater t c = 0 < c.tick → t < c.tick

is-changing : (ticks : ℕ) (last : SlopeChange) (c : PortChange) → does_change ticks last c ≡ true → 0 < c.tick
is-changing ticks last c is =
    let other = not ((c.slope_a == last.slope_a) && (c.slope_b == last.slope_b)) in
    let within = (and_parts (nat_lt 0 c.tick && nat_lt c.tick ticks) other is).0 in
    ltb-true 0 c.tick (and_parts (nat_lt 0 c.tick) (nat_lt c.tick ticks) within).0

pub slopes-after : (rate : Rate) (ticks t : ℕ) (last : SlopeChange) (cs : List PortChange) → All (IsLater t) cs
    → All (λ e. bits_of_ticks rate t < e.bit) (later_slopes rate ticks last cs)
slopes-after rate ticks t last [] all = All-nil (λ e. bits_of_ticks rate t < e.bit)
slopes-after rate ticks t last (c ∷ cs) all =
    let P : SlopeChange → Type 0 = λ e. bits_of_ticks rate t < e.bit in
    let e = slopes_of_change rate c in
    let rest = All-tail (IsLater t) c cs all in
    let test = does_change ticks last c in
    cond_both test (e ∷ later_slopes rate ticks e cs) (later_slopes rate ticks last cs) (λ xs. All P xs)
    (λ is. All-cons P e (later_slopes rate ticks e cs)
    (later-tick rate t c.tick (All-head (IsLater t) c cs all (is-changing ticks last c is)))
    (slopes-after rate ticks t e cs rest))
    (λ nay. slopes-after rate ticks t last cs rest)

abbrev pub IsBefore : PortChange → PortChange → Type 0
IsBefore c d = c.tick < d.tick

abbrev Ascends : SlopeChange → SlopeChange → Type 0
Ascends x y = x.bit < y.bit

slopes-ascend : (rate : Rate) (ticks : ℕ) (last : SlopeChange) (cs : List PortChange) → AllPairs IsBefore cs → AllPairs Ascends (later_slopes rate ticks last cs)
slopes-ascend rate ticks last [] h = pairs-none Ascends
slopes-ascend rate ticks last (c ∷ cs) h =
    let e = slopes_of_change rate c in
    let rest = pairs-tail IsBefore c cs h in
    cond_both (does_change ticks last c) (e ∷ later_slopes rate ticks e cs) (later_slopes rate ticks last cs) (λ xs. AllPairs Ascends xs)
    (λ is. AllPairs-cons Ascends e (later_slopes rate ticks e cs)
    (slopes-after rate ticks c.tick e cs (All-weaker (IsBefore c) (IsLater c.tick) (λ d lt some. lt) cs (pairs-head IsBefore c cs h)))
    (slopes-ascend rate ticks e cs rest))
    (λ nay. slopes-ascend rate ticks last cs rest)

abbrev IsBelow : Rate → PortChange → Type 0
IsBelow rate c = c.slope_a + c.slope_b < bits_of rate

abbrev AreBelow : Rate → SlopeChange → Type 0
AreBelow rate e = (e.slope_a < bits_of rate) × (e.slope_b < bits_of rate)

slopes-below : (rate : Rate) (ticks : ℕ) (last : SlopeChange) (cs : List PortChange) → All (IsBelow rate) cs → All (AreBelow rate) (later_slopes rate ticks last cs)
slopes-below rate ticks last [] all = All-nil (AreBelow rate)
slopes-below rate ticks last (c ∷ cs) all =
    let e = slopes_of_change rate c in
    let here = All-head (IsBelow rate) c cs all in
    let rest = All-tail (IsBelow rate) c cs all in
    cond_both (does_change ticks last c) (e ∷ later_slopes rate ticks e cs) (later_slopes rate ticks last cs) (λ xs. All (AreBelow rate) xs)
    (λ is. All-cons (AreBelow rate) e (later_slopes rate ticks e cs) (omega (arith, here), omega (arith, here)) (slopes-below rate ticks e cs rest))
    (λ nay. slopes-below rate ticks last cs rest)

-- what is in force is one of the changes
abbrev IfForce : (PortChange → Type 0) → Option PortChange → Type 0
IfForce P None = Unit {0}
IfForce P (Some c) = P c

force-is : (P : PortChange → Type 0) (tick : ℕ) (newest : Option PortChange) (cs : List PortChange) → IfForce P newest → All P cs → IfForce P (last_upto tick newest cs)
force-is P tick newest [] now all = now
force-is P tick newest (c ∷ cs) now all =
    force-is P tick (cond (nat_le c.tick tick) (Some c) newest) cs
    (cond_both (nat_le c.tick tick) (Some c) newest (IfForce P) (λ e. All-head P c cs all) (λ e. now)) (All-tail P c cs all)

pub first-zero : (force : Option PortChange) → (first_slopes force).bit ≡ 0
first-zero None = refl
first-zero (Some c) = refl

first-below : (rate : Rate) (force : Option PortChange) → 0 < bits_of rate → IfForce (IsBelow rate) force → AreBelow rate (first_slopes force)
first-below rate None some h = (some, some)
first-below rate (Some c) some h = (omega (arith, h), omega (arith, h))

pub slopes-good : (rate : Rate) (ticks : ℕ) (cs : List PortChange) → AllPairs IsBefore cs → All (IsBelow rate) cs → AreSlopes rate (slopes_over rate ticks cs)
slopes-good rate ticks cs up below =
    let force = in_force 0 cs in
    let first = first_slopes force in
    let later = later_slopes rate ticks first cs in
    let none : bits_of_ticks rate 0 ≡ 0 = omega arith in
    record {
      begin = first-zero force;
      ascend = AllPairs-cons Ascends first later
          (All-weaker (λ e. bits_of_ticks rate 0 < e.bit) (λ e. first.bit < e.bit) (λ e h. omega (arith, h, first-zero force, none)) later
          (slopes-after rate ticks 0 first cs (λ k d lt some. some)))
          (slopes-ascend rate ticks first cs up);
      below = All-cons (AreBelow rate) first later
          (first-below rate force (some_rate rate) (force-is (IsBelow rate) 0 None cs tt below)) (slopes-below rate ticks first cs below);
    }

-- ---- arrivals

abbrev NotAfter : FrameCopy → FrameCopy → Type 0
NotAfter x y = is_not_after x y ≡ true

pub arrivals-good : (rate : Rate) (place : Place) (ticks : ℕ) (test : FrameCopy → Bool) (copies : List FrameCopy) → IsInOrder copies
    → All (IsArrived (λ f. IsFrameSize f.bits) place ticks) copies → AreArrivals (bits_of_ticks place.rate ticks) (map arrival_of (filter test copies))
arrivals-good rate place ticks test copies order all =
    let A : FrameCopy → Type 0 = IsArrived (λ f. IsFrameSize f.bits) place ticks in
    let kept = All-filter test A copies all in
    let some = filter test copies in
    record {
      ascend = AllPairs-map NotAfter IsNotAfter arrival_of (λ x y e. lex-is x.bit x.frame.number y.bit y.frame.number e) some
          (AllPairs-filter NotAfter test copies order);
      in_time = All-map (λ x. x.bit < bits_of_ticks place.rate ticks) arrival_of some (λ k d below. (kept k d below).early);
      sizes = All-map (λ x. IsFrameSize x.bits) arrival_of some (λ k d below. (kept k d below).frame);
    }

few-bits : (rate : Rate) (ticks : ℕ) → ticks ≤ 12000 → bits_of_ticks rate ticks ≤ 2 ^ 41
few-bits M100 ticks h = omega (arith, h)
few-bits G1 ticks h = omega (arith, h)
few-bits G10 ticks h = omega (arith, h)

pub input-good : (place : Place) (ticks : ℕ) (changes : List PortChange) (copies : List FrameCopy) → ticks ≤ 12000 → AllPairs IsBefore changes
    → All (IsBelow place.rate) changes → IsInOrder copies → All (IsArrived (λ f. IsFrameSize f.bits) place ticks) copies
    → IsPortInput (port_input ticks place.rate changes copies)
input-good place ticks changes copies few up below order all = record {
  slopes = slopes-good place.rate ticks changes up below;
  arrivals = arrivals-good place.rate place ticks (λ c. may_send c (force_on place.rate changes c)) copies order all;
  end = few-bits place.rate ticks few;
}

-- ---- the changes at a port

same-port : (p q : EgressPort) → is_port p q ≡ true → (p.node.0 ≡ q.node.0) × (p.port.0 ≡ q.port.0)
same-port p q is =
    let parts = and_parts (p.node.0 == q.node.0) (p.port.0 == q.port.0) is in
    (eqb-true p.node.0 q.node.0 parts.0, eqb-true p.port.0 q.port.0 parts.1)

earlier-there : (p : EgressPort) (c d : PortChange) → is_port c.at p ≡ true → is_port d.at p ≡ true → IsEarlier c d → IsBefore c d
earlier-there p c d here there (inl lt) =
    absurd (omega (arith, lt, (same-port c.at p here).0, (same-port d.at p there).0))
earlier-there p c d here there (inr later) =
    elim later.1 [
      | inl lt ↦ absurd (omega (arith, lt, (same-port c.at p here).1, (same-port d.at p there).1))
      | inr tick ↦ tick.1
    ]

pub changes-ascend : (changes : List PortChange) (p : EgressPort) → AllPairs IsEarlier changes → AllPairs IsBefore (changes_at changes p)
changes-ascend changes p up =
    let test : PortChange → Bool = λ c. is_port c.at p in
    AllPairs-weaker IsEarlier IsBefore (λ c. test c ≡ true) (λ c d here there h. earlier-there p c d here there h) (changes_at changes p)
    (filter_passes test changes) (AllPairs-filter IsEarlier test changes up)

-- ---- at a port of the tree

slopes-there : (changes : List PortChange) (place : Place) → HasSlopesBelow changes place → All (IsBelow place.rate) (changes_at changes place.at)
slopes-there changes place below =
    let test : PortChange → Bool = λ c. is_port c.at place.at in
    let Q : PortChange → Type 0 = λ c. c.at ≡ place.at → IsBelow place.rate c in
    λ k d few. All-filter test Q changes below k d few (one-port (get_or (changes_at changes place.at) k d).at place.at (filter_passes test changes k d few))

pub port-input : (s : Setting) → IsSetting s → (flows : List PortFlow) (place : Place) → Contains (all_places s.tree.links s.rates) place
    → (changes : List PortChange) (copies : List FrameCopy) → changes ≡ changes_at s.changes place.at
    → copies ≡ arriving s.tree.links s.frames s.ticks flows place → IsPortInput (port_input s.ticks place.rate changes copies)
port-input s given flows place there changes copies one two =
    let links = s.tree.links in
    let I : List PortChange → List FrameCopy → Type 0 = λ cs xs. IsPortInput (port_input s.ticks place.rate cs xs) in
    let there_changes = changes_at s.changes place.at in
    let there_copies = arriving links s.frames s.ticks flows place in
    let sizes = All-arriving (λ f. IsFrameSize f.bits) links s.frames s.ticks flows place
    (All-weaker (IsFrame s.tree s.ticks) (λ f. IsFrameSize f.bits) (λ f h. h.size) s.frames given.range.frames) in
    let good : I there_changes there_copies =
    input-good place s.ticks there_changes there_copies given.range.ticks.1 (changes-ascend s.changes place.at given.range.changes)
    (slopes-there s.changes place (All-contains (HasSlopesBelow s.changes) (all_places links s.rates) place given.slopes there))
    (order-arriving links s.frames s.ticks flows place) sizes in
    subst (λ (xs : List FrameCopy). I changes xs) (sym two) (subst (λ (cs : List PortChange). I cs there_copies) (sym one) good)

pub port-input-at : (s : Setting) → IsSetting s → (flows : List PortFlow) (place : Place) → Contains (all_places s.tree.links s.rates) place
    → (ticks : ℕ) → ticks ≡ s.ticks → (changes : List PortChange) (copies : List FrameCopy) → changes ≡ changes_at s.changes place.at
    → copies ≡ arriving s.tree.links s.frames s.ticks flows place → IsPortInput (port_input ticks place.rate changes copies)
port-input-at s given flows place there ticks same changes copies one two =
    subst (λ (n : ℕ). IsPortInput (port_input n place.rate changes copies)) (sym same) (port-input s given flows place there changes copies one two)

-- ---- in order with the next is in order with each later one

number_along : (f g h : Frame) → f.number < g.number → g.number < h.number → f.number < h.number
number_along f g h one two = omega (arith, one, two)

earlier_along : (c d e : PortChange) → IsEarlier c d → IsEarlier d e → IsEarlier c e
earlier_along c d e (inl one) (inl two) = inl (omega (arith, one, two))
earlier_along c d e (inl one) (inr two) = inl (omega (arith, one, two.0))
earlier_along c d e (inr one) (inl two) = inl (omega (arith, one.0, two))
earlier_along c d e (inr one) (inr two) =
    inr (
      one.0 ∙ two.0,
      elim one.1 [
        | inl p ↦ elim two.1 [ inl q ↦ inl (omega (arith, p, q)) | inr q ↦ inl (omega (arith, p, q.0)) ]
        | inr p ↦ elim two.1 [ inl q ↦ inl (omega (arith, p.0, q)) | inr q ↦ inr (p.0 ∙ q.0, omega (arith, p.1, q.1)) ]
      ],
    )

pub numbers-ascend : (frames : List Frame) → AllAdjacentBelow (λ f g. f.number < g.number) frames (length frames) → AllPairs (λ f g. f.number < g.number) frames
numbers-ascend frames next = pairs-from-adjacent (λ f g. f.number < g.number) number_along frames next

pub changes-earlier : (changes : List PortChange) → AllAdjacentBelow IsEarlier changes (length changes) → AllPairs IsEarlier changes
changes-earlier changes next = pairs-from-adjacent IsEarlier earlier_along changes next

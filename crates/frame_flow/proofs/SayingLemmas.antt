-- Two lists of changes that say the same of a port in each tick give its shaper the same, and its copies the same fates.
use Rattle.std.proofs.Common.{◌≡◌, ℕ, zero, suc, ◌+◌, ◌-◌, ◌<◌, ◌≤◌, Bool, inl, inr, true, false, List, [], ◌∷◌, map, filter, find, Option, Some, None, cond, refl, sym, ◌∙◌, ap, subst, arith}
use Rattle.std.specs.Prelude.{All, AllPairs, nat_lt, nat_le, ◌==◌, ◌&&◌, not}
use Rattle.std.proofs.lemmas.{Bool.cond-true, Bool.cond-false, Bool.cases_Bool, Bool.cases_lt, Bool.eq-eqb, Bool.le-leb, Bool.le-ltb, Bool.and_left, Bool.and_right, Bool.and_parts, Bool.and_from, Bool.false≢true, List.Elements.All-nil, List.Elements.All-cons, List.Elements.All-head, List.Elements.All-tail, List.Elements.All-weaker}
use Rattle.srp_base.proofs.Lists.{map-same as map_same}
use Rattle.srp_base.specs.declared.{bandwidth.Rate.Rate, numbers.EgressPort.EgressPort, ports.PortChange.PortChange}
use Rattle.credit_shaper.specs.declared.{port.Departure.Departure, port.PortInput.PortInput, port.SlopeChange.SlopeChange}
use Rattle.credit_shaper.specs.Departures.{sent_of}
use Rattle.credit_shaper.proofs.PairLemmas.{pairs-head, pairs-tail}
use Rattle.tree_topology.specs.{Topology.HasPort, PortLaws.HasPortLaws}
use Rattle.frame_flow.specs.{Frame, FrameCopy, Route, Stream, To, Place, Fate, Unbooked, NoVlan, PortFlow, bits_of_ticks, tick_at, changes_at, does_change, first_slopes, has_vid, in_force, last_upto, later_slopes, slopes_of_change, slopes_over, all_places, arriving, Setting, IsFlow, arrival_of, fate_of, fates_of, flow_of_copies, force_on, is_unbooked, may_send, port_flow, port_input, sent_fate, IsEarlier, IsSameForce, SayTheSame}
use Rattle.frame_flow.proofs.{CopyLemmas.IsArrived, CopyLemmas.All-arriving, ForceLemmas.not-begun, ForceLemmas.same-slopes, ForceLemmas.upto-later, LevelLemmas.places-are, SlopeLemmas.IsBefore, SlopeLemmas.changes-ascend}

-- ---- the slopes that a shaper is given, tick by tick

abbrev slopes_with : ℕ → ℕ → ℕ → SlopeChange
slopes_with bit a b = record { bit = bit; slope_a = a; slope_b = b }

abbrev slopes_at_tick : Rate → ℕ → ℕ → ℕ → SlopeChange
slopes_at_tick rate t a b = slopes_with (bits_of_ticks rate t) a b

-- an entry for each of n ticks, from tick t on, in which the slopes are others than before
abbrev entries : Rate → (ℕ → ℕ) → (ℕ → ℕ) → ℕ → ℕ → ℕ → ℕ → List SlopeChange
entries rate a b zero t before_a before_b = []
entries rate a b (suc n) t before_a before_b =
    cond ((a t == before_a) && (b t == before_b)) (entries rate a b n (suc t) before_a before_b)
    (slopes_at_tick rate t (a t) (b t) ∷ entries rate a b n (suc t) (a t) (b t))

same_entries : (rate : Rate) (a b : ℕ → ℕ) (n t before_a before_b : ℕ) → a t ≡ before_a → b t ≡ before_b
    → entries rate a b (suc n) t before_a before_b ≡ entries rate a b n (suc t) before_a before_b
same_entries rate a b n t before_a before_b is_a is_b =
    cond-true ((a t == before_a) && (b t == before_b)) (entries rate a b n (suc t) before_a before_b)
    (slopes_at_tick rate t (a t) (b t) ∷ entries rate a b n (suc t) (a t) (b t))
    (and_from (a t == before_a) (b t == before_b) (eq-eqb (a t) before_a is_a) (eq-eqb (b t) before_b is_b))

-- from tick t on the slopes by changes, and before the first of them by what was in force, are these
abbrev Slopes : (ℕ → ℕ) → (ℕ → ℕ) → ℕ → ℕ → Option PortChange → List PortChange → Type 0
Slopes a b ticks t newest cs =
    (u : ℕ) → t ≤ u → u < ticks
    → ((first_slopes (last_upto u newest cs)).slope_a ≡ a u) × ((first_slopes (last_upto u newest cs)).slope_b ≡ b u)

none_later : (rate : Rate) (ticks : ℕ) (last : SlopeChange) (cs : List PortChange) → All (λ c. ticks ≤ c.tick) cs → later_slopes rate ticks last cs ≡ []
none_later rate ticks last [] all = refl
none_later rate ticks last (c ∷ cs) all =
    let P : PortChange → Type 0 = λ x. ticks ≤ x.tick in
    let e = slopes_of_change rate c in
    let off : does_change ticks last c ≡ false =
    and_left (nat_lt 0 c.tick && nat_lt c.tick ticks) (not ((c.slope_a == last.slope_a) && (c.slope_b == last.slope_b)))
    (and_right (nat_lt 0 c.tick) (nat_lt c.tick ticks) (le-ltb c.tick ticks (All-head P c cs all)))
    in
    cond-false (does_change ticks last c) (e ∷ later_slopes rate ticks e cs) (later_slopes rate ticks last cs) off
    ∙ none_later rate ticks last cs (All-tail P c cs all)

-- a change that has come is what was in force from then on
come_before : (u : ℕ) (newest : Option PortChange) (c : PortChange) (cs : List PortChange) → c.tick ≤ u → last_upto u newest (c ∷ cs) ≡ last_upto u (Some c) cs
come_before u newest c cs le = ap (λ (o : Option PortChange). last_upto u o cs) (cond-true (nat_le c.tick u) (Some c) newest (le-leb c.tick u le))

-- where a change changes a slope, the entry of its tick is made
other_entries : (rate : Rate) (a b : ℕ → ℕ) (ticks n t : ℕ) (last : SlopeChange) (c : PortChange) → does_change ticks last c ≡ true
    → a t ≡ c.slope_a → b t ≡ c.slope_b
    → entries rate a b (suc n) t last.slope_a last.slope_b ≡ slopes_at_tick rate t c.slope_a c.slope_b ∷ entries rate a b n (suc t) c.slope_a c.slope_b
other_entries rate a b ticks n t last c does is_a is_b =
    let test : ℕ → ℕ → Bool = λ x y. (x == last.slope_a) && (y == last.slope_b) in
    let skip = entries rate a b n (suc t) last.slope_a last.slope_b in
    let take : ℕ → ℕ → List SlopeChange = λ x y. slopes_at_tick rate t x y ∷ entries rate a b n (suc t) x y in
    let other : not (test c.slope_a c.slope_b) ≡ true = (and_parts (nat_lt 0 c.tick && nat_lt c.tick ticks) (not (test c.slope_a c.slope_b)) does).1 in
    ap (λ (x : ℕ). cond (test x (b t)) skip (take x (b t))) is_a
    ∙ ap (λ (y : ℕ). cond (test c.slope_a y) skip (take c.slope_a y)) is_b
    ∙ cond-false (test c.slope_a c.slope_b) skip (take c.slope_a c.slope_b) (not-not (test c.slope_a c.slope_b) other)
  where
    not-not : (x : Bool) → not x ≡ true → x ≡ false
    not-not false is = refl
    not-not true is = absurd (false≢true is)

-- the entries of changes that ascend are those of the slopes tick by tick
walked : (rate : Rate) (a b : ℕ → ℕ) (n ticks t : ℕ) → t + n ≡ ticks → 0 < t → (last : SlopeChange) (newest : Option PortChange) (cs : List PortChange)
    → AllPairs IsBefore cs → All (λ c. t ≤ c.tick) cs → last.slope_a ≡ (first_slopes newest).slope_a → last.slope_b ≡ (first_slopes newest).slope_b
    → Slopes a b ticks t newest cs → later_slopes rate ticks last cs ≡ entries rate a b n t last.slope_a last.slope_b
walked rate a b zero ticks t sum some last newest cs up from is_a is_b gives =
    none_later rate ticks last cs (All-weaker (λ (c : PortChange). t ≤ c.tick) (λ (c : PortChange). ticks ≤ c.tick) (λ c le. omega (arith, le, sum)) cs from)
walked rate a b (suc n) ticks t sum some last newest [] up from is_a is_b gives =
    let now = gives t (omega arith) (omega (arith, sum)) in
    let rest = walked rate a b n ticks (suc t) (omega (arith, sum)) (omega arith) last newest [] up (All-nil (λ (c : PortChange). suc t ≤ c.tick)) is_a is_b
    (λ u le lt. gives u (omega (arith, le)) lt) in
    rest ∙ sym (same_entries rate a b n t last.slope_a last.slope_b (sym now.0 ∙ sym is_a) (sym now.1 ∙ sym is_b))
walked rate a b (suc n) ticks t sum some last newest (c ∷ cs) up from is_a is_b gives =
    let P : PortChange → Type 0 = λ x. t ≤ x.tick in
    let Q : PortChange → Type 0 = λ x. suc t ≤ x.tick in
    let after = pairs-head IsBefore c cs up in
    let now = gives t (omega arith) (omega (arith, sum)) in
    let here = All-head P c cs from in
    elim (cases_lt t c.tick) [
      | inl later ↦ (
          let behind : All Q (c ∷ cs) = All-cons Q c cs (omega (arith, later)) (All-weaker (IsBefore c) Q (λ d lt. omega (arith, later, lt)) cs after) in
          let still = upto-later t newest (c ∷ cs) (All-weaker Q (λ (x : PortChange). t < x.tick) (λ d le. omega (arith, le)) (c ∷ cs) behind) in
          let now_a : (first_slopes newest).slope_a ≡ a t = ap (λ (o : Option PortChange). (first_slopes o).slope_a) (sym still) ∙ now.0 in
          let now_b : (first_slopes newest).slope_b ≡ b t = ap (λ (o : Option PortChange). (first_slopes o).slope_b) (sym still) ∙ now.1 in
          let rest = walked rate a b n ticks (suc t) (omega (arith, sum)) (omega arith) last newest (c ∷ cs) up behind is_a is_b
          (λ u le lt. gives u (omega (arith, le)) lt) in
          rest ∙ sym (same_entries rate a b n t last.slope_a last.slope_b (sym now_a ∙ sym is_a) (sym now_b ∙ sym is_b)))
      | inr come ↦ (
          let e = slopes_of_change rate c in
          let at : c.tick ≡ t = omega (arith, come, here) in
          let behind : All Q cs = All-weaker (IsBefore c) Q (λ d lt. omega (arith, at, lt)) cs after in
          let newer : last_upto t newest (c ∷ cs) ≡ Some c =
          come_before t newest c cs come ∙ upto-later t (Some c) cs (All-weaker Q (λ (x : PortChange). t < x.tick) (λ d le. omega (arith, le)) cs behind) in
          let now_a : a t ≡ c.slope_a = sym now.0 ∙ ap (λ (o : Option PortChange). (first_slopes o).slope_a) newer in
          let now_b : b t ≡ c.slope_b = sym now.1 ∙ ap (λ (o : Option PortChange). (first_slopes o).slope_b) newer in
          let next : Slopes a b ticks (suc t) (Some c) cs = λ u le lt.
          subst (λ (o : Option PortChange). ((first_slopes o).slope_a ≡ a u) × ((first_slopes o).slope_b ≡ b u))
          (come_before u newest c cs (omega (arith, le, come))) (gives u (omega (arith, le)) lt) in
          let L = later_slopes rate ticks in
          elim (cases_Bool (does_change ticks last c)) [
            | inl does ↦ (
                let rest = walked rate a b n ticks (suc t) (omega (arith, sum)) (omega arith) e (Some c) cs (pairs-tail IsBefore c cs up) behind refl refl next in
                cond-true (does_change ticks last c) (e ∷ L e cs) (L last cs) does
                ∙ ap (λ (es : List SlopeChange). e ∷ es) rest
                ∙ ap (λ (k : ℕ). slopes_at_tick rate k c.slope_a c.slope_b ∷ entries rate a b n (suc t) c.slope_a c.slope_b) at
                ∙ sym (other_entries rate a b ticks n t last c does now_a now_b))
            | inr nay ↦ (
                let same = same-slopes ticks last c nay (omega (arith, some, here)) (omega (arith, at, sum)) in
                let rest = walked rate a b n ticks (suc t) (omega (arith, sum)) (omega arith) last (Some c) cs (pairs-tail IsBefore c cs up) behind (sym same.0) (sym same.1) next in
                cond-false (does_change ticks last c) (e ∷ L e cs) (L last cs) nay ∙ rest
                ∙ sym (same_entries rate a b n t last.slope_a last.slope_b (now_a ∙ same.0) (now_b ∙ same.1)))
          ])
    ]

none_first : (rate : Rate) → bits_of_ticks rate 0 ≡ 0
none_first rate = omega arith

first_is : (rate : Rate) (force : Option PortChange) → first_slopes force ≡ slopes_at_tick rate 0 (first_slopes force).slope_a (first_slopes force).slope_b
first_is rate None = ap (λ (k : ℕ). slopes_with k 0 0) (sym (none_first rate))
first_is rate (Some c) = ap (λ (k : ℕ). slopes_with k c.slope_a c.slope_b) (sym (none_first rate))

-- all slopes of a run, from what is in force in tick 0 on
abbrev whole_run : Rate → (ℕ → ℕ) → (ℕ → ℕ) → ℕ → List SlopeChange
whole_run rate a b ticks = slopes_at_tick rate 0 (a 0) (b 0) ∷ entries rate a b (ticks - 1) 1 (a 0) (b 0)

from_tick_0 : (rate : Rate) (a b : ℕ → ℕ) (ticks : ℕ) → 0 < ticks → (zeroth : Option PortChange) (cs : List PortChange) → AllPairs IsBefore cs
    → All (λ c. 0 < c.tick) cs → Slopes a b ticks 0 zeroth cs
    → first_slopes zeroth ∷ later_slopes rate ticks (first_slopes zeroth) cs ≡ whole_run rate a b ticks
from_tick_0 rate a b ticks some zeroth cs up later gives =
    let first = first_slopes zeroth in
    let still = upto-later 0 zeroth cs later in
    let now = gives 0 (omega arith) some in
    let now_a : first.slope_a ≡ a 0 = ap (λ (o : Option PortChange). (first_slopes o).slope_a) (sym still) ∙ now.0 in
    let now_b : first.slope_b ≡ b 0 = ap (λ (o : Option PortChange). (first_slopes o).slope_b) (sym still) ∙ now.1 in
    let rest = walked rate a b (ticks - 1) ticks 1 (omega (arith, some)) (omega arith) first zeroth cs up later refl refl
    (λ u le lt. gives u (omega arith) lt) in
    let to : ℕ → ℕ → List SlopeChange = λ x y. slopes_at_tick rate 0 x y ∷ entries rate a b (ticks - 1) 1 x y in
    ap (λ (es : List SlopeChange). first ∷ es) rest
    ∙ ap (λ (x : SlopeChange). x ∷ entries rate a b (ticks - 1) 1 first.slope_a first.slope_b) (first_is rate zeroth)
    ∙ ap (λ (x : ℕ). to x first.slope_b) now_a ∙ ap (λ (y : ℕ). to (a 0) y) now_b

slopes_by_tick : (rate : Rate) (a b : ℕ → ℕ) (ticks : ℕ) → 0 < ticks → (cs : List PortChange) → AllPairs IsBefore cs → Slopes a b ticks 0 None cs
    → slopes_over rate ticks cs ≡ whole_run rate a b ticks
slopes_by_tick rate a b ticks some [] up gives = from_tick_0 rate a b ticks some None [] up (All-nil (λ (c : PortChange). 0 < c.tick)) gives
slopes_by_tick rate a b ticks some (c ∷ cs) up gives =
    let S : PortChange → Type 0 = λ x. 0 < x.tick in
    let after = pairs-head IsBefore c cs up in
    let L = later_slopes rate ticks in
    let begun : Option PortChange → List SlopeChange = λ o. first_slopes o ∷ L (first_slopes o) (c ∷ cs) in
    elim (cases_lt 0 c.tick) [
      | inl later ↦ (
          let all = All-cons S c cs later (All-weaker (IsBefore c) S (λ d lt. omega (arith, lt)) cs after) in
          ap begun (upto-later 0 None (c ∷ cs) all) ∙ from_tick_0 rate a b ticks some None (c ∷ cs) up all gives)
      | inr at ↦ (
          let all = All-weaker (IsBefore c) S (λ d lt. omega (arith, lt)) cs after in
          let first = first_slopes (Some c) in
          let off : does_change ticks first c ≡ false =
          and_left (nat_lt 0 c.tick && nat_lt c.tick ticks) (not ((c.slope_a == first.slope_a) && (c.slope_b == first.slope_b)))
          (and_left (nat_lt 0 c.tick) (nat_lt c.tick ticks) (le-ltb 0 c.tick at)) in
          ap begun (come_before 0 None c cs at ∙ upto-later 0 (Some c) cs all)
          ∙ ap (λ (es : List SlopeChange). first ∷ es) (cond-false (does_change ticks first c) (slopes_of_change rate c ∷ L (slopes_of_change rate c) cs) (L first cs) off)
          ∙ from_tick_0 rate a b ticks some (Some c) cs (pairs-tail IsBefore c cs up) all
          (λ u le lt. subst (λ (o : Option PortChange). ((first_slopes o).slope_a ≡ a u) × ((first_slopes o).slope_b ≡ b u))
          (come_before u None c cs (omega (arith, at))) (gives u le lt)))
    ]

-- ---- the copies that may be sent, and their fates

unbooked_same : (route : Route) (one other : Option PortChange) → IsSameForce one other → is_unbooked route one ≡ is_unbooked route other
unbooked_same (Stream stream traffic) one other is = ap not (is.booked stream)
unbooked_same (To station) one other is = refl

sends_same : (c : FrameCopy) (one other : Option PortChange) → IsSameForce one other → may_send c one ≡ may_send c other
sends_same c one other is =
    ap (λ (b : Bool). not b && has_vid c.frame.vid one) (unbooked_same c.frame.route one other is)
    ∙ ap (λ (b : Bool). not (is_unbooked c.frame.route other) && b) (is.vids c.frame.vid)

fate_same : (sent : List Departure) (c : FrameCopy) (one other : Option PortChange) → IsSameForce one other → fate_of one sent c ≡ fate_of other sent c
fate_same sent c one other is =
    let found = sent_fate (find (λ d. d.frame == c.frame.number) sent) in
    ap (λ (b : Bool). cond b Unbooked (cond (has_vid c.frame.vid one) found NoVlan)) (unbooked_same c.frame.route one other is)
    ∙ ap (λ (b : Bool). cond (is_unbooked c.frame.route other) Unbooked (cond b found NoVlan)) (is.vids c.frame.vid)

filter_same : {X : Type 0} (p q : X → Bool) (xs : List X) → All (λ x. p x ≡ q x) xs → filter p xs ≡ filter q xs
filter_same p q [] all = refl
filter_same {X} p q (x ∷ xs) all =
    let P : X → Type 0 = λ y. p y ≡ q y in
    let rest = filter_same p q xs (All-tail P x xs all) in
    ap (λ (b : Bool). cond b (x ∷ filter p xs) (filter p xs)) (All-head P x xs all)
    ∙ ap (λ (l : List X). cond (q x) (x ∷ l) l) rest

-- what a port's shaper is given, and the fates of its copies
copies_same : (ticks : ℕ) (place : Place) (cs ds : List PortChange) (copies : List FrameCopy) → slopes_over place.rate ticks cs ≡ slopes_over place.rate ticks ds
    → All (λ c. IsSameForce (force_on place.rate cs c) (force_on place.rate ds c)) copies
    → flow_of_copies ticks place cs copies ≡ flow_of_copies ticks place ds copies
copies_same ticks place cs ds copies slopes all =
    let rate = place.rate in
    let F : FrameCopy → Type 0 = λ c. IsSameForce (force_on rate cs c) (force_on rate ds c) in
    let input : List SlopeChange → List FrameCopy → PortInput = λ es xs.
    record { rate = rate; slopes = es; arrivals = map arrival_of xs; end = bits_of_ticks rate ticks } in
    let flow : PortInput → List (ℕ × Fate) → PortFlow = λ i fates. record { at = place.at; input = i; fates = fates } in
    let may : List PortChange → FrameCopy → Bool = λ l c. may_send c (force_on rate l c) in
    let sent = filter_same (may cs) (may ds) copies
    (All-weaker F (λ (c : FrameCopy). may cs c ≡ may ds c) (λ c is. sends_same c (force_on rate cs c) (force_on rate ds c) is) copies all) in
    let input_same : port_input ticks rate cs copies ≡ port_input ticks rate ds copies =
    ap (λ (es : List SlopeChange). input es (filter (may cs) copies)) slopes
    ∙ ap (λ (xs : List FrameCopy). input (slopes_over rate ticks ds) xs) sent in
    let fate : List PortChange → FrameCopy → ℕ × Fate = λ l c. (c.frame.number, fate_of (force_on rate l c) (sent_of (port_input ticks rate ds copies)) c) in
    let numbered : FrameCopy → Fate → ℕ × Fate = λ c f. (c.frame.number, f) in
    let fates = map_same (fate cs) (fate ds) copies
    (All-weaker F (λ (c : FrameCopy). fate cs c ≡ fate ds c)
    (λ c is. ap (numbered c)
    (fate_same (sent_of (port_input ticks rate ds copies)) c (force_on rate cs c) (force_on rate ds c) is)) copies all) in
    ap (λ (i : PortInput). flow i (fates_of rate cs (sent_of i) copies)) input_same
    ∙ ap (λ (l : List (ℕ × Fate)). flow (port_input ticks rate ds copies) l) fates

-- ---- at a port, and at all

place_same : (s : Setting) (changes : List PortChange) (flows : List PortFlow) → 0 < s.ticks → AllPairs IsEarlier s.changes → AllPairs IsEarlier changes
    → (place : Place) → SayTheSame s.ticks s.changes changes place.at
    → port_flow s flows place ≡ port_flow (record s { changes = changes }) flows place
place_same s changes flows some one_up other_up place same =
    let rate = place.rate in
    let cs = changes_at s.changes place.at in
    let ds = changes_at changes place.at in
    let a : ℕ → ℕ = λ u. (first_slopes (in_force u cs)).slope_a in
    let b : ℕ → ℕ = λ u. (first_slopes (in_force u cs)).slope_b in
    let one = slopes_by_tick rate a b s.ticks some cs (changes-ascend s.changes place.at one_up) (λ u le lt. (refl, refl)) in
    let other = slopes_by_tick rate a b s.ticks some ds (changes-ascend changes place.at other_up)
    (λ u le lt. (sym (same u lt).slope_a, sym (same u lt).slope_b)) in
    let copies = arriving s.tree.links s.frames s.ticks flows place in
    let A : FrameCopy → Type 0 = IsArrived (λ f. Unit {0}) place s.ticks in
    let early = All-arriving (λ (f : Frame). Unit {0}) s.tree.links s.frames s.ticks flows place (λ k d below. tt) in
    copies_same s.ticks place cs ds copies (one ∙ sym other)
    (All-weaker A (λ (c : FrameCopy). IsSameForce (force_on rate cs c) (force_on rate ds c))
    (λ c is. same (tick_at rate c.bit) (not-begun rate s.ticks c.bit is.early)) copies early)

pub flow-stays : (s : Setting) → HasPortLaws s.tree → (changes : List PortChange) (flows : List PortFlow) → 0 < s.ticks → AllPairs IsEarlier s.changes
    → AllPairs IsEarlier changes → ((p : EgressPort) → HasPort s.tree p → SayTheSame s.ticks s.changes changes p) → IsFlow s flows
    → IsFlow (record s { changes = changes }) flows
flow-stays s laws changes flows some one_up other_up same is =
    let t : Setting = record s { changes = changes } in
    let places = all_places s.tree.links s.rates in
    record {
      each = is.each ∙ map_same (port_flow s flows) (port_flow t flows) places
          (All-weaker (λ (p : Place). HasPort s.tree p.at) (λ (p : Place). port_flow s flows p ≡ port_flow t flows p)
          (λ p there. place_same s changes flows some one_up other_up p (same p.at there)) places (places-are s.tree s.rates laws));
    }

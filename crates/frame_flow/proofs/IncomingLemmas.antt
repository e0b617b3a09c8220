-- The copies at a node: those of them that leave by a port are, in order, those that arrive at it, and they stay so
-- while ports of the same level get their flows.
use Rattle.std.proofs.Common.{◌≡◌, ◌≢◌, ℕ, ◌+◌, ◌<◌, ◌≤◌, ◌⊎◌, inl, inr, true, false, List, [], ◌∷◌, ◌++◌, length, get_or, set, take, map, append-nil, Option, Some, None, refl, sym, ◌∙◌, ap, subst, arith}
use Rattle.std.specs.Prelude.{All, not, filter_map, flat_map, sum_by, nat_lt, ◌==◌, ◌&&◌}
use Rattle.std.specs.{List.cons_option, List.range_with_len, List.Sorted.IsPermutation}
use Rattle.std.proofs.lemmas.{Bool.cond_both, Bool.cond-true, Bool.cond-false, Bool.cases_Bool, Bool.eq-eqb, Bool.ne_eqb, Bool.eqb-true, Bool.and_from, Bool.and_left, Bool.and_right, Bool.false≢true, List.take_more, List.Elements.filter_map-append, List.Elements.All-nil, List.Elements.All-head, List.Elements.All-tail, List.Elements.All-append, List.Elements.All-weaker, List.Elements.All-same, List.FromFn.get_or-range_with_len, List.FromFn.length-range_with_len, List.Sums.sum_by-cons, List.Sorted.sum_by-IsPermutation, List.Sorted.All-permutation}
use Rattle.srp_base.proofs.Lists.{All-flat_map}
use Rattle.srp_base.specs.declared.{numbers.EgressPort.EgressPort, numbers.NodeNo.NodeNo, numbers.PortNo.PortNo, bandwidth.Rate.Rate}
use Rattle.tree_topology.specs.declared.graph.Link.{Link}
use Rattle.tree_topology.specs.{Topology.Topology, Topology.HasPort, Ports.neighbours, Ports.peer_of, PortLaws.HasPortLaws}
use Rattle.frame_flow.specs.{Frame, FrameCopy, AtNode, Place, PortFlow, bits_of_ticks, bit_from, is_port, IsKnown, Reached, all_places, arriving, comes_over, copy_of, flow_at, goes_by, handed_by, in_order, port_of, ports_at, frames_reaching, sent_from, Setting, port_flow, IsInOrder, IsRoute, IsSetting, AreAt, level_at, level_of, AreSourcesBelow, AreKept, AreOfSetting, HasArriving, incoming_at, incoming_by, incoming_of, leaving, leaving_by}
use Rattle.frame_flow.specs.Incoming.{Incoming}
use Rattle.frame_flow.proofs.{CopyLemmas.All-any, CopyLemmas.All-filter_map, CopyLemmas.All-handed_by, CopyLemmas.All-sent_from, CopyLemmas.arriving-same, CopyLemmas.known-each, OrderLemmas.IsKnownCopy, OrderLemmas.All-in_order, OrderLemmas.order-in_order, OrderLemmas.ordered-one, OrderLemmas.sorted-is, OrderLemmas.sum-in_order, LevelLemmas.IsPortOf, LevelLemmas.at-index, LevelLemmas.level-read, LevelLemmas.places-are, LevelLemmas.ports-are, LevelLemmas.same-port, LevelLemmas.set-apart, LevelLemmas.source-below}

-- ---- what a filter_map keeps of a list

-- what a function gives of an element where there is one, and else 0
abbrev value_of : {Y : Type 0} → (Y → ℕ) → Option Y → ℕ
value_of f None = 0
value_of f (Some y) = f y

sum-kept-one : {Y : Type 0} (f : Y → ℕ) (o : Option Y) (rest : List Y) → sum_by f (cons_option o rest) ≡ value_of f o + sum_by f rest
sum-kept-one f None rest = omega arith
sum-kept-one f (Some y) rest = sum_by-cons f y rest

sum-kept : {X Y : Type 0} (f : Y → ℕ) (g : X → Option Y) (xs : List X) → sum_by f (filter_map g xs) ≡ sum_by (λ x. value_of f (g x)) xs
sum-kept f g [] = refl
sum-kept f g (x ∷ xs) =
    sum-kept-one f (g x) (filter_map g xs) ∙ ap (λ (n : ℕ). value_of f (g x) + n) (sum-kept f g xs) ∙ sym (sum_by-cons (λ t. value_of f (g t)) x xs)

-- ---- the copy that leaves

leaves-as : (links : List Link) (p : EgressPort) (c : Incoming) (y : FrameCopy) → leaving_by links p c ≡ Some y → c.copy ≡ y
leaves-as links p c y e =
    let test = not (c.ingress == p.port.0) && goes_by links p c.copy.frame.route in
    elim (cases_Bool test) [
      | inl is ↦ (let same : Some c.copy ≡ Some y = sym (cond-true test (Some c.copy) None is) ∙ e in cc)
      | inr nay ↦ absurd (let nothing : None ≡ Some y = sym (cond-false test (Some c.copy) None nay) ∙ e in cc)
    ]

-- the frames of what leaves are those of their numbers
known-left : (frames : List Frame) (links : List Link) (p : EgressPort) (copies : List Incoming) → All (λ c. IsKnown frames c.copy.frame) copies
    → All (IsKnownCopy frames) (leaving links p copies)
known-left frames links p copies known =
    All-filter_map (λ c. IsKnown frames c.copy.frame) (IsKnownCopy frames) (leaving_by links p)
    (λ c y k e. subst (λ (t : FrameCopy). IsKnownCopy frames t) (leaves-as links p c y e) k) copies known

-- the order of a node's copies doesn't matter to what leaves of them, in order
leaving-is : (frames : List Frame) (links : List Link) (p : EgressPort) (all moved : List Incoming) → All (λ c. IsKnown frames c.copy.frame) all
    → IsPermutation all moved → in_order (leaving links p moved) ≡ in_order (leaving links p all)
leaving-is frames links p all moved known same =
    let g = leaving_by links p in
    let K : Incoming → Type 0 = λ c. IsKnown frames c.copy.frame in
    let one = leaving links p moved in
    let two = leaving links p all in
    ordered-one frames (in_order one) (in_order two)
    (λ f. sum-in_order f one ∙ sum-kept f g moved ∙ sum_by-IsPermutation (λ c. value_of f (g c)) all moved same ∙ sym (sum-kept f g all) ∙ sym (sum-in_order f two))
    (order-in_order one) (order-in_order two)
    (All-in_order (IsKnownCopy frames) one (known-left frames links p moved (All-permutation K all moved same known)))
    (All-in_order (IsKnownCopy frames) two (known-left frames links p all known))

-- what a sort makes of what leaves
pub left-in-order : (s : Setting) (links : List Link) (p : EgressPort) (copies : List Incoming) (left sorted : List FrameCopy) → AreOfSetting s copies
    → left ≡ leaving links p copies → IsPermutation left sorted → IsInOrder sorted → sorted ≡ in_order (leaving links p copies)
left-in-order s links p copies left sorted of_ is moved order =
    let K : Incoming → Type 0 = λ c. IsKnown s.frames c.copy.frame in
    let known = known-left s.frames links p copies (All-weaker (λ c. K c × IsRoute s.tree c.copy.frame.route) K (λ c h. h.0) copies of_) in
    sorted-is s.frames left sorted (All-same (IsKnownCopy s.frames) left (leaving links p copies) is known) moved order
    ∙ ap (λ (t : List FrameCopy). in_order t) is

-- what leaves of a node's copies with one copy more
left-take : (links : List Link) (p : EgressPort) (copies : List Incoming) (i : ℕ) (d : Incoming) → i < length copies
    → leaving links p (take (i + 1) copies) ≡ leaving links p (take i copies) ++ cons_option (leaving_by links p (get_or copies i d)) []
left-take links p copies i d below =
    ap (λ (t : List Incoming). leaving links p t) (take_more copies i d below)
    ∙ filter_map-append (leaving_by links p) (take i copies) (get_or copies i d ∷ [])

pub left-more : (links : List Link) (p : EgressPort) (copies : List Incoming) (i : ℕ) (d c : Incoming) (y : FrameCopy) (before after : List FrameCopy) → i < length copies
    → c ≡ get_or copies i d → not (c.ingress == p.port.0) && goes_by links p c.copy.frame.route ≡ true → before ≡ leaving links p (take i copies) → y ≡ c.copy
    → after ≡ before ++ y ∷ [] → after ≡ leaving links p (take (i + 1) copies)
left-more links p copies i d c y before after below item goes one copy two =
    let test = not (c.ingress == p.port.0) && goes_by links p c.copy.frame.route in
    let so_far = leaving links p (take i copies) in
    two ∙ ap (λ (t : List FrameCopy). t ++ y ∷ []) one ∙ ap (λ (t : FrameCopy). so_far ++ t ∷ []) copy
    ∙ sym (ap (λ (o : Option FrameCopy). so_far ++ cons_option o []) (cond-true test (Some c.copy) None goes))
    ∙ ap (λ (t : Incoming). so_far ++ cons_option (leaving_by links p t) []) item
    ∙ sym (left-take links p copies i d below)

pub left-same : (links : List Link) (p : EgressPort) (copies : List Incoming) (i : ℕ) (d c : Incoming) (before after : List FrameCopy) → i < length copies
    → c ≡ get_or copies i d → not (c.ingress == p.port.0) && goes_by links p c.copy.frame.route ≡ false → before ≡ leaving links p (take i copies)
    → after ≡ before → after ≡ leaving links p (take (i + 1) copies)
left-same links p copies i d c before after below item stays one two =
    let test = not (c.ingress == p.port.0) && goes_by links p c.copy.frame.route in
    let so_far = leaving links p (take i copies) in
    two ∙ one ∙ sym (append-nil so_far)
    ∙ sym (ap (λ (o : Option FrameCopy). so_far ++ cons_option o []) (cond-false test (Some c.copy) None stays))
    ∙ ap (λ (t : Incoming). so_far ++ cons_option (leaving_by links p t) []) item
    ∙ sym (left-take links p copies i d below)

-- ---- what leaves by a port of what came in by one

-- a copy that came in by another port leaves as it would arrive
elsewhere-one : (links : List Link) (ticks : ℕ) (place : Place) (k : ℕ) (r : Reached) (rest : List FrameCopy) → k == place.at.port.0 ≡ false
    → filter_map (leaving_by links place.at) (cons_option (incoming_of ticks place.rate k r) []) ++ rest ≡ cons_option (copy_of links ticks place r) rest
elsewhere-one links ticks place k r rest other =
    let bit = bit_from place.rate r.moment in
    let early = nat_lt bit (bits_of_ticks place.rate ticks) in
    let goes = goes_by links place.at r.frame.route in
    let copy : FrameCopy = record { bit = bit; frame = r.frame } in
    let c : Incoming = record { ingress = k; copy = copy } in
    let left : Option Incoming → List FrameCopy = λ o. filter_map (leaving_by links place.at) (cons_option o []) ++ rest in
    let with : Option FrameCopy → List FrameCopy = λ o. cons_option o rest in
    let stays : not (k == place.at.port.0) ≡ true = ap not other in
    elim (cases_Bool early) [
      | inr late ↦ ap left (cond-false early (Some c) None late) ∙ sym (ap with (cond-false (goes && early) (Some copy) None (and_right goes early late)))
      | inl in_time ↦ ap left (cond-true early (Some c) None in_time)
          ∙ elim (cases_Bool goes) [
            | inl yes_ ↦ ap (λ (o : Option FrameCopy). cons_option o [] ++ rest)
                (cond-true (not (k == place.at.port.0) && goes) (Some copy) None (and_from (not (k == place.at.port.0)) goes stays yes_))
                ∙ sym (ap with (cond-true (goes && early) (Some copy) None (and_from goes early yes_ in_time)))
            | inr nay ↦ ap (λ (o : Option FrameCopy). cons_option o [] ++ rest) (cond-false (not (k == place.at.port.0) && goes) (Some copy) None (and_right (not (k == place.at.port.0)) goes nay))
                ∙ sym (ap with (cond-false (goes && early) (Some copy) None (and_left goes early nay)))
          ]
    ]

one-more-kept : {X Y : Type 0} (g : X → Option Y) (o : Option X) (rest : List X) → filter_map g (cons_option o rest) ≡ filter_map g (cons_option o []) ++ filter_map g rest
one-more-kept g None rest = refl
one-more-kept g (Some x) rest = filter_map-append g (x ∷ []) rest

elsewhere : (links : List Link) (ticks : ℕ) (place : Place) (k : ℕ) → k == place.at.port.0 ≡ false → (rs : List Reached)
    → leaving links place.at (filter_map (incoming_of ticks place.rate k) rs) ≡ filter_map (copy_of links ticks place) rs
elsewhere links ticks place k other [] = refl
elsewhere links ticks place k other (r ∷ rs) =
    let g = leaving_by links place.at in
    let to = incoming_of ticks place.rate k in
    one-more-kept g (to r) (filter_map to rs)
    ∙ ap (λ (t : List FrameCopy). filter_map g (cons_option (to r) []) ++ t) (elsewhere links ticks place k other rs)
    ∙ elsewhere-one links ticks place k r (filter_map (copy_of links ticks place) rs) other

-- a copy doesn't leave by the port that it came in by
back-one : (links : List Link) (ticks : ℕ) (place : Place) (k : ℕ) (r : Reached) → k == place.at.port.0 ≡ true
    → filter_map (leaving_by links place.at) (cons_option (incoming_of ticks place.rate k r) []) ≡ []
back-one links ticks place k r same =
    let bit = bit_from place.rate r.moment in
    let early = nat_lt bit (bits_of_ticks place.rate ticks) in
    let goes = goes_by links place.at r.frame.route in
    let copy : FrameCopy = record { bit = bit; frame = r.frame } in
    let c : Incoming = record { ingress = k; copy = copy } in
    let left : Option Incoming → List FrameCopy = λ o. filter_map (leaving_by links place.at) (cons_option o []) in
    elim (cases_Bool early) [
      | inr late ↦ ap left (cond-false early (Some c) None late)
      | inl in_time ↦ ap left (cond-true early (Some c) None in_time)
          ∙ ap (λ (o : Option FrameCopy). cons_option o []) (cond-false (not (k == place.at.port.0) && goes) (Some copy) None (and_left (not (k == place.at.port.0)) goes (ap not same)))
    ]

back : (links : List Link) (ticks : ℕ) (place : Place) (k : ℕ) → k == place.at.port.0 ≡ true → (rs : List Reached)
    → leaving links place.at (filter_map (incoming_of ticks place.rate k) rs) ≡ []
back links ticks place k same [] = refl
back links ticks place k same (r ∷ rs) =
    let g = leaving_by links place.at in
    let to = incoming_of ticks place.rate k in
    one-more-kept g (to r) (filter_map to rs)
    ∙ ap (λ (t : List FrameCopy). filter_map g (cons_option (to r) []) ++ t) (back links ticks place k same rs)
    ∙ ap (λ (t : List FrameCopy). t ++ []) (back-one links ticks place k r same)

-- ---- what leaves by a port of all that came to its node

-- the node of a port, without this one of its ports
abbrev around : Place → PortNo → AtNode
around place without = record { node = place.at.node; rate = place.rate; without = without }

-- no port is left out, or just this one
abbrev IsNoneOrOwn : PortNo → Place → Type 0
IsNoneOrOwn without place = (without.0 ≡ 0) ⊎ (without ≡ place.at.port)

this-port : (place : Place) (k : ℕ) → k == place.at.port.0 ≡ true → is_port (port_of place.at.node.0 k) place.at ≡ true
this-port place k same =
    let x = place.at.node.0 in
    and_from (x == x) (k == place.at.port.0) (eq-eqb x x refl) same

other-port : (place : Place) (k : ℕ) → k == place.at.port.0 ≡ false → is_port (port_of place.at.node.0 k) place.at ≡ false
other-port place k other = and_right (place.at.node.0 == place.at.node.0) (k == place.at.port.0) other

left-out : (without : PortNo) (place : Place) (k : ℕ) → 1 ≤ k → IsNoneOrOwn without place → k == without.0 ≡ true → k == place.at.port.0 ≡ true
left-out without place k from (inl none) is = absurd (omega (arith, from, none, eqb-true k without.0 is))
left-out without place k from (inr own) is = ap (λ (t : PortNo). k == t.0) (sym own) ∙ is

-- by one port
leaving-by-port : (links : List Link) (frames : List Frame) (ticks : ℕ) (flows : List PortFlow) (place : Place) (without : PortNo) (k : ℕ) → 1 ≤ k → IsNoneOrOwn without place
    → leaving links place.at (incoming_by links frames ticks flows (around place without) k)
    ≡ filter_map (copy_of links ticks place) (comes_over links frames flows place.at (port_of place.at.node.0 k))
leaving-by-port links frames ticks flows place without k from which =
    let r = port_of place.at.node.0 k in
    let come = handed_by frames (flow_at flows (peer_of links r)) in
    let to = copy_of links ticks place in
    let came = filter_map (incoming_of ticks place.rate k) come in
    let out : List Incoming → List FrameCopy = λ t. leaving links place.at t in
    let arrive : List Reached → List FrameCopy = λ t. filter_map to t in
    elim (cases_Bool (k == place.at.port.0)) [
      | inl same ↦ (
          let nothing = ap arrive (cond-true (is_port r place.at) [] come (this-port place k same)) in
          elim (cases_Bool (k == without.0)) [
            | inl is ↦ ap out (cond-true (k == without.0) [] came is) ∙ sym nothing
            | inr nay ↦ ap out (cond-false (k == without.0) [] came nay) ∙ back links ticks place k same come ∙ sym nothing
          ])
      | inr other ↦ (
          let there = ap arrive (cond-false (is_port r place.at) [] come (other-port place k other)) in
          elim (cases_Bool (k == without.0)) [
            | inl is ↦ absurd (false≢true (sym other ∙ left-out without place k from which is))
            | inr nay ↦ ap out (cond-false (k == without.0) [] came nay) ∙ elsewhere links ticks place k other come ∙ sym there
          ])
    ]

leaving-by-ports : (links : List Link) (frames : List Frame) (ticks : ℕ) (flows : List PortFlow) (place : Place) (without : PortNo) → IsNoneOrOwn without place
    → (ks : List ℕ) → All (λ k. 1 ≤ k) ks
    → leaving links place.at (flat_map (incoming_by links frames ticks flows (around place without)) ks)
    ≡ filter_map (copy_of links ticks place) (flat_map (comes_over links frames flows place.at) (map (port_of place.at.node.0) ks))
leaving-by-ports links frames ticks flows place without which [] from = refl
leaving-by-ports links frames ticks flows place without which (k ∷ ks) from =
    let by = incoming_by links frames ticks flows (around place without) in
    let over = comes_over links frames flows place.at in
    let to = copy_of links ticks place in
    let F : ℕ → Type 0 = λ n. 1 ≤ n in
    let more = flat_map over (map (port_of place.at.node.0) ks) in
    filter_map-append (leaving_by links place.at) (by k) (flat_map by ks)
    ∙ ap (λ (t : List FrameCopy). t ++ leaving links place.at (flat_map by ks)) (leaving-by-port links frames ticks flows place without k (All-head F k ks from) which)
    ∙ ap (λ (t : List FrameCopy). filter_map to (over (port_of place.at.node.0 k)) ++ t) (leaving-by-ports links frames ticks flows place without which ks (All-tail F k ks from))
    ∙ sym (filter_map-append to (over (port_of place.at.node.0 k)) more)

from-one : (n : ℕ) → All (λ k. 1 ≤ k) (range_with_len 1 n)
from-one n i d below =
    let few : i < n = omega (arith, below, length-range_with_len 1 n) in
    subst (λ (k : ℕ). 1 ≤ k) (sym (get_or-range_with_len 1 n i d few)) (omega arith)

leaving-all : (links : List Link) (frames : List Frame) (ticks : ℕ) (flows : List PortFlow) (place : Place) (without : PortNo) → 1 ≤ place.at.port.0 → IsNoneOrOwn without place
    → leaving links place.at (incoming_at links frames ticks flows (around place without)) ≡ filter_map (copy_of links ticks place) (frames_reaching links frames flows place.at)
leaving-all links frames ticks flows place without from which =
    let x = place.at.node.0 in
    let to = copy_of links ticks place in
    let ks = range_with_len 1 (length (neighbours links x)) in
    let own = filter_map (incoming_of ticks place.rate 0) (sent_from frames x) in
    let by = flat_map (incoming_by links frames ticks flows (around place without)) ks in
    let come = flat_map (comes_over links frames flows place.at) (ports_at links x) in
    let other : 0 == place.at.port.0 ≡ false = ne_eqb 0 place.at.port.0 (λ e. omega (arith, e, from)) in
    filter_map-append (leaving_by links place.at) own by
    ∙ ap (λ (t : List FrameCopy). t ++ leaving links place.at by) (elsewhere links ticks place 0 other (sent_from frames x))
    ∙ ap (λ (t : List FrameCopy). filter_map to (sent_from frames x) ++ t) (leaving-by-ports links frames ticks flows place without which ks (from-one (length (neighbours links x))))
    ∙ sym (filter_map-append to (sent_from frames x) come)

-- ---- what holds of all frames holds of a node's copies

incoming-frame : (ticks : ℕ) (rate : Rate) (k : ℕ) (r : Reached) (c : Incoming) → incoming_of ticks rate k r ≡ Some c → r.frame ≡ c.copy.frame
incoming-frame ticks rate k r c e =
    let bit = bit_from rate r.moment in
    let early = nat_lt bit (bits_of_ticks rate ticks) in
    let made : Incoming = record { ingress = k; copy = record { bit = bit; frame = r.frame } } in
    elim (cases_Bool early) [
      | inl is ↦ (let same : Some made ≡ Some c = sym (cond-true early (Some made) None is) ∙ e in let one : made ≡ c = cc in ap (λ (t : Incoming). t.copy.frame) one)
      | inr nay ↦ absurd (let nothing : None ≡ Some c = sym (cond-false early (Some made) None nay) ∙ e in cc)
    ]

All-incoming : (P : Frame → Type 0) (ticks : ℕ) (rate : Rate) (k : ℕ) (rs : List Reached) → All (λ r. P r.frame) rs
    → All (λ c. P c.copy.frame) (filter_map (incoming_of ticks rate k) rs)
All-incoming P ticks rate k rs all =
    All-filter_map (λ r. P r.frame) (λ c. P c.copy.frame) (incoming_of ticks rate k) (λ r c h e. subst P (incoming-frame ticks rate k r c e) h) rs all

All-by-port : (P : Frame → Type 0) (links : List Link) (frames : List Frame) (ticks : ℕ) (flows : List PortFlow) (at : AtNode) (k : ℕ) → All P frames
    → All (λ c. P c.copy.frame) (incoming_by links frames ticks flows at k)
All-by-port P links frames ticks flows at k all =
    let come = handed_by frames (flow_at flows (peer_of links (port_of at.node.0 k))) in
    let came = filter_map (incoming_of ticks at.rate k) come in
    cond_both (k == at.without.0) [] came (λ t. All (λ c. P c.copy.frame) t) (λ e. All-nil (λ c. P c.copy.frame))
    (λ e. All-incoming P ticks at.rate k come (All-handed_by P frames all (flow_at flows (peer_of links (port_of at.node.0 k)))))

All-at : (P : Frame → Type 0) (links : List Link) (frames : List Frame) (ticks : ℕ) (flows : List PortFlow) (at : AtNode) → All P frames
    → All (λ c. P c.copy.frame) (incoming_at links frames ticks flows at)
All-at P links frames ticks flows at all =
    let Q : Incoming → Type 0 = λ c. P c.copy.frame in
    let ks = range_with_len 1 (length (neighbours links at.node.0)) in
    All-append Q (filter_map (incoming_of ticks at.rate 0) (sent_from frames at.node.0)) (flat_map (incoming_by links frames ticks flows at) ks)
    (All-incoming P ticks at.rate 0 (sent_from frames at.node.0) (All-sent_from P frames at.node.0 all))
    (All-flat_map (λ k. Unit {0}) Q (incoming_by links frames ticks flows at) (λ k h. All-by-port P links frames ticks flows at k all) ks (All-any ks))

-- ---- the code's list

pub gathered : (s : Setting) (flows : List PortFlow) (at : AtNode) (first own all : List Incoming) → first ≡ []
    → own ≡ first ++ filter_map (incoming_of s.ticks at.rate 0) (sent_from s.frames at.node.0)
    → all ≡ own ++ flat_map (incoming_by s.tree.links s.frames s.ticks flows at) (range_with_len 1 (length (neighbours s.tree.links at.node.0)))
    → all ≡ incoming_at s.tree.links s.frames s.ticks flows at
gathered s flows at first own all none one two =
    let here = filter_map (incoming_of s.ticks at.rate 0) (sent_from s.frames at.node.0) in
    let come = flat_map (incoming_by s.tree.links s.frames s.ticks flows at) (range_with_len 1 (length (neighbours s.tree.links at.node.0))) in
    two ∙ ap (λ (t : List Incoming). t ++ come) (one ∙ ap (λ (t : List Incoming). t ++ here) none)

pub has-arriving : (s : Setting) → IsSetting s → (flows : List PortFlow) (at : AtNode) (all moved : List Incoming)
    → all ≡ incoming_at s.tree.links s.frames s.ticks flows at → IsPermutation all moved → HasArriving s flows at moved
unfolding arriving
has-arriving s given flows at all moved is same place port served =
    let links = s.tree.links in
    let K : Incoming → Type 0 = λ c. IsKnown s.frames c.copy.frame in
    let known = All-same K all (incoming_at links s.frames s.ticks flows at) is
    (All-at (IsKnown s.frames) links s.frames s.ticks flows at (known-each s.frames given.range.numbers)) in
    let make : NodeNo → Rate → AtNode = λ x r. record { node = x; rate = r; without = at.without } in
    let here : around place at.without ≡ at = ap (λ (x : NodeNo). make x place.rate) served.0 ∙ ap (λ (r : Rate). make at.node r) served.1 in
    let from : 1 ≤ place.at.port.0 = port.1 in
    leaving-is s.frames links place.at all moved known same
    ∙ ap (λ (t : List Incoming). in_order (leaving links place.at t)) is
    ∙ sym (ap (λ (t : AtNode). in_order (leaving links place.at (incoming_at links s.frames s.ticks flows t))) here)
    ∙ ap (λ (t : List FrameCopy). in_order t) (leaving-all links s.frames s.ticks flows place at.without from served.2)

pub of-setting : (s : Setting) → IsSetting s → (flows : List PortFlow) (at : AtNode) (all moved : List Incoming)
    → all ≡ incoming_at s.tree.links s.frames s.ticks flows at → IsPermutation all moved → AreOfSetting s moved
of-setting s given flows at all moved is same =
    let P : Frame → Type 0 = λ f. IsKnown s.frames f × IsRoute s.tree f.route in
    let R : Incoming → Type 0 = λ c. P c.copy.frame in
    let each : All P s.frames = λ k d below. (known-each s.frames given.range.numbers k d below, (given.range.frames k d below).route) in
    All-permutation R all moved same
    (All-same R all (incoming_at s.tree.links s.frames s.ticks flows at) is (All-at P s.tree.links s.frames s.ticks flows at each))

-- ---- what sends into a node

-- where two ports of a node are of one level, what sends into the node is of lower levels
sources-below : (tree : Topology) → HasPortLaws tree → (p q : EgressPort) → HasPort tree p → HasPort tree q → q.node.0 ≡ p.node.0 → is_port p q ≡ false
    → level_at tree q ≡ level_at tree p → AreSourcesBelow tree (level_at tree p) p.node.0
sources-below tree laws p q here there node other lvl =
    let B : EgressPort → Type 0 = λ r. level_at tree (peer_of tree.links r) < level_at tree p in
    let N : EgressPort → Type 0 = λ t. is_port t q ≡ false in
    All-weaker (IsPortOf tree p.node.0) B
    (λ r h. elim (cases_Bool (is_port r p)) [
      | inl is ↦ (let lt = (source-below tree laws q r there h.0 (h.1 ∙ sym node) (subst N (sym (same-port r p is)) other)).1 in omega (arith, lt, lvl))
      | inr nay ↦ (source-below tree laws p r here h.0 h.1 nay).1
    ])
    (ports_at tree.links p.node.0) (ports-are tree p.node.0 here.0)

-- where there is such a port in the list
pub fellow-below : (s : Setting) → HasPortLaws s.tree → (places : List Place) (levels : List ℕ) (level j : ℕ) (d place : Place) → places ≡ all_places s.tree.links s.rates
    → levels ≡ map (level_of s.tree) places → HasPort s.tree place.at → level_of s.tree place ≡ level → j < length places → get_or levels j 0 ≡ level
    → (get_or places j d).at.node ≡ place.at.node → (get_or places j d).at.port ≢ place.at.port → AreSourcesBelow s.tree level place.at.node.0
fellow-below s laws places levels level j d place all are here lvl below its node other =
    let q = get_or places j d in
    let there = subst (λ (t : List Place). All (λ x. HasPort s.tree x.at) t) (sym all) (places-are s.tree s.rates laws) j d below in
    let same = sym (level-read s.tree places levels j d are below) ∙ its ∙ sym lvl in
    let apart_ports : place.at.port.0 == q.at.port.0 ≡ false = ne_eqb place.at.port.0 q.at.port.0 (λ e. other (ap (λ (k : ℕ). record { 0 = k }) (sym e))) in
    let two = and_right (place.at.node.0 == q.at.node.0) (place.at.port.0 == q.at.port.0) apart_ports in
    subst (λ (n : ℕ). AreSourcesBelow s.tree n place.at.node.0) lvl
    (sources-below s.tree laws place.at q.at here there (ap (λ (t : NodeNo). t.0) node) two same)

-- ---- they stay as they are while ports of the level get their flows

pub still-kept : (s : Setting) (level : ℕ) (flows : List PortFlow) (at : AtNode) (copies : List Incoming) (k : ℕ) (x : PortFlow) (p : EgressPort)
    → (get_or flows k x).at ≡ p → x.at ≡ p → level_at s.tree p ≡ level → AreKept s level flows at copies → AreKept s level (set flows k x) at copies
still-kept s level flows at copies k x p old new lvl kept =
    let links = s.tree.links in
    record {
      frames = kept.frames;
      below = kept.below;
      serve = λ all place port served.
          let B : EgressPort → Type 0 = λ r. level_at s.tree (peer_of links r) < level in
          let A : EgressPort → Type 0 = λ r. is_port r place.at ≡ false → flow_at flows (peer_of links r) ≡ flow_at (set flows k x) (peer_of links r) in
          let below = subst (λ (n : NodeNo). All B (ports_at links n.0)) (sym served.0) (kept.below all) in
          kept.serve all place port served
          ∙ arriving-same links s.frames s.ticks flows (set flows k x) place
          (All-weaker B A (λ r lt nay. set-apart s.tree flows k x p old new (peer_of links r) (omega (arith, lt, lvl))) (ports_at links place.at.node.0) below);
    }

-- the flow of this index, which is of the level, is put in
pub step-kept : (s : Setting) (places : List Place) (levels : List ℕ) (flows after : List PortFlow) (level k : ℕ) (place : Place) (at : AtNode) (copies : List Incoming)
    → levels ≡ map (level_of s.tree) places → AreAt places flows → k < length places → get_or levels k 0 ≡ level
    → after ≡ set flows k (port_flow s flows (get_or places k place)) → AreKept s level flows at copies → AreKept s level after at copies
step-kept s places levels flows after level k place at copies are put below is made kept =
    let here = get_or places k place in
    let x = port_flow s flows here in
    let lvl = sym (level-read s.tree places levels k place are below) ∙ is in
    subst (λ (t : List PortFlow). AreKept s level t at copies) (sym made)
    (still-kept s level flows at copies k x here.at (at-index places flows k place x put below) refl lvl kept)

-- The copies that arrive at a port: whose they are, and on which flows they depend.
use Rattle.std.proofs.Common.{◌≡◌, ℕ, ◌+◌, ◌<◌, set, replicate, append-nil, inl, inr, Bool, true, false, List, [], ◌∷◌, ◌++◌, length, get_or, take, Option, Some, None, refl, sym, ◌∙◌, ap, subst, arith}
use Rattle.std.specs.Prelude.{All, AllPairs, find, filter, filter_map, flat_map, nat_lt, ◌==◌, ◌&&◌}
use Rattle.std.specs.List.{cons_option}
use Rattle.std.proofs.lemmas.{Bool.cond_both, Bool.cond-true, Bool.cond-false, Bool.cases_Bool, Bool.cases_eq, Bool.eq-eqb, Bool.ne_eqb, Bool.ltb-true, Bool.and_parts, List.get_or-replicate, List.length-replicate, List.length-set, List.get_or-set_same, List.get_or-set_other, List.take_more, List.Elements.filter-append, List.Elements.All-nil, List.Elements.All-cons, List.Elements.All-head, List.Elements.All-tail, List.Elements.All-append, List.Elements.All-filter, List.Elements.All-map, List.Elements.All-weaker}
use Rattle.srp_base.proofs.Lists.{All-flat_map}
use Rattle.srp_base.specs.declared.{numbers.EgressPort.EgressPort, numbers.NodeNo.NodeNo, bandwidth.Rate.Rate}
use Rattle.tree_topology.specs.{Topology.HasNode, Ports.peer_of}
use Rattle.tree_topology.specs.declared.graph.Link.{Link}
use Rattle.frame_flow.specs.{Frame, FrameCopy, Fate, Unbooked, NoVlan, Departed, Left, PortFlow, Place, bits_of_ticks, bit_from, moment_of, is_port, IsKnown, Reached, sent_from, frame_of, reached_at, handed_on, handed_by, comes_over, flow_at, frames_reaching, ports_at, goes_by, copy_of, in_order, arriving, Setting, AreByNode, IsInOrder}
use Rattle.frame_flow.proofs.{NumberLemmas.find-here, OrderLemmas.All-in_order, OrderLemmas.order-in_order}

-- ---- lists

pub All-find : {X : Type 0} (P : X → Type 0) (p : X → Bool) (xs : List X) (x : X) → All P xs → find p xs ≡ Some x → P x × (p x ≡ true)
All-find P p [] x all e = absurd (let nay : None ≡ Some x = e in cc)
All-find {X} P p (y ∷ ys) x all e =
    elim (cases_Bool (p y)) [
      | inl is ↦ (
          let same : Some y ≡ Some x = sym (cond-true (p y) (Some y) (find p ys) is) ∙ e in
          let one : y ≡ x = cc in
          let Q : X → Type 0 = λ t. P t × (p t ≡ true) in
          subst Q one (All-head P y ys all, is))
      | inr nay ↦ All-find P p ys x (All-tail P y ys all) (sym (cond-false (p y) (Some y) (find p ys) nay) ∙ e)
    ]

pub All-any : {X : Type 0} (xs : List X) → All (λ x. Unit {0}) xs
All-any xs k d below = tt

pub flat_map-same : {X Y : Type 0} (f g : X → List Y) (xs : List X) → All (λ x. f x ≡ g x) xs → flat_map f xs ≡ flat_map g xs
flat_map-same f g [] all = refl
flat_map-same {X} {Y} f g (x ∷ xs) all =
    let P : X → Type 0 = λ t. f t ≡ g t in
    ap (λ (t : List Y). t ++ flat_map f xs) (All-head P x xs all) ∙ ap (λ (t : List Y). g x ++ t) (flat_map-same f g xs (All-tail P x xs all))

-- what a filter_map gives
All-with_some : {Y : Type 0} (Q : Y → Type 0) (o : Option Y) (rest : List Y) → ((y : Y) → o ≡ Some y → Q y) → All Q rest → All Q (cons_option o rest)
All-with_some Q None rest each all = all
All-with_some Q (Some y) rest each all = All-cons Q y rest (each y refl) all

pub All-filter_map : {X Y : Type 0} (P : X → Type 0) (Q : Y → Type 0) (h : X → Option Y) → ((x : X) (y : Y) → P x → h x ≡ Some y → Q y)
    → (xs : List X) → All P xs → All Q (filter_map h xs)
All-filter_map P Q h each [] all = All-nil Q
All-filter_map P Q h each (x ∷ xs) all =
    All-with_some Q (h x) (filter_map h xs) (λ y s. each x y (All-head P x xs all) s) (All-filter_map P Q h each xs (All-tail P x xs all))

-- ---- the frame of a number

-- each frame is that of its number
pub known-each : (frames : List Frame) → AllPairs (λ f g. f.number < g.number) frames → All (IsKnown frames) frames
known-each frames up k d below =
    find-here (λ f. f.number == (get_or frames k d).number) frames k d below
    (λ j lt. ne_eqb (get_or frames j d).number (get_or frames k d).number (λ e. omega (arith, up j k d lt below, e)))
    (eq-eqb (get_or frames k d).number (get_or frames k d).number refl)

-- ---- whose copies arrive

All-reached_at : (P : Frame → Type 0) (moment : ℕ) (o : Option Frame) → ((f : Frame) → o ≡ Some f → P f) → All (λ r. P r.frame) (reached_at moment o)
All-reached_at P moment None each = All-nil (λ r. P r.frame)
All-reached_at P moment (Some f) each = All-cons (λ r. P r.frame) (record { frame = f; moment = moment }) [] (each f refl) (All-nil (λ r. P r.frame))

All-handed_on : (P : Frame → Type 0) (frames : List Frame) → All P frames → (rate : Rate) (number : ℕ) (fate : Fate)
    → All (λ r. P r.frame) (handed_on frames rate number fate)
All-handed_on P frames all rate number Unbooked = All-nil (λ r. P r.frame)
All-handed_on P frames all rate number NoVlan = All-nil (λ r. P r.frame)
All-handed_on P frames all rate number Left = All-nil (λ r. P r.frame)
All-handed_on P frames all rate number (Departed start end) =
    All-reached_at P (moment_of rate end) (frame_of frames number) (λ f e. (All-find P (λ g. g.number == number) frames f all e).0)

pub All-handed_by : (P : Frame → Type 0) (frames : List Frame) → All P frames → (x : Option PortFlow) → All (λ r. P r.frame) (handed_by frames x)
All-handed_by P frames all None = All-nil (λ r. P r.frame)
All-handed_by P frames all (Some x) =
    All-flat_map (λ e. Unit {0}) (λ r. P r.frame) (λ e. handed_on frames x.input.rate e.0 e.1) (λ e h. All-handed_on P frames all x.input.rate e.0 e.1) x.fates (All-any x.fates)

All-comes_over : (P : Frame → Type 0) (links : List Link) (frames : List Frame) (flows : List PortFlow) (p r : EgressPort) → All P frames
    → All (λ t. P t.frame) (comes_over links frames flows p r)
All-comes_over P links frames flows p r all =
    cond_both (is_port r p) [] (handed_by frames (flow_at flows (peer_of links r))) (λ t. All (λ u. P u.frame) t)
    (λ e. All-nil (λ u. P u.frame)) (λ e. All-handed_by P frames all (flow_at flows (peer_of links r)))

pub All-sent_from : (P : Frame → Type 0) (frames : List Frame) (x : ℕ) → All P frames → All (λ r. P r.frame) (sent_from frames x)
All-sent_from P frames x all =
    All-map (λ r. P r.frame) (λ f. record { frame = f; moment = f.at.0 }) (filter (λ f. f.from.0 == x) frames) (All-filter (λ f. f.from.0 == x) P frames all)

-- what holds of all frames holds of those that reach a port's node
pub All-reached : (P : Frame → Type 0) (links : List Link) (frames : List Frame) (flows : List PortFlow) (p : EgressPort) → All P frames
    → All (λ r. P r.frame) (frames_reaching links frames flows p)
All-reached P links frames flows p all =
    All-append (λ r. P r.frame) (sent_from frames p.node.0) (flat_map (comes_over links frames flows p) (ports_at links p.node.0))
    (All-sent_from P frames p.node.0 all)
    (All-flat_map (λ e. Unit {0}) (λ r. P r.frame) (comes_over links frames flows p) (λ r h. All-comes_over P links frames flows p r all) (ports_at links p.node.0) (All-any (ports_at links p.node.0)))

-- a copy is of the frame, in its first bit time, which is before the run's end
pub copy-is : (links : List Link) (ticks : ℕ) (place : Place) (r : Reached) (c : FrameCopy) → copy_of links ticks place r ≡ Some c
    → (c.frame ≡ r.frame) × (c.bit < bits_of_ticks place.rate ticks)
copy-is links ticks place r c e =
    let bit = bit_from place.rate r.moment in
    let made : FrameCopy = record { bit = bit; frame = r.frame } in
    let goes = goes_by links place.at r.frame.route in
    let early = nat_lt bit (bits_of_ticks place.rate ticks) in
    elim (cases_Bool (goes && early)) [
      | inl is ↦ (
          let same : Some made ≡ Some c = sym (cond-true (goes && early) (Some made) None is) ∙ e in
          let one : made ≡ c = cc in
          let lt = ltb-true bit (bits_of_ticks place.rate ticks) (and_parts goes early is).1 in
          let Q : FrameCopy → Type 0 = λ t. (t.frame ≡ r.frame) × (t.bit < bits_of_ticks place.rate ticks) in
          subst Q one (refl, lt))
      | inr nay ↦ (
          let none : None ≡ Some c = sym (cond-false (goes && early) (Some made) None nay) ∙ e in
          absurd (let nothing : None ≡ Some c = none in cc))
    ]

pub record IsArrived (P : Frame → Type 0) (place : Place) (ticks : ℕ) (c : FrameCopy) : Type 0 where
  pub frame : P c.frame
  pub early : c.bit < bits_of_ticks place.rate ticks

pub All-copies : (P : Frame → Type 0) (links : List Link) (ticks : ℕ) (place : Place) (rs : List Reached) → All (λ r. P r.frame) rs
    → All (IsArrived P place ticks) (filter_map (copy_of links ticks place) rs)
All-copies P links ticks place rs all =
    All-filter_map (λ r. P r.frame) (IsArrived P place ticks) (copy_of links ticks place)
    (λ r c h e. let is = copy-is links ticks place r c e in record { frame = subst P (sym is.0) h; early = is.1 }) rs all

-- what holds of all frames holds of the copies that arrive, each before the run's end
pub All-arriving : (P : Frame → Type 0) (links : List Link) (frames : List Frame) (ticks : ℕ) (flows : List PortFlow) (place : Place) → All P frames
    → All (IsArrived P place ticks) (arriving links frames ticks flows place)
unfolding arriving
All-arriving P links frames ticks flows place all =
    All-in_order (IsArrived P place ticks) (filter_map (copy_of links ticks place) (frames_reaching links frames flows place.at))
    (All-copies P links ticks place (frames_reaching links frames flows place.at) (All-reached P links frames flows place.at all))

pub order-arriving : (links : List Link) (frames : List Frame) (ticks : ℕ) (flows : List PortFlow) (place : Place) → IsInOrder (arriving links frames ticks flows place)
unfolding arriving
order-arriving links frames ticks flows place = order-in_order (filter_map (copy_of links ticks place) (frames_reaching links frames flows place.at))

-- ---- on which flows they depend

comes_over-same : (links : List Link) (frames : List Frame) (one other : List PortFlow) (p r : EgressPort)
    → (is_port r p ≡ false → flow_at one (peer_of links r) ≡ flow_at other (peer_of links r))
    → comes_over links frames one p r ≡ comes_over links frames other p r
comes_over-same links frames one other p r agree =
    let from = λ (flows : List PortFlow). handed_by frames (flow_at flows (peer_of links r)) in
    elim (cases_Bool (is_port r p)) [
      | inl is ↦ cond-true (is_port r p) [] (from one) is ∙ sym (cond-true (is_port r p) [] (from other) is)
      | inr nay ↦ cond-false (is_port r p) [] (from one) nay ∙ ap (λ (x : Option PortFlow). handed_by frames x) (agree nay) ∙ sym (cond-false (is_port r p) [] (from other) nay)
    ]

pub arriving-same : (links : List Link) (frames : List Frame) (ticks : ℕ) (one other : List PortFlow) (place : Place)
    → All (λ r. is_port r place.at ≡ false → flow_at one (peer_of links r) ≡ flow_at other (peer_of links r)) (ports_at links place.at.node.0)
    → arriving links frames ticks one place ≡ arriving links frames ticks other place
unfolding arriving
arriving-same links frames ticks one other place agree =
    let p = place.at in
    let A : EgressPort → Type 0 = λ r. is_port r p ≡ false → flow_at one (peer_of links r) ≡ flow_at other (peer_of links r) in
    let E : EgressPort → Type 0 = λ r. comes_over links frames one p r ≡ comes_over links frames other p r in
    let same = flat_map-same (comes_over links frames one p) (comes_over links frames other p) (ports_at links p.node.0)
    (All-weaker A E (λ r h. comes_over-same links frames one other p r h) (ports_at links p.node.0) agree) in
    ap (λ (t : List Reached). in_order (filter_map (copy_of links ticks place) (sent_from frames p.node.0 ++ t))) same

-- ---- the frames of each node

pub none-by-node : (last : ℕ) (lists : List (List Frame)) → lists ≡ replicate (last + 1) [] → AreByNode last [] lists
none-by-node last lists none = record {
  size = ap length none ∙ length-replicate (last + 1) [];
  each = λ x few. ap (λ (t : List (List Frame)). get_or t x []) none ∙ get_or-replicate (last + 1) x [] [] (omega (arith, few));
}

pub more-by-node : (last : ℕ) (frames : List Frame) (i : ℕ) (d : Frame) (lists after : List (List Frame)) → i < length frames
    → after ≡ set lists (get_or frames i d).from.0 (get_or lists (get_or frames i d).from.0 [] ++ get_or frames i d ∷ [])
    → AreByNode last (take i frames) lists → AreByNode last (take (i + 1) frames) after
more-by-node last frames i d lists after below made by =
    let f = get_or frames i d in
    let k = f.from.0 in
    let more = get_or lists k [] ++ f ∷ [] in
    record {
      size = ap length made ∙ length-set lists k more ∙ by.size;
      each = λ x few.
          let p : Frame → Bool = λ g. g.from.0 == x in
          let rest = filter p (take i frames) in
          ap (λ (t : List (List Frame)). get_or t x []) made
          ∙ elim (cases_eq k x) [
            | inl same ↦ (
                let there : get_or (set lists k more) k [] ≡ more = get_or-set_same lists k more [] (omega (arith, same, few, by.size)) in
                subst (λ (n : ℕ). get_or (set lists k more) n [] ≡ get_or lists n [] ++ f ∷ []) same there
                ∙ ap (λ (t : List Frame). t ++ f ∷ []) (by.each x few)
                ∙ ap (λ (t : List Frame). rest ++ t) (sym (cond-true (p f) (f ∷ []) [] (eq-eqb k x same))))
            | inr ne ↦ get_or-set_other lists k x more [] (λ e. ne (sym e)) ∙ by.each x few
                ∙ sym (append-nil rest) ∙ ap (λ (t : List Frame). rest ++ t) (sym (cond-false (p f) (f ∷ []) [] (ne_eqb k x ne)))
          ]
          ∙ sym (filter-append p (take i frames) (f ∷ [])) ∙ ap (λ (t : List Frame). filter p t) (sym (take_more frames i d below));
    }

-- those of a node, as they are kept
pub own-are : (s : Setting) (lists : List (List Frame)) (node : NodeNo) (own : List Frame) → AreByNode (length s.tree.kinds) s.frames lists
    → HasNode s.tree node.0 → own ≡ get_or lists node.0 [] → own ≡ filter (λ f. f.from.0 == node.0) s.frames
own-are s lists node own by there is = is ∙ by.each node.0 there.1

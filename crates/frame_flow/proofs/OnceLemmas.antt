-- Why a frame reaches a port at most once: its station lies behind one port of each other node.
use Rattle.std.proofs.Common.{◌≡◌, ◌≢◌, ℕ, zero, suc, ◌+◌, ◌<◌, inl, inr, Bool, true, false, List, [], ◌∷◌, length, get_or, map, Option, Some, None, refl, sym, ◌∙◌, ap, subst, arith}
use Rattle.std.specs.Prelude.{All, AllPairs, filter, filter_map, flat_map, ◌==◌}
use Rattle.std.specs.List.{cons_option}
use Rattle.std.proofs.lemmas.{Bool.cond_both, Bool.cases_Bool, Bool.eqb-true, Bool.false≢true, List.Elements.All-nil, List.Elements.All-cons, List.Elements.All-head, List.Elements.All-tail, List.Elements.All-append, List.Elements.All-map, List.Elements.All-weaker, List.Elements.filter_passes, List.Kept.AllPairs-cons, List.Kept.AllPairs-filter, List.FromFn.get_or-map-range_with_len, List.FromFn.length-map-range_with_len}
use Rattle.srp_base.proofs.{Bools.not-true-false as not-false, Lists.All-flat_map}
use Rattle.srp_base.specs.declared.{numbers.EgressPort.EgressPort, bandwidth.Rate.Rate}
use Rattle.tree_topology.specs.declared.graph.Link.{Link}
use Rattle.tree_topology.specs.{Topology.Topology, Topology.HasNode, Topology.HasPort, Ports.neighbours, Ports.peer_of, Walk.is_behind, PortLaws.HasPortLaws}
use Rattle.frame_flow.specs.{Frame, FrameCopy, Fate, Unbooked, NoVlan, Departed, Left, PortFlow, Place, moment_of, is_port, changes_at, IsKnown, Reached, all_places, sent_from, frame_of, reached_at, handed_on, handed_by, comes_over, flow_at, frames_reaching, ports_at, port_of, copy_of, is_not_after, with_copy, in_order, arriving, Setting, IsFlow, port_flow, force_on, fate_of, port_input, level_at, IsSetting, IsFrame}
use Rattle.credit_shaper.specs.Departures.{sent_of}
use Rattle.credit_shaper.proofs.PairLemmas.{AllPairs-map, pairs-append, pairs-head, pairs-none, pairs-tail}
use Rattle.frame_flow.proofs.{OrderLemmas.All-with_copy, OrderLemmas.All-in_order, CopyLemmas.All-find, CopyLemmas.All-filter_map, CopyLemmas.All-any, CopyLemmas.All-sent_from, CopyLemmas.All-handed_by, CopyLemmas.All-arriving, CopyLemmas.known-each, CopyLemmas.copy-is, LevelLemmas.same-port, LevelLemmas.port-itself, LevelLemmas.IsPortOf, LevelLemmas.source-below, LevelLemmas.ports-are, LevelLemmas.places-are}

-- ---- pairs of a list's elements

pub pairs-flat_map : {X Y : Type 0} (R : X → X → Type 0) (S : Y → Y → Type 0) (P : X → Type 0) (f : X → List Y) → ((x : X) → P x → AllPairs S (f x))
    → ((x y : X) → P x → P y → R x y → All (λ u. All (S u) (f y)) (f x)) → (xs : List X) → All P xs → AllPairs R xs → AllPairs S (flat_map f xs)
pairs-flat_map R S P f each cross [] all h = pairs-none S
pairs-flat_map {X} R S P f each cross (x ∷ xs) all h =
    let here = All-head P x xs all in
    let rest = All-tail P x xs all in
    let Q : X → Type 0 = λ y. P y × R x y in
    let both : All Q xs = λ k d below. (rest k d below, pairs-head R x xs h k d below) in
    pairs-append S (f x) (flat_map f xs) (each x here) (pairs-flat_map R S P f each cross xs rest (pairs-tail R x xs h))
    (λ k d below. All-flat_map Q (S (get_or (f x) k d)) f (λ y q. cross x y here q.0 q.1 k d below) xs both)

pairs-some : {Y : Type 0} (S : Y → Y → Type 0) (o : Option Y) (rest : List Y) → ((y : Y) → o ≡ Some y → All (S y) rest) → AllPairs S rest → AllPairs S (cons_option o rest)
pairs-some S None rest each h = h
pairs-some S (Some y) rest each h = AllPairs-cons S y rest (each y refl) h

pub pairs-filter_map : {X Y : Type 0} (R : X → X → Type 0) (S : Y → Y → Type 0) (h : X → Option Y)
    → ((x y : X) (u v : Y) → R x y → h x ≡ Some u → h y ≡ Some v → S u v) → (xs : List X) → AllPairs R xs → AllPairs S (filter_map h xs)
pairs-filter_map R S h each [] pairs = pairs-none S
pairs-filter_map R S h each (x ∷ xs) pairs =
    pairs-some S (h x) (filter_map h xs)
    (λ u e. All-filter_map (R x) (S u) h (λ y v r f. each x y u v r e f) xs (pairs-head R x xs pairs)) (pairs-filter_map R S h each xs (pairs-tail R x xs pairs))

pairs-with_copy : (R : FrameCopy → FrameCopy → Type 0) → ((x y : FrameCopy) → R x y → R y x) → (x : FrameCopy) (ys : List FrameCopy) → All (R x) ys → AllPairs R ys → AllPairs R (with_copy x ys)
pairs-with_copy R flip x [] all h = AllPairs-cons R x [] all h
pairs-with_copy R flip x (y ∷ ys) all h =
    cond_both (is_not_after x y) (x ∷ y ∷ ys) (y ∷ with_copy x ys) (λ t. AllPairs R t)
    (λ e. AllPairs-cons R x (y ∷ ys) all h)
    (λ e. AllPairs-cons R y (with_copy x ys) (All-with_copy (R y) x ys (flip x y (All-head (R x) y ys all)) (pairs-head R y ys h))
    (pairs-with_copy R flip x ys (All-tail (R x) y ys all) (pairs-tail R y ys h)))

pub pairs-in_order : (R : FrameCopy → FrameCopy → Type 0) → ((x y : FrameCopy) → R x y → R y x) → (xs : List FrameCopy) → AllPairs R xs → AllPairs R (in_order xs)
pairs-in_order R flip [] h = h
pairs-in_order R flip (x ∷ xs) h =
    pairs-with_copy R flip x (in_order xs) (All-in_order (R x) xs (pairs-head R x xs h)) (pairs-in_order R flip xs (pairs-tail R x xs h))

-- ---- whose numbers differ

abbrev Differ : Reached → Reached → Type 0
Differ a b = a.frame.number ≢ b.frame.number

abbrev pub DifferCopies : FrameCopy → FrameCopy → Type 0
DifferCopies c d = c.frame.number ≢ d.frame.number

abbrev pub DifferFates : ℕ × Fate → ℕ × Fate → Type 0
DifferFates a b = a.0 ≢ b.0

-- what is so of a port's flow: no number stands twice, and no frame's station lies behind the port
pub record IsOnce (links : List Link) (frames : List Frame) (q : EgressPort) (x : PortFlow) : Type 0 where
  pub numbers : AllPairs DifferFates x.fates
  pub from : All (λ e. (f : Frame) → frame_of frames e.0 ≡ Some f → is_behind links q f.from.0 ≡ false) x.fates

-- ---- what one port hands on

numbers-reached_at : (frames : List Frame) (moment number : ℕ) (o : Option Frame) → ((f : Frame) → o ≡ Some f → f.number ≡ number) → All (λ r. r.frame.number ≡ number) (reached_at moment o)
numbers-reached_at frames moment number None each = All-nil (λ r. r.frame.number ≡ number)
numbers-reached_at frames moment number (Some f) each =
    All-cons (λ r. r.frame.number ≡ number) (record { frame = f; moment = moment }) [] (each f refl) (All-nil (λ r. r.frame.number ≡ number))

found-number : (frames : List Frame) (number : ℕ) (f : Frame) → frame_of frames number ≡ Some f → f.number ≡ number
found-number frames number f e =
    eqb-true f.number number (All-find (λ g. Unit {0}) (λ g. g.number == number) frames f (All-any frames) e).1

numbers-handed_on : (frames : List Frame) (rate : Rate) (number : ℕ) (fate : Fate) → All (λ r. r.frame.number ≡ number) (handed_on frames rate number fate)
numbers-handed_on frames rate number Unbooked = All-nil (λ r. r.frame.number ≡ number)
numbers-handed_on frames rate number NoVlan = All-nil (λ r. r.frame.number ≡ number)
numbers-handed_on frames rate number Left = All-nil (λ r. r.frame.number ≡ number)
numbers-handed_on frames rate number (Departed start end) =
    numbers-reached_at frames (moment_of rate end) number (frame_of frames number) (λ f e. found-number frames number f e)

pairs-reached_at : (moment : ℕ) (o : Option Frame) → AllPairs Differ (reached_at moment o)
pairs-reached_at moment None = pairs-none Differ
pairs-reached_at moment (Some f) =
    let r : Reached = record { frame = f; moment = moment } in AllPairs-cons Differ r [] (All-nil (Differ r)) (pairs-none Differ)

pairs-handed_on : (frames : List Frame) (rate : Rate) (number : ℕ) (fate : Fate) → AllPairs Differ (handed_on frames rate number fate)
pairs-handed_on frames rate number Unbooked = pairs-none Differ
pairs-handed_on frames rate number NoVlan = pairs-none Differ
pairs-handed_on frames rate number Left = pairs-none Differ
pairs-handed_on frames rate number (Departed start end) = pairs-reached_at (moment_of rate end) (frame_of frames number)

pairs-handed_by : (frames : List Frame) (o : Option PortFlow) → ((x : PortFlow) → o ≡ Some x → AllPairs DifferFates x.fates) → AllPairs Differ (handed_by frames o)
pairs-handed_by frames None each = pairs-none Differ
pairs-handed_by frames (Some x) each =
    let rate = x.input.rate in
    pairs-flat_map DifferFates Differ (λ e. Unit {0}) (λ e. handed_on frames rate e.0 e.1) (λ e t. pairs-handed_on frames rate e.0 e.1)
    (λ a b s t ne k d low i e below same.
    ne (sym (numbers-handed_on frames rate a.0 a.1 k d low) ∙ same ∙ numbers-handed_on frames rate b.0 b.1 i e below))
    x.fates (All-any x.fates) (each x refl)

from-reached_at : (P : ℕ → Type 0) (moment : ℕ) (o : Option Frame) → ((f : Frame) → o ≡ Some f → P f.from.0) → All (λ r. P r.frame.from.0) (reached_at moment o)
from-reached_at P moment None each = All-nil (λ r. P r.frame.from.0)
from-reached_at P moment (Some f) each = All-cons (λ r. P r.frame.from.0) (record { frame = f; moment = moment }) [] (each f refl) (All-nil (λ r. P r.frame.from.0))

from-handed_on : (P : ℕ → Type 0) (frames : List Frame) (rate : Rate) (number : ℕ) (fate : Fate) → ((f : Frame) → frame_of frames number ≡ Some f → P f.from.0)
    → All (λ r. P r.frame.from.0) (handed_on frames rate number fate)
from-handed_on P frames rate number Unbooked each = All-nil (λ r. P r.frame.from.0)
from-handed_on P frames rate number NoVlan each = All-nil (λ r. P r.frame.from.0)
from-handed_on P frames rate number Left each = All-nil (λ r. P r.frame.from.0)
from-handed_on P frames rate number (Departed start end) each = from-reached_at P (moment_of rate end) (frame_of frames number) each

from-handed_by : (P : ℕ → Type 0) (frames : List Frame) (o : Option PortFlow)
    → ((x : PortFlow) → o ≡ Some x → All (λ e. (f : Frame) → frame_of frames e.0 ≡ Some f → P f.from.0) x.fates) → All (λ r. P r.frame.from.0) (handed_by frames o)
from-handed_by P frames None each = All-nil (λ r. P r.frame.from.0)
from-handed_by P frames (Some x) each =
    All-flat_map (λ e. (f : Frame) → frame_of frames e.0 ≡ Some f → P f.from.0) (λ r. P r.frame.from.0) (λ e. handed_on frames x.input.rate e.0 e.1)
    (λ e h. from-handed_on P frames x.input.rate e.0 e.1 h) x.fates (each x refl)

-- ---- what reaches a port's node

-- what is known of the ports that send into a port's node
abbrev AreOnce : Setting → List PortFlow → EgressPort → Type 0
AreOnce s flows p =
    (q : EgressPort) → HasPort s.tree q → level_at s.tree q < level_at s.tree p → (x : PortFlow) → flow_at flows q ≡ Some x → IsOnce s.tree.links s.frames q x

-- a frame that came over a port: its station lies behind the port, and it is the frame of its number
record IsOver (s : Setting) (r : EgressPort) (t : Reached) : Type 0 where
  behind : is_behind s.tree.links r t.frame.from.0 ≡ true
  known : IsKnown s.frames t.frame

stations : (s : Setting) → IsSetting s → All (λ f. HasNode s.tree f.from.0) s.frames
stations s given = All-weaker (IsFrame s.tree s.ticks) (λ f. HasNode s.tree f.from.0) (λ f h. h.from) s.frames given.range.frames

handed-over : (s : Setting) → IsSetting s → HasPortLaws s.tree → (flows : List PortFlow) (p r : EgressPort) → HasPort s.tree p → IsPortOf s.tree p.node.0 r → AreOnce s flows p
    → is_port r p ≡ false → All (IsOver s r) (handed_by s.frames (flow_at flows (peer_of s.tree.links r)))
handed-over s given laws flows p r port there once other k d below =
    let links = s.tree.links in
    let q = peer_of links r in
    let low = source-below s.tree laws p r port there.0 there.1 other in
    let sent = handed_by s.frames (flow_at flows q) in
    let y = (get_or sent k d).frame.from.0 in
    let aside = from-handed_by (λ n. is_behind links q n ≡ false) s.frames (flow_at flows q) (λ x e. (once q low.0 low.1 x e).from) k d below in
    let node = All-handed_by (λ f. HasNode s.tree f.from.0) s.frames (stations s given) (flow_at flows q) k d below in
    let back : is_behind links (peer_of links q) y ≡ true = not-false (is_behind links (peer_of links q) y) (sym (laws.sides q y low.0 node) ∙ aside) in
    record {
      behind = subst (λ (t : EgressPort). is_behind links t y ≡ true) (laws.peer_twice r there.0) back;
      known = All-handed_by (IsKnown s.frames) s.frames (known-each s.frames given.range.numbers) (flow_at flows q) k d below;
    }

comes-over : (s : Setting) → IsSetting s → HasPortLaws s.tree → (flows : List PortFlow) (p r : EgressPort) → HasPort s.tree p → IsPortOf s.tree p.node.0 r → AreOnce s flows p
    → All (IsOver s r) (comes_over s.tree.links s.frames flows p r)
comes-over s given laws flows p r port there once =
    cond_both (is_port r p) [] (handed_by s.frames (flow_at flows (peer_of s.tree.links r))) (λ t. All (IsOver s r) t)
    (λ e. All-nil (IsOver s r)) (λ e. handed-over s given laws flows p r port there once e)

comes-pairs : (s : Setting) → HasPortLaws s.tree → (flows : List PortFlow) (p r : EgressPort) → HasPort s.tree p → IsPortOf s.tree p.node.0 r → AreOnce s flows p
    → AllPairs Differ (comes_over s.tree.links s.frames flows p r)
comes-pairs s laws flows p r port there once =
    let q = peer_of s.tree.links r in
    cond_both (is_port r p) [] (handed_by s.frames (flow_at flows q)) (λ t. AllPairs Differ t) (λ e. pairs-none Differ)
    (λ e. let low = source-below s.tree laws p r port there.0 there.1 e in
    pairs-handed_by s.frames (flow_at flows q) (λ x f. (once q low.0 low.1 x f).numbers))

-- frames of one number are one
same-frame : (frames : List Frame) (f g : Frame) → IsKnown frames f → IsKnown frames g → f.number ≡ g.number → f ≡ g
same-frame frames f g one two e =
    let some : Some f ≡ Some g = sym one ∙ ap (λ (n : ℕ). frame_of frames n) e ∙ two in cc

ports-apart : (tree : Topology) (x : ℕ) → AllPairs (λ r t. r ≢ t) (ports_at tree.links x)
ports-apart tree x i j d lt below e =
    let n = length (neighbours tree.links x) in
    let few : j < n = omega (arith, below, length-map-range_with_len (port_of x) 1 n) in
    let one = get_or-map-range_with_len (port_of x) 1 n i (1 + i) d (omega (arith, few, lt)) refl in
    let two = get_or-map-range_with_len (port_of x) 1 n j (1 + j) d few refl in
    let same : 1 + i ≡ 1 + j = ap (λ (t : EgressPort). t.port.0) (sym one ∙ e ∙ two) in
    omega (arith, lt, same)

cross-ports : (s : Setting) → HasPortLaws s.tree → (x : ℕ) (r t : EgressPort) → IsPortOf s.tree x r → IsPortOf s.tree x t → r ≢ t → (us vs : List Reached)
    → All (IsOver s r) us → All (IsOver s t) vs → All (λ u. All (Differ u) vs) us
cross-ports s laws x r t at_r at_t ne us vs over_us over_vs k d low i e below same =
    let u = get_or us k d in
    let v = get_or vs i e in
    let frame = same-frame s.frames u.frame v.frame (over_us k d low).known (over_vs i e below).known same in
    let links = s.tree.links in
    let there = subst (λ (f : Frame). is_behind links t f.from.0 ≡ true) (sym frame) (over_vs i e below).behind in
    ne (laws.one_port r t u.frame.from.0 at_r.0 at_t.0 (at_r.1 ∙ sym at_t.1) (over_us k d low).behind there)

own-apart : (s : Setting) → HasPortLaws s.tree → (x : ℕ) (r : EgressPort) → IsPortOf s.tree x r → (u v : Reached) → IsKnown s.frames u.frame → u.frame.from.0 ≡ x → IsOver s r v → Differ u v
own-apart s laws x r there u v known from over same =
    let frame = same-frame s.frames u.frame v.frame known over.known same in
    let links = s.tree.links in
    let here : v.frame.from.0 ≡ r.node.0 = ap (λ (f : Frame). f.from.0) (sym frame) ∙ from ∙ sym there.1 in
    laws.own r there.0 (subst (λ (y : ℕ). is_behind links r y ≡ true) here over.behind)

own-from : (frames : List Frame) (x : ℕ) → All (λ r. r.frame.from.0 ≡ x) (sent_from frames x)
own-from frames x =
    let test : Frame → Bool = λ f. f.from.0 == x in
    All-map (λ r. r.frame.from.0 ≡ x) (λ f. record { frame = f; moment = f.at.0 }) (filter test frames)
    (All-weaker (λ f. test f ≡ true) (λ f. f.from.0 ≡ x) (λ f e. eqb-true f.from.0 x e) (filter test frames) (filter_passes test frames))

own-pairs : (frames : List Frame) (x : ℕ) → AllPairs (λ f g. f.number < g.number) frames → AllPairs Differ (sent_from frames x)
own-pairs frames x up =
    let R : Frame → Frame → Type 0 = λ f g. f.number < g.number in
    AllPairs-map R Differ (λ f. record { frame = f; moment = f.at.0 }) (λ f g lt e. omega (arith, lt, e)) (filter (λ f. f.from.0 == x) frames)
    (AllPairs-filter R (λ f. f.from.0 == x) frames up)

reached-pairs : (s : Setting) → IsSetting s → HasPortLaws s.tree → (flows : List PortFlow) (p : EgressPort) → HasPort s.tree p → AreOnce s flows p
    → AllPairs Differ (frames_reaching s.tree.links s.frames flows p)
reached-pairs s given laws flows p port once =
    let links = s.tree.links in
    let x = p.node.0 in
    let own = sent_from s.frames x in
    let ports = ports_at links x in
    let over = comes_over links s.frames flows p in
    let are = ports-are s.tree x port.0 in
    let known = All-sent_from (IsKnown s.frames) s.frames x (known-each s.frames given.range.numbers) in
    pairs-append Differ own (flat_map over ports) (own-pairs s.frames x given.range.numbers)
    (pairs-flat_map (λ r t. r ≢ t) Differ (IsPortOf s.tree x) over (λ r there. comes-pairs s laws flows p r port there once)
    (λ r t at_r at_t ne. cross-ports s laws x r t at_r at_t ne (over r) (over t) (comes-over s given laws flows p r port at_r once) (comes-over s given laws flows p t port at_t once))
    ports are (ports-apart s.tree x))
    (λ k d low. All-flat_map (IsPortOf s.tree x) (Differ (get_or own k d)) over
    (λ r there i e below. own-apart s laws x r there (get_or own k d) (get_or (over r) i e) (known k d low) (own-from s.frames x k d low)
    (comes-over s given laws flows p r port there once i e below)) ports are)

-- ---- no frame goes back to where it came from

comes-side : (s : Setting) → IsSetting s → HasPortLaws s.tree → (flows : List PortFlow) (p r : EgressPort) → HasPort s.tree p → IsPortOf s.tree p.node.0 r → AreOnce s flows p
    → All (λ t. is_behind s.tree.links p t.frame.from.0 ≡ false) (comes_over s.tree.links s.frames flows p r)
comes-side s given laws flows p r port there once =
    let links = s.tree.links in
    let N : Reached → Type 0 = λ t. is_behind links p t.frame.from.0 ≡ false in
    cond_both (is_port r p) [] (handed_by s.frames (flow_at flows (peer_of links r))) (λ t. All N t) (λ e. All-nil N)
    (λ e. All-weaker (IsOver s r) N
    (λ t h. elim (cases_Bool (is_behind links p t.frame.from.0)) [
      | inl is ↦ absurd (
          let same = laws.one_port r p t.frame.from.0 there.0 port there.1 h.behind is in
          false≢true (sym e ∙ subst (λ (q : EgressPort). is_port r q ≡ true) same (port-itself r)))
      | inr nay ↦ nay
    ])
    (handed_by s.frames (flow_at flows (peer_of links r))) (handed-over s given laws flows p r port there once e))

reached-side : (s : Setting) → IsSetting s → HasPortLaws s.tree → (flows : List PortFlow) (p : EgressPort) → HasPort s.tree p → AreOnce s flows p
    → All (λ t. is_behind s.tree.links p t.frame.from.0 ≡ false) (frames_reaching s.tree.links s.frames flows p)
reached-side s given laws flows p port once =
    let links = s.tree.links in
    let x = p.node.0 in
    let N : Reached → Type 0 = λ t. is_behind links p t.frame.from.0 ≡ false in
    All-append N (sent_from s.frames x) (flat_map (comes_over links s.frames flows p) (ports_at links x))
    (All-weaker (λ t. t.frame.from.0 ≡ x) N
    (λ t e. elim (cases_Bool (is_behind links p t.frame.from.0)) [
      | inl is ↦ absurd (laws.own p port (subst (λ (y : ℕ). is_behind links p y ≡ true) e is))
      | inr nay ↦ nay
    ]) (sent_from s.frames x) (own-from s.frames x))
    (All-flat_map (IsPortOf s.tree x) N (comes_over links s.frames flows p) (λ r there. comes-side s given laws flows p r port there once) (ports_at links x) (ports-are s.tree x port.0))

-- ---- what arrives at a port

arriving-pairs : (s : Setting) → IsSetting s → HasPortLaws s.tree → (flows : List PortFlow) (place : Place) → HasPort s.tree place.at → AreOnce s flows place.at
    → AllPairs DifferCopies (arriving s.tree.links s.frames s.ticks flows place)
unfolding arriving
arriving-pairs s given laws flows place port once =
    let links = s.tree.links in
    let all = frames_reaching links s.frames flows place.at in
    pairs-in_order DifferCopies (λ x y ne e. ne (sym e)) (filter_map (copy_of links s.ticks place) all)
    (pairs-filter_map Differ DifferCopies (copy_of links s.ticks place)
    (λ x y u v ne e f same.
    let number : Frame → ℕ = λ g. g.number in
    ne (ap number (sym (copy-is links s.ticks place x u e).0) ∙ same ∙ ap number (copy-is links s.ticks place y v f).0))
    all (reached-pairs s given laws flows place.at port once))

arriving-side : (s : Setting) → IsSetting s → HasPortLaws s.tree → (flows : List PortFlow) (place : Place) → HasPort s.tree place.at → AreOnce s flows place.at
    → All (λ c. is_behind s.tree.links place.at c.frame.from.0 ≡ false) (arriving s.tree.links s.frames s.ticks flows place)
unfolding arriving
arriving-side s given laws flows place port once =
    let links = s.tree.links in
    let all = frames_reaching links s.frames flows place.at in
    let N : FrameCopy → Type 0 = λ c. is_behind links place.at c.frame.from.0 ≡ false in
    All-in_order N (filter_map (copy_of links s.ticks place) all)
    (All-filter_map (λ r. is_behind links place.at r.frame.from.0 ≡ false) N (copy_of links s.ticks place)
    (λ r c h e. subst (λ (f : Frame). is_behind links place.at f.from.0 ≡ false) (sym (copy-is links s.ticks place r c e).0) h) all (reached-side s given laws flows place.at port once))

port-once : (s : Setting) → IsSetting s → HasPortLaws s.tree → (flows : List PortFlow) (place : Place) → HasPort s.tree place.at → AreOnce s flows place.at
    → IsOnce s.tree.links s.frames place.at (port_flow s flows place)
port-once s given laws flows place port once =
    let links = s.tree.links in
    let copies = arriving links s.frames s.ticks flows place in
    let changes = changes_at s.changes place.at in
    let sent = sent_of (port_input s.ticks place.rate changes copies) in
    let to : FrameCopy → ℕ × Fate = λ c. (c.frame.number, fate_of (force_on place.rate changes c) sent c) in
    let known = All-arriving (IsKnown s.frames) links s.frames s.ticks flows place (known-each s.frames given.range.numbers) in
    let F : ℕ × Fate → Type 0 = λ e. (f : Frame) → frame_of s.frames e.0 ≡ Some f → is_behind links place.at f.from.0 ≡ false in
    record {
      numbers = AllPairs-map DifferCopies DifferFates to (λ c d ne. ne) copies (arriving-pairs s given laws flows place port once);
      from = All-map F to copies (λ k d below f e.
          let some : Some (get_or copies k d).frame ≡ Some f = sym (known k d below).frame ∙ e in
          let same : (get_or copies k d).frame ≡ f = cc in
          subst (λ (g : Frame). is_behind links place.at g.from.0 ≡ false) same (arriving-side s given laws flows place port once k d below));
    }

-- ---- at every port

once-below : (s : Setting) → IsSetting s → HasPortLaws s.tree → (flows : List PortFlow) → IsFlow s flows → (m : ℕ) (q : EgressPort) → HasPort s.tree q
    → level_at s.tree q < m → (x : PortFlow) → flow_at flows q ≡ Some x → IsOnce s.tree.links s.frames q x
once-below s given laws flows is zero q port lt x e = absurd (omega (arith, lt))
once-below s given laws flows is (suc m) q port lt x e =
    let places = all_places s.tree.links s.rates in
    let ports = places-are s.tree s.rates laws in
    let P : PortFlow → Type 0 = λ y. (place : Place) × HasPort s.tree place.at × (y ≡ port_flow s flows place) in
    let all : All P (map (port_flow s flows) places) = All-map P (port_flow s flows) places (λ k d below. (get_or places k d, ports k d below, refl)) in
    let found = All-find P (λ y. is_port y.at q) flows x (subst (λ (t : List PortFlow). All P t) (sym is.each) all) e in
    let place = found.0.0 in
    let at : place.at ≡ q = sym (ap (λ (y : PortFlow). y.at) found.0.2) ∙ same-port x.at q found.1 in
    let low : AreOnce s flows place.at =
    λ r there less. once-below s given laws flows is m r there (omega (arith, less, lt, ap (λ (t : EgressPort). level_at s.tree t) at)) in
    let once = port-once s given laws flows place found.0.1 low in
    subst (λ (t : EgressPort). IsOnce s.tree.links s.frames t x) at (subst (λ (y : PortFlow). IsOnce s.tree.links s.frames place.at y) (sym found.0.2) once)

-- at each port no number stands twice
pub once-each : (s : Setting) → IsSetting s → HasPortLaws s.tree → (flows : List PortFlow) → IsFlow s flows → (place : Place) → HasPort s.tree place.at
    → IsOnce s.tree.links s.frames place.at (port_flow s flows place)
once-each s given laws flows is place port =
    port-once s given laws flows place port (λ q there less. once-below s given laws flows is (level_at s.tree place.at) q there less)

pub once-copies : (s : Setting) → IsSetting s → HasPortLaws s.tree → (flows : List PortFlow) → IsFlow s flows → (place : Place) → HasPort s.tree place.at
    → AllPairs DifferCopies (arriving s.tree.links s.frames s.ticks flows place)
once-copies s given laws flows is place port =
    arriving-pairs s given laws flows place port (λ q there less. once-below s given laws flows is (level_at s.tree place.at) q there less)

-- no copy's station lies behind the port
pub side-copies : (s : Setting) → IsSetting s → HasPortLaws s.tree → (flows : List PortFlow) → IsFlow s flows → (place : Place) → HasPort s.tree place.at
    → All (λ c. is_behind s.tree.links place.at c.frame.from.0 ≡ false) (arriving s.tree.links s.frames s.ticks flows place)
side-copies s given laws flows is place port =
    arriving-side s given laws flows place port (λ q there less. once-below s given laws flows is (level_at s.tree place.at) q there less)

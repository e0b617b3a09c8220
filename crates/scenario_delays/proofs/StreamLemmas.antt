-- The streams of a class in a scenario's flow: each frame of the class is one of theirs, and where
-- each conforms they are the streams of the flow.
use Rattle.std.proofs.Common.{◌≡◌, ◌≢◌, ℕ, zero, suc, ◌+◌, ◌-◌, ◌*◌, ◌≤◌, ◌⊎◌, inl, inr, Bool, true, false, List, [], ◌∷◌, map, length, get_or, filter, fold, min, Option, Some, None, option_map, refl, sym, ◌∙◌, ap, subst, arith}
use Rattle.std.specs.Prelude.{All, AllPairs, Contains, slice_get, ◌==◌, ◌&&◌}
use Rattle.std.specs.{List.range_with_len, List.AllZip, List.Sorted.IsPermutation}
use Rattle.std.proofs.Math.Nat.{min-le_left, min-le_right}
use Rattle.std.proofs.lemmas.{Bool.cases_Bool, Bool.eqb-true, Bool.eq-eqb, Bool.and_from, Bool.and_parts, Bool.false≢true, List.length-map, List.Elements.All-nil, List.Elements.All-cons, List.Elements.All-head, List.Elements.All-tail, List.Elements.All-append, List.Elements.All-map, List.Elements.All-weaker, List.Elements.All-filter, List.Elements.All-contains, List.Elements.All-contains_itself, List.Elements.Contains-get_or, List.Elements.filter_passes, List.Sorted.IsPermutation-refl}
use Rattle.srp_base.specs.declared.{numbers.NodeNo.NodeNo, bandwidth.Class.Class, bandwidth.Class.TheVariants.A, bandwidth.Class.TheVariants.B, ports.PortChange.PortChange}
use Rattle.credit_shaper.proofs.PairLemmas.{pairs-head, pairs-tail}
use Rattle.credit_shaper.specs.declared.shaper.Traffic.{Traffic}
use Rattle.credit_shaper.specs.Credit.{traffic_number}
use Rattle.tree_topology.specs.Topology.{Topology, HasNode}
use Rattle.frame_flow.specs.declared.{frame.Frame.Frame, frame.Route.Route, frame.Route.TheVariants.Stream, frame.Route.TheVariants.To}
use Rattle.frame_flow.specs.Flow.{traffic_of}
use Rattle.msrp_talker.specs.TalkerOut.{class_of_priority}
use Rattle.topology_file.specs.declared.{entries.NodeEntry.NodeEntry, entries.StreamEntry.StreamEntry, entries.FrameEntry.FrameEntry, entries.FrameRoute.FrameRoute}
use Rattle.topology_file.specs.declared.entries.FrameRoute.TheVariants as routes
use Rattle.topology_file.specs.{Kinds.IsStationNumber, Plan.Plan, Scenario.KeepsRules}
use Rattle.scenario_frames.specs.{PlanFrames.traffic_of_class, PlanFrames.traffic_of_priority, PlanFrames.stream_way, PlanFrames.way_of, PlanFrames.copy_of, PlanFrames.copies_of, PlanFrames.frames_from, PlanFrames.plan_frames, Setting.setting_of}
use Rattle.delay_bound.specs.{Bounds.second, Frames.DoConform, Windows.IsBoundBy}
use Rattle.delay_bound.specs.declared.{stream.ClassStream.ClassStream, stream.SentFrame.SentFrame}
use Rattle.delay_flow.specs.{Streams.is_in_class, Streams.is_route_of, Streams.is_frame_of, Streams.IsSentBy, Streams.AreStreams, Ways.sent_frame, Ways.ConformInOrder}
use Rattle.delay_flow.proofs.Sums.{contains-filter, contains-map}
use Rattle.scenario_delays.specs.declared.answers.StreamAnswer.{StreamAnswer}
use Rattle.scenario_delays.specs.{Answers.is_reserved_entry, Answers.IsAnswer, Answers.AreAnswers, Answers.AllConform, Conform.IsConformity, Streams.is_class, Streams.is_of_class, Streams.traffic_in, Streams.limits_of, Streams.frames_of_stream, Streams.least_bits, Streams.stream_in, Streams.streams_in}

-- ---- frames and the entries that they come of

-- a frame goes as one of a stream of the file, from its Talker
record IsOfStream (streams : List StreamEntry) (f : Frame) : Type 0 where
  entry : StreamEntry
  has : Contains streams entry
  route : f.route ≡ Stream entry.id (traffic_of_priority entry.priority)
  from : f.from.0 ≡ entry.talker.0

-- or it goes to a station
abbrev IsKnown : List StreamEntry → Frame → Type 0
IsKnown streams f = IsOfStream streams f ⊎ ((station : NodeNo) × (f.route ≡ To station))

contains-get : {X : Type 0} (xs : List X) (i : ℕ) (x : X) → slice_get xs i ≡ Some x → Contains xs x
contains-get [] i x e = absurd (let no : None ≡ Some x = e in cc)
contains-get (y ∷ ys) zero x e = let same : y ≡ x = cc in (zero, omega arith, same)
contains-get (y ∷ ys) (suc i) x e = let h = contains-get ys i x e in (suc h.0, omega (arith, h.1), h.2)

copies-known : (streams : List StreamEntry) (e : FrameEntry) (first : ℕ) (o : Option StreamEntry) → ((s : StreamEntry) → o ≡ Some s → Contains streams s)
    → All (IsKnown streams) (copies_of e (option_map stream_way o) first)
copies-known streams e first None has = All-nil (IsKnown streams)
copies-known streams e first (Some s) has =
    All-map (IsKnown streams) (copy_of e (stream_way s) first) (range_with_len 0 e.count)
    (λ k d below. inl (record { entry = s; has = has s refl; route = refl; from = refl }))

known-copies : (streams : List StreamEntry) (e : FrameEntry) (first : ℕ) (route : FrameRoute) → All (IsKnown streams) (copies_of e (way_of streams route) first)
known-copies streams e first (routes.OfStream stream) =
    copies-known streams e first (slice_get streams (stream - 1)) (λ s is. contains-get streams (stream - 1) s is)
known-copies streams e first (routes.Between start to vid) =
    All-map (IsKnown streams) (copy_of e (record { from = start; route = To to; vid = vid }) first) (range_with_len 0 e.count) (λ k d below. inr (to, refl))

known-from : (streams : List StreamEntry) (first : ℕ) (es : List FrameEntry) → All (IsKnown streams) (frames_from streams first es)
known-from streams first [] = All-nil (IsKnown streams)
known-from streams first (e ∷ es) =
    All-append (IsKnown streams) (copies_of e (way_of streams e.route) first) (frames_from streams (first + e.count) es)
    (known-copies streams e first e.route)
    (known-from streams (first + e.count) es)

-- ---- streams by their classes and StreamIDs

class-traffic : (class : Class) (o : Option Class) → (traffic_number (traffic_of_class o) == traffic_number (traffic_in class)) ≡ is_class class o
class-traffic A None = refl
class-traffic A (Some A) = refl
class-traffic A (Some B) = refl
class-traffic B None = refl
class-traffic B (Some A) = refl
class-traffic B (Some B) = refl

class-one : (class other : Class) → is_class class (Some other) ≡ true → other ≡ class
class-one A A is = refl
class-one A B is = absurd (false≢true is)
class-one B A is = absurd (false≢true is)
class-one B B is = refl

to-aside : (class : Class) (station : NodeNo) → (traffic_number (traffic_of (To station)) == traffic_number (traffic_in class)) ≡ false
to-aside A station = refl
to-aside B station = refl

reserved-of : (class : Class) (e : StreamEntry) → is_of_class class e ≡ true → is_reserved_entry e ≡ true
reserved-of A e is = grind (arith, is)
reserved-of B e is = grind (arith, is)

-- streams of one StreamID are one
one-entry : (xs : List StreamEntry) → AllPairs (λ x y. x.id.0 ≢ y.id.0) xs → (a b : StreamEntry) → Contains xs a → Contains xs b → a.id.0 ≡ b.id.0 → a ≡ b
one-entry [] apart a b (k, below, same) has id = absurd (omega (arith, below))
one-entry (x ∷ xs) apart a b (zero, below, same) (zero, few, one) id = sym same ∙ one
one-entry (x ∷ xs) apart a b (zero, below, same) (suc j, few, one) id =
    let R : StreamEntry → Type 0 = λ y. x.id.0 ≢ y.id.0 in
    absurd (All-contains R xs b (pairs-head (λ y z. y.id.0 ≢ z.id.0) x xs apart) (j, omega (arith, few), one) (ap (λ (e : StreamEntry). e.id.0) same ∙ id))
one-entry (x ∷ xs) apart a b (suc i, below, same) (zero, few, one) id =
    let R : StreamEntry → Type 0 = λ y. x.id.0 ≢ y.id.0 in
    absurd (All-contains R xs a (pairs-head (λ y z. y.id.0 ≢ z.id.0) x xs apart) (i, omega (arith, below), same) (ap (λ (e : StreamEntry). e.id.0) one ∙ sym id))
one-entry (x ∷ xs) apart a b (suc i, below, same) (suc j, few, one) id =
    one-entry xs (pairs-tail (λ y z. y.id.0 ≢ z.id.0) x xs apart) a b (i, omega (arith, below), same) (j, omega (arith, few), one) id

-- a stream of the file, of a class
record IsClassEntry (plan : Plan) (class : Class) (e : StreamEntry) : Type 0 where
  has : Contains plan.streams e
  of : is_of_class class e ≡ true

class-entries : (plan : Plan) (class : Class) → All (IsClassEntry plan class) (filter (is_of_class class) plan.streams)
class-entries plan class i d below = record {
  has = All-filter (is_of_class class) (Contains plan.streams) plan.streams (All-contains_itself plan.streams) i d below;
  of = filter_passes (is_of_class class) plan.streams i d below;
}

-- a frame that goes as one of a stream of a class is of the class, and of that stream
route-class : (plan : Plan) (class : Class) (e : StreamEntry) → KeepsRules plan → IsClassEntry plan class e → (f : Frame) (s : IsOfStream plan.streams f)
    → is_route_of e.id f.route ≡ true → (s.entry ≡ e) × (is_in_class (traffic_in class) f ≡ true)
route-class plan class e kept is f s same =
    let id : s.entry.id.0 ≡ e.id.0 = eqb-true s.entry.id.0 e.id.0 (sym (ap (is_route_of e.id) s.route) ∙ same) in
    let one = one-entry plan.streams kept.stream_ids s.entry e s.has is.has id in
    let number : Route → Bool = λ r. traffic_number (traffic_of r) == traffic_number (traffic_in class) in (
      one,
      ap number s.route ∙ ap (λ (x : StreamEntry). traffic_number (traffic_of_priority x.priority) == traffic_number (traffic_in class)) one
          ∙ class-traffic class (class_of_priority e.priority) ∙ is.of,
    )

same-test : (plan : Plan) (class : Class) (e : StreamEntry) → KeepsRules plan → IsClassEntry plan class e → (f : Frame) → IsKnown plan.streams f
    → is_route_of e.id f.route ≡ (is_in_class (traffic_in class) f && is_route_of e.id f.route)
same-test plan class e kept is f (inl s) =
    elim (cases_Bool (is_route_of e.id f.route)) [
      | inl same ↦ (let h = route-class plan class e kept is f s same in grind (arith, same, h.1))
      | inr nay ↦ grind (arith, nay)
    ]
same-test plan class e kept is f (inr (station, route)) =
    let no : is_route_of e.id f.route ≡ false = ap (is_route_of e.id) route in
    grind (arith, no)

filter-same : {X : Type 0} (p q : X → Bool) (xs : List X) → All (λ x. p x ≡ q x) xs → filter p xs ≡ filter q xs
filter-same p q [] all = refl
filter-same p q (x ∷ xs) all = grind (arith, All-head (λ y. p y ≡ q y) x xs all, filter-same p q xs (All-tail (λ y. p y ≡ q y) x xs all))

frames-same : (plan : Plan) (class : Class) (e : StreamEntry) → KeepsRules plan → IsClassEntry plan class e
    → frames_of_stream e.id (plan_frames plan) ≡ filter (is_frame_of (traffic_in class) (stream_in class (plan_frames plan) e)) (plan_frames plan)
frames-same plan class e kept is =
    filter-same (λ f. is_route_of e.id f.route) (is_frame_of (traffic_in class) (stream_in class (plan_frames plan) e)) (plan_frames plan)
    (All-weaker (IsKnown plan.streams) (λ f. is_route_of e.id f.route ≡ (is_in_class (traffic_in class) f && is_route_of e.id f.route))
    (λ f known. same-test plan class e kept is f known) (plan_frames plan) (known-from plan.streams 1 plan.frames))

-- ---- the least frame

fold-least : (a : ℕ) (ns : List ℕ) → fold min a ns ≤ a
fold-least a [] = omega arith
fold-least a (n ∷ ns) = omega (arith, fold-least (min a n) ns, min-le_left a n)

fold-each : (a : ℕ) (fs : List Frame) (f : Frame) → Contains fs f → fold min a (map (λ g. g.bits) fs) ≤ f.bits
fold-each a [] f (k, below, same) = absurd (omega (arith, below))
fold-each a (g ∷ fs) f (zero, below, same) =
    let bits : g.bits ≡ f.bits = ap (λ (h : Frame). h.bits) same in
    omega (arith, bits, fold-least (min a g.bits) (map (λ h. h.bits) fs), min-le_right a g.bits)
fold-each a (g ∷ fs) f (suc k, below, same) = fold-each (min a g.bits) fs f (k, omega (arith, below), same)

least-each : (most : ℕ) (fs : List Frame) (f : Frame) → Contains fs f → least_bits most fs ≤ f.bits
least-each most [] f (k, below, same) = absurd (omega (arith, below))
least-each most (g ∷ fs) f (zero, below, same) =
    let bits : g.bits ≡ f.bits = ap (λ (h : Frame). h.bits) same in
    omega (arith, bits, fold-least g.bits (map (λ h. h.bits) fs))
least-each most (g ∷ fs) f (suc k, below, same) = fold-each g.bits fs f (k, omega (arith, below), same)

-- ---- what the answers say

answer-of : {X Y : Type 0} (R : X → Y → Type 0) (xs : List X) (ys : List Y) (x : X) → AllZip R xs ys → Contains xs x → (y : Y) × Contains ys y × R x y
answer-of R [] ys x all (k, below, same) = absurd (omega (arith, below))
answer-of R (z ∷ xs) [] x all has = absurd all
answer-of R (z ∷ xs) (y ∷ ys) x all (zero, below, same) = (y, (zero, omega arith, refl), subst (λ t. R t y) same all.0)
answer-of R (z ∷ xs) (y ∷ ys) x all (suc k, below, same) =
    let h = answer-of R xs ys x all.1 (k, omega (arith, below), same) in
    (h.0, (suc h.1.0, omega (arith, h.1.1), h.1.2), h.2)

-- where it isn't said that frames don't conform they do, in some order
conforms-so : (x : ClassStream) (fs : List Frame) (o : Option Bool) → IsConformity x.limits fs o → o ≢ Some false
    → (sent : List SentFrame) × IsPermutation (map sent_frame fs) sent × DoConform x.limits sent
conforms-so x fs None none said =
    ([], subst (λ (gs : List Frame). IsPermutation (map sent_frame gs) []) (sym none) (IsPermutation-refl []), record { sizes = All-nil _; pairs = tt })
conforms-so x fs (Some true) is said = (is.1.0, is.1.1.same, is.1.2.0 refl)
conforms-so x fs (Some false) is said = absurd (said refl)

-- ---- the streams of the flow

station-node : (plan : Plan) (x : ℕ) → KeepsRules plan → IsStationNumber plan.nodes x → HasNode plan.tree x
station-node plan x kept station =
    let kinds : length plan.tree.kinds ≡ length plan.nodes =
    ap (λ (t : Topology). length t.kinds) kept.tree ∙ length-map plan.nodes (λ (n : NodeEntry). n.kind) in
    (station.0.0, omega (arith, station.0.1, kinds))

sent-by : (plan : Plan) (class : Class) (e : StreamEntry) → KeepsRules plan → IsClassEntry plan class e → (f : Frame) → IsKnown plan.streams f → is_route_of e.id f.route ≡ true
    → f.from.0 ≡ e.talker.0
sent-by plan class e kept is f (inl s) same = s.from ∙ ap (λ (x : StreamEntry). x.talker.0) (route-class plan class e kept is f s same).0
sent-by plan class e kept is f (inr (station, route)) same = absurd (false≢true (sym (ap (is_route_of e.id) route) ∙ same))

-- their Talkers are nodes of the tree
pub talkers-are : (plan : Plan) (class : Class) → KeepsRules plan → All (λ x. HasNode plan.tree x.talker.0) (streams_in class plan)
talkers-are plan class kept =
    let entries = filter (is_of_class class) plan.streams in
    All-map (λ x. HasNode plan.tree x.talker.0) (stream_in class (plan_frames plan)) entries (λ k d below.
    let e = get_or entries k d in
    station-node plan e.talker.0 kept (All-contains (λ s. IsStationNumber plan.nodes s.talker.0) plan.streams e kept.talkers (class-entries plan class k d below).has))

-- a frame that goes as one of a stream of a class is of the class
pub of-stream : (plan : Plan) (class : Class) → KeepsRules plan → (x : ClassStream) → Contains (streams_in class plan) x → (f : Frame) → Contains (plan_frames plan) f
    → is_route_of x.id f.route ≡ true → is_frame_of (traffic_in class) x f ≡ true
of-stream plan class kept x has f there route =
    let frames = plan_frames plan in
    let entries = filter (is_of_class class) plan.streams in
    let S : ClassStream → Type 0 = λ y. is_route_of y.id f.route ≡ true → is_frame_of (traffic_in class) y f ≡ true in
    let known = All-contains (IsKnown plan.streams) frames f (known-from plan.streams 1 plan.frames) there in
    let all : All S (streams_in class plan) = All-map S (stream_in class frames) entries
    (λ k d below same. sym (same-test plan class (get_or entries k d) kept (class-entries plan class k d below) f known) ∙ same) in
    All-contains S (streams_in class plan) x all has route

-- what each stream of a class gives of them
record IsGiven (plan : Plan) (changes : List PortChange) (class : Class) (x : ClassStream) : Type 0 where
  sent : List SentFrame
  conform : ConformInOrder (setting_of plan changes) (traffic_in class) x sent
  least : All (λ f. is_frame_of (traffic_in class) x f ≡ true → (f.from.0 ≡ x.talker.0) × (x.least ≤ f.bits)) (plan_frames plan)

given-of : (plan : Plan) (changes : List PortChange) (answers : List StreamAnswer) (class : Class) → KeepsRules plan → AreAnswers plan answers → AllConform class answers
    → (e : StreamEntry) → IsClassEntry plan class e → IsGiven plan changes class (stream_in class (plan_frames plan) e)
given-of plan changes answers class kept are conform e is =
    let frames = plan_frames plan in
    let traffic = traffic_in class in
    let x = stream_in class frames e in
    let same = frames-same plan class e kept is in
    let C : StreamAnswer → Type 0 = λ b. b.class ≡ class → b.conforms ≢ Some false in
    let a = answer-of (IsAnswer frames) (filter is_reserved_entry plan.streams) answers e are
    (contains-filter is_reserved_entry plan.streams e is.has (reserved-of class e is.of)) in
    let own : a.0.class ≡ class = class-one class a.0.class (ap (is_class class) (sym a.2.class) ∙ is.of) in
    let said = All-contains C answers a.0 conform a.1 own in
    let conformity = subst (λ (k : Class). IsConformity (limits_of k e) (frames_of_stream e.id frames) a.0.conforms) own a.2.conforms in
    let h = conforms-so x (frames_of_stream e.id frames) a.0.conforms conformity said in
    record {
      sent = h.0;
      conform = (subst (λ (fs : List Frame). IsPermutation (map sent_frame fs) h.0) same h.1, h.2);
      least = All-weaker (λ f. IsKnown plan.streams f × Contains frames f) (λ f. is_frame_of traffic x f ≡ true → (f.from.0 ≡ x.talker.0) × (x.least ≤ f.bits))
          (λ f known frame.
          let route = (and_parts (is_in_class traffic f) (is_route_of e.id f.route) frame).1 in
          let own = contains-filter (λ g. is_route_of e.id g.route) frames f known.1 route in
          (sent-by plan class e kept is f known.0 route, least-each x.limits.most (frames_of_stream e.id frames) f own))
          frames (λ i d below. (known-from plan.streams 1 plan.frames i d below, All-contains_itself frames i d below));
    }

-- a frame of a class is one of a stream of it
known-stream : (plan : Plan) (class : Class) (f : Frame) → IsKnown plan.streams f → is_in_class (traffic_in class) f ≡ true
    → (x : ClassStream) × Contains (streams_in class plan) x × (is_frame_of (traffic_in class) x f ≡ true)
known-stream plan class f (inr (station, route)) in_class =
    let number : Route → Bool = λ r. traffic_number (traffic_of r) == traffic_number (traffic_in class) in
    absurd (false≢true (sym (ap number route ∙ to-aside class station) ∙ in_class))
known-stream plan class f (inl s) in_class =
    let e = s.entry in
    let stream = stream_in class (plan_frames plan) in
    let number : Route → Bool = λ r. traffic_number (traffic_of r) == traffic_number (traffic_in class) in
    let of : is_of_class class e ≡ true = sym (class-traffic class (class_of_priority e.priority)) ∙ (sym (ap number s.route) ∙ in_class) in
    let id : is_route_of e.id f.route ≡ true = ap (is_route_of e.id) s.route ∙ eq-eqb e.id.0 e.id.0 refl in (
      stream e,
      contains-map stream (filter (is_of_class class) plan.streams) e (contains-filter (is_of_class class) plan.streams e s.has of),
      and_from (is_in_class (traffic_in class) f) (is_route_of e.id f.route) in_class id,
    )

pub are-streams : (plan : Plan) (changes : List PortChange) (answers : List StreamAnswer) (class : Class) → KeepsRules plan → AreAnswers plan answers → AllConform class answers
    → ((traffic : Traffic) (x : ClassStream) (xs : List SentFrame) → ConformInOrder (setting_of plan changes) traffic x xs
    → IsBoundBy (λ f. f.bits) (λ f. Some f.at.0) (x.limits.burst * second) x.limits.slope (filter (is_frame_of traffic x) (plan_frames plan)))
    → ((traffic : Traffic) (x : ClassStream) (xs : List SentFrame) → ConformInOrder (setting_of plan changes) traffic x xs
    → All (λ f. f.bits ≤ x.limits.most) (filter (is_frame_of traffic x) (plan_frames plan)))
    → AreStreams (setting_of plan changes) (traffic_in class) (streams_in class plan)
are-streams plan changes answers class kept are conform windows sizes =
    let frames = plan_frames plan in
    let traffic = traffic_in class in
    let stream = stream_in class frames in
    let entries = filter (is_of_class class) plan.streams in
    let G : ClassStream → Type 0 = λ x. IsGiven plan changes class x in
    let given : All G (streams_in class plan) =
    All-map G stream entries (λ k d below. given-of plan changes answers class kept are conform (get_or entries k d) (class-entries plan class k d below)) in
    let Theirs : Frame → Type 0 = λ f. is_in_class traffic f ≡ true → (x : ClassStream) × Contains (streams_in class plan) x × (is_frame_of traffic x f ≡ true) in
    let over : (P : ClassStream → Type 0) → ((x : ClassStream) → G x → P x) → All P (streams_in class plan) = λ P each. All-weaker G P each (streams_in class plan) given in
    record {
      known = All-weaker (IsKnown plan.streams) Theirs (λ f known in_class. known-stream plan class f known in_class) frames (known-from plan.streams 1 plan.frames);
      talkers = talkers-are plan class kept;
      sent = over (λ x. All (λ f. is_frame_of traffic x f ≡ true → IsSentBy x f) frames) (λ x g. λ i d below frame.
          let f = get_or frames i d in
          let h = g.least i d below frame in
          let has = contains-filter (is_frame_of traffic x) frames f (Contains-get_or frames i d below) frame in
          record {
            from = h.0;
            least = h.1;
            most = All-contains (λ h. h.bits ≤ x.limits.most) (filter (is_frame_of traffic x) frames) f (sizes traffic x g.sent g.conform) has;
          });
      conform = over (λ x. IsBoundBy (λ f. f.bits) (λ f. Some f.at.0) (x.limits.burst * second) x.limits.slope (filter (is_frame_of traffic x) frames))
          (λ x g. windows traffic x g.sent g.conform);
    }

-- ---- the Talkers of what answers are of

zip-all : {X Y : Type 0} (R : X → Y → Type 0) (P : X → Type 0) (Q : Y → Type 0) → ((x : X) (y : Y) → R x y → P x → Q y) → (xs : List X) (ys : List Y) → AllZip R xs ys → All P xs → All Q ys
zip-all R P Q f [] [] zip all = All-nil Q
zip-all R P Q f [] (y ∷ ys) zip all = absurd zip
zip-all R P Q f (x ∷ xs) [] zip all = All-nil Q
zip-all R P Q f (x ∷ xs) (y ∷ ys) zip all =
    All-cons Q y ys (f x y zip.0 (All-head P x xs all)) (zip-all R P Q f xs ys zip.1 (All-tail P x xs all))

-- so are those of the streams that answers are of
pub answers-talkers : (plan : Plan) (answers : List StreamAnswer) → KeepsRules plan → AreAnswers plan answers → All (λ a. HasNode plan.tree a.stream.talker.0) answers
answers-talkers plan answers kept are =
    let stations : StreamEntry → Type 0 = λ e. IsStationNumber plan.nodes e.talker.0 in
    zip-all (IsAnswer (plan_frames plan)) stations (λ a. HasNode plan.tree a.stream.talker.0)
    (λ e a is station. subst (λ (x : ClassStream). HasNode plan.tree x.talker.0) (sym is.stream) (station-node plan e.talker.0 kept station))
    (filter is_reserved_entry plan.streams) answers are (All-filter is_reserved_entry stations plan.streams kept.talkers)

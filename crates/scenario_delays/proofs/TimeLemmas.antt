-- How long frames take in a run that keeps a class's bounds.
use Rattle.std.proofs.Common.{◌≡◌, ℕ, ◌+◌, ◌≤◌, inl, inr, true, List, Option, Some, None, refl, sym, ◌∙◌, ap, subst, arith}
use Rattle.std.specs.Prelude.{All, Contains, ◌==◌}
use Rattle.std.proofs.lemmas.{Bool.eqb-true, List.Elements.All-weaker, List.Elements.All-contains, List.Elements.All-contains_itself, List.Elements.All-filter, List.Elements.filter_passes}
use Rattle.srp_base.specs.declared.{bandwidth.Class.Class, bandwidth.Class.TheVariants.A, bandwidth.Class.TheVariants.B, numbers.EgressPort.EgressPort, ports.PortChange.PortChange}
use Rattle.credit_shaper.specs.declared.shaper.Traffic.{Traffic}
use Rattle.tree_topology.specs.Topology.{HasNode, HasPort, IsSound}
use Rattle.frame_flow.specs.declared.{frame.Frame.Frame, frame.FrameCopy.FrameCopy, place.Place.Place, result.PortFlow.PortFlow}
use Rattle.frame_flow.specs.declared.result.Fate.TheVariants.{Departed, Unbooked}
use Rattle.frame_flow.specs.{Copies.all_places, Copies.arriving, Copies.flow_at, Copies.frame_of, Flow.Setting, Flow.port_flow, Force.is_port, Given.IsSetting, Moments.moment_of, Origins.HasSource, Origins.IsFlowOf, Origins.IsOfCopy}
use Rattle.frame_flow.proofs.CopyLemmas.{All-find}
use Rattle.frame_flow.proofs.LevelLemmas.{same-port}
use Rattle.topology_file.specs.{Plan.Plan, Scenario.KeepsRules}
use Rattle.scenario_frames.specs.{PlanFrames.plan_frames, Setting.setting_of}
use Rattle.delay_bound.specs.declared.{bound.Bound.Bound, stream.ClassStream.ClassStream}
use Rattle.delay_flow.specs.{Delays.AreBookedAt, Delays.GoesInTime, Delays.HoldsAt, Places.place_at, Places.copies_at, Places.may_go, Places.sendable_at, Places.flow_there, Rules.Numbers, Rules.IsBefore, Rules.IsFurther, Rules.KeepRules, Rules.KeepRulesAt, Streams.is_frame_of, Streams.is_route_of, Ways.is_fed}
use Rattle.delay_flow.proofs.Places.{HasRates, listed-is, one-frame}
use Rattle.delay_flow.proofs.Sums.{contains-filter, contains-map}
use Rattle.class_delays.specs.declared.{delays.FedStream.FedStream, delays.PortDelays.PortDelays, delays.Unbounded.Unbounded}
use Rattle.class_delays.specs.declared.delays.Unbounded.TheVariants as causes
use Rattle.class_delays.specs.{Causes.IsUnbounded, Given.ClassSetting, Given.class_traffic, Given.without_frames, Table.delays_at, Table.is_same, Table.rate_at, Table.stream_in, Table.spent_in, Table.numbers_of, Table.fed_streams, Table.ListsFed}
use Rattle.class_delays.proofs.Finds.{same-stream}
use Rattle.scenario_delays.specs.declared.{facts.ClassBounds.ClassBounds, facts.DelayFacts.DelayFacts}
use Rattle.scenario_delays.specs.declared.facts.ClassBounds.TheVariants.{Reckoned, Unbounded as HasNone}
use Rattle.scenario_delays.specs.{Facts.AreBounds, Facts.AreFacts, Facts.AreReckonedFor, Facts.bounds_of, Facts.class_setting, Streams.streams_in, Streams.traffic_in}
use Rattle.scenario_delays.proofs.StreamLemmas.{of-stream, talkers-are}

-- ---- rules say nothing of frames

-- the setting without its frames
abbrev bare : Setting → Setting
bare s = without_frames s.tree s.rates s.changes s.ticks

before-bare : (s : Setting) (p r : EgressPort) → IsBefore s p r → IsBefore (bare s) p r
before-bare s p r h = record { port = h.port; node = h.node; other = h.other }

further-over : (s : Setting) (traffic : Traffic) (streams : List ClassStream) (n : Numbers) (p r : EgressPort) (b : Bound) → IsFurther (bare s) traffic streams n p r b
    → IsFurther s traffic streams n p r b
further-over s traffic streams n p r b h = record { most = h.most; longest = h.longest; bound = h.bound }

rules-at : (s : Setting) (traffic : Traffic) (streams : List ClassStream) (n : Numbers) (p : EgressPort) → KeepRulesAt (bare s) traffic streams n p → KeepRulesAt s traffic streams n p
rules-at s traffic streams n p h = record {
  fed_first = h.fed_first;
  fed_on = λ r x other. h.fed_on r x (before-bare s p r other);
  late_first = h.late_first;
  late_on = λ r x other. h.late_on r x (before-bare s p r other);
  more = λ r other. All-weaker (IsFurther (bare s) traffic streams n p r) (IsFurther s traffic streams n p r) (λ b is. further-over s traffic streams n p r b is) (n.more p r)
      (h.more r (before-bare s p r other));
  slope = h.slope;
  peak = h.peak;
  wait = h.wait;
  spent_first = h.spent_first;
  spent_on = λ r x other. h.spent_on r x (before-bare s p r other);
}

rules-over : (s : Setting) (traffic : Traffic) (streams : List ClassStream) (n : Numbers) → KeepRules (bare s) traffic streams n → KeepRules s traffic streams n
rules-over s traffic streams n h = record { rates = h.rates; at = λ p port. rules-at s traffic streams n p (h.at p port) }

-- ---- what is reckoned

traffic-same : (class : Class) → class_traffic class ≡ traffic_in class
traffic-same A = refl
traffic-same B = refl

bounds-are : (plan : Plan) (changes : List PortChange) (facts : DelayFacts) (class : Class) → AreFacts plan changes facts → AreBounds (class_setting plan changes class) (bounds_of class facts)
bounds-are plan changes facts A are = are.class_a
bounds-are plan changes facts B are = are.class_b

pub reckoned-for : (plan : Plan) (changes : List PortChange) (facts : DelayFacts) (class : Class) (ports : List PortDelays) → AreFacts plan changes facts → bounds_of class facts ≡ Reckoned ports
    → AreReckonedFor (class_setting plan changes class) ports
reckoned-for plan changes facts class ports are is =
    subst (λ (b : ClassBounds). AreBounds (class_setting plan changes class) b) is (bounds-are plan changes facts class are)

-- where no cause but want of memory may stand it is there
reckoned-so : (a : ClassSetting) (b : ClassBounds) → AreBounds a b → ((e : Unbounded) → IsUnbounded a e → e ≡ causes.NoMemory) → (ports : List PortDelays) × (b ≡ Reckoned ports)
reckoned-so a (Reckoned ports) are none = (ports, refl)
reckoned-so a (HasNone at) (inl steep) none = absurd (let no : causes.Steep at ≡ causes.NoMemory = none (causes.Steep at) steep in cc)
reckoned-so a (HasNone at) (inr large) none = absurd (let no : causes.Large at ≡ causes.NoMemory = none (causes.Large at) large in cc)

pub bounds-there : (plan : Plan) (changes : List PortChange) (facts : DelayFacts) (class : Class) → AreFacts plan changes facts
    → ((e : Unbounded) → IsUnbounded (class_setting plan changes class) e → e ≡ causes.NoMemory) → (ports : List PortDelays) × (bounds_of class facts ≡ Reckoned ports)
bounds-there plan changes facts class are none = reckoned-so (class_setting plan changes class) (bounds_of class facts) (bounds-are plan changes facts class are) none

pub rules-are : (plan : Plan) (changes : List PortChange) (class : Class) (ports : List PortDelays) → AreReckonedFor (class_setting plan changes class) ports
    → KeepRules (setting_of plan changes) (traffic_in class) (streams_in class plan) (numbers_of (class_setting plan changes class) ports)
rules-are plan changes class ports reckoned =
    let n = numbers_of (class_setting plan changes class) ports in
    rules-over (setting_of plan changes) (traffic_in class) (streams_in class plan) n
    (subst (λ (t : Traffic). KeepRules (bare (setting_of plan changes)) t (streams_in class plan) n) (traffic-same class) reckoned.rules)

-- a stream that is found at a port is one of the class's that is fed there
fed-in : (a : ClassSetting) (p : EgressPort) (x : ClassStream) (fed : FedStream) (o : Option PortDelays) → ((e : PortDelays) → o ≡ Some e → (e.at ≡ p) × ListsFed a e)
    → stream_in x o ≡ Some fed → Contains (fed_streams a p) x
fed-in a p x fed None there is = absurd (let no : None ≡ Some fed = is in cc)
fed-in a p x fed (Some e) there is =
    let h = there e refl in
    let f = All-find (Contains e.fed) (λ g. is_same g.stream x) e.fed fed (All-contains_itself e.fed) is in
    let one = same-stream fed.stream x f.1 in
    let listed = subst (λ (xs : List ClassStream). Contains xs fed.stream) h.1 (contains-map (λ (g : FedStream). g.stream) e.fed fed f.0) in
    subst (λ (y : ClassStream). Contains (fed_streams a p) y) one (subst (λ (q : EgressPort). Contains (fed_streams a q) fed.stream) h.0 listed)

pub is-fed : (a : ClassSetting) (ports : List PortDelays) (p : EgressPort) (x : ClassStream) (fed : FedStream) → AreReckonedFor a ports → stream_in x (delays_at ports p) ≡ Some fed
    → Contains a.streams x × (is_fed a.setting p x ≡ true)
is-fed a ports p x fed reckoned is =
    let test = is_fed a.setting p in
    let has = fed-in a p x fed (delays_at ports p)
    (λ e at.
    let h = All-find (ListsFed a) (λ d. is_port d.at p) ports e reckoned.fed at in
    (same-port e.at p h.1, h.0)) is in (
      All-contains (Contains a.streams) (fed_streams a p) x (All-filter test (Contains a.streams) a.streams (All-contains_itself a.streams)) has,
      All-contains (λ (y : ClassStream). test y ≡ true) (fed_streams a p) x (filter_passes test a.streams) has,
    )

pub sound-tree : (plan : Plan) → KeepsRules plan → IsSound plan.tree
sound-tree plan kept = subst IsSound (sym kept.tree) kept.accepted

pub talker-node : (plan : Plan) (class : Class) → KeepsRules plan → (x : ClassStream) → Contains (streams_in class plan) x → HasNode plan.tree x.talker.0
talker-node plan class kept x has = All-contains (λ (y : ClassStream). HasNode plan.tree y.talker.0) (streams_in class plan) x (talkers-are plan class kept) has

-- ---- each frame

-- a copy that departed had arrived at the port, and its frame is the one of its number
record IsCarried (s : Setting) (flows : List PortFlow) (n : Numbers) (p : EgressPort) (f : Frame) (start end : ℕ) : Type 0 where
  copy : FrameCopy
  there : Contains (sendable_at s flows n.rate p) copy
  frame : copy.frame ≡ f
  fate : Contains (flow_there s flows n.rate p).fates (copy.frame.number, Departed start end)

-- the laws of a flow at a port
pub record HasFlowLaws (s : Setting) (flows : List PortFlow) (p : EgressPort) : Type 0 where
  pub place : (x : PortFlow) → flow_at flows p ≡ Some x → IsFlowOf s flows p x
  pub carried : (place : Place) (number start end : ℕ) → Contains (all_places s.tree.links s.rates) place → Contains (port_flow s flows place).fates (number, Departed start end)
      → IsOfCopy s flows place number start end
  pub source : (place : Place) → HasPort s.tree place.at → All (HasSource s flows place) (arriving s.tree.links s.frames s.ticks flows place)

flow-is : (s : Setting) (flows : List PortFlow) (traffic : Traffic) (streams : List ClassStream) (n : Numbers) (p : EgressPort) → KeepRules s traffic streams n → (x : PortFlow)
    → IsFlowOf s flows p x → (x ≡ flow_there s flows n.rate p) × Contains (all_places s.tree.links s.rates) (place_at n.rate p)
flow-is s flows traffic streams n p rules x is =
    let one = listed-is s n.rate rules.rates is.place p is.listed is.at in
    (is.flow ∙ ap (λ (t : Place). port_flow s flows t) one, subst (λ (t : Place). Contains (all_places s.tree.links s.rates) t) one is.listed)

is-carried : (s : Setting) (flows : List PortFlow) (n : Numbers) (p : EgressPort) → IsSetting s → HasPort s.tree p → HasFlowLaws s flows p
    → Contains (all_places s.tree.links s.rates) (place_at n.rate p) → (f : Frame) (number start end : ℕ) → frame_of s.frames number ≡ Some f
    → Contains (flow_there s flows n.rate p).fates (number, Departed start end) → IsCarried s flows n p f start end
is-carried s flows n p given port laws listed f number start end known fate =
    let place = place_at n.rate p in
    let h = laws.carried place number start end listed fate in
    let source = All-contains (HasSource s flows place) (copies_at s flows n.rate p) h.copy (laws.source place port) h.there in
    let own = All-find (Contains s.frames) (λ g. g.number == number) s.frames f (All-contains_itself s.frames) known in
    record {
      copy = h.copy;
      there = contains-filter (may_go s n.rate p) (copies_at s flows n.rate p) h.copy h.there h.sent;
      frame = one-frame s given h.copy.frame f source.frame own.0 (h.numbered ∙ sym (eqb-true f.number number own.1));
      fate = subst (λ (m : ℕ). Contains (flow_there s flows n.rate p).fates (m, Departed start end)) (sym h.numbered) fate;
    }

pub took-no-longer : (plan : Plan) (changes : List PortChange) (class : Class) (ports : List PortDelays) (flows : List PortFlow) (p : EgressPort)
    → (x : ClassStream) (fed : FedStream) (flow : PortFlow) (number start end : ℕ) (f : Frame)
    → KeepsRules plan → IsSetting (setting_of plan changes) → AreReckonedFor (class_setting plan changes class) ports → HasPort plan.tree p
    → HasFlowLaws (setting_of plan changes) flows p
    → HoldsAt (setting_of plan changes) flows (traffic_in class) (streams_in class plan) (numbers_of (class_setting plan changes class) ports) p
    → stream_in x (delays_at ports p) ≡ Some fed → flow_at flows p ≡ Some flow → Contains flow.fates (number, Departed start end)
    → frame_of (plan_frames plan) number ≡ Some f → is_route_of x.id f.route ≡ true
    → moment_of flow.input.rate end ≤ f.at.0 + fed.spent
took-no-longer plan changes class ports flows p x fed flow number start end f kept given reckoned port laws holds found there fate known route =
    let s = setting_of plan changes in
    let a = class_setting plan changes class in
    let n = numbers_of a ports in
    let traffic = traffic_in class in
    let streams = streams_in class plan in
    let is = flow-is s flows traffic streams n p (rules-are plan changes class ports reckoned) flow (laws.place flow there) in
    let carried = is-carried s flows n p given port laws is.1 f number start end known (subst (λ (y : PortFlow). Contains y.fates (number, Departed start end)) is.0 fate) in
    let has = (is-fed a ports p x fed reckoned found).0 in
    let own = All-find (Contains s.frames) (λ g. g.number == number) s.frames f (All-contains_itself s.frames) known in
    let of : is_frame_of traffic x carried.copy.frame ≡ true =
    subst (λ (g : Frame). is_frame_of traffic x g ≡ true) (sym carried.frame) (of-stream plan class kept x has f own.0 route) in
    let T : ClassStream → Type 0 = λ y. All (λ c. is_frame_of traffic y c.frame ≡ true → GoesInTime s flows n p y c) (sendable_at s flows n.rate p) in
    let C : FrameCopy → Type 0 = λ c. is_frame_of traffic x c.frame ≡ true → GoesInTime s flows n p x c in
    let time = All-contains C (sendable_at s flows n.rate p) carried.copy (All-contains T streams x holds.in_time has) carried.there of in
    let within : moment_of (n.rate p) end ≤ carried.copy.frame.at.0 + n.spent p x = time.spent start end carried.fate in
    let at : carried.copy.frame.at.0 ≡ f.at.0 = ap (λ (g : Frame). g.at.0) carried.frame in
    let spent : n.spent p x ≡ fed.spent = ap spent_in found in
    let moment : moment_of flow.input.rate end ≡ moment_of (n.rate p) end = ap (λ (y : PortFlow). moment_of y.input.rate end) is.0 in
    omega (arith, within, at, spent, moment)

pub never-unbooked : (plan : Plan) (changes : List PortChange) (class : Class) (flows : List PortFlow) (p : EgressPort) (x : ClassStream) (flow : PortFlow) (f : Frame) → KeepsRules plan
    → Contains (streams_in class plan) x → HasRates (setting_of plan changes) (rate_at (setting_of plan changes)) → IsFlowOf (setting_of plan changes) flows p flow
    → AreBookedAt (setting_of plan changes) flows (rate_at (setting_of plan changes)) (traffic_in class) p x
    → Contains (plan_frames plan) f → is_route_of x.id f.route ≡ true → Contains flow.fates (f.number, Unbooked) → ⊥
never-unbooked plan changes class flows p x flow f kept has rates is booked known route fate =
    let s = setting_of plan changes in
    let rate = rate_at s in
    let same : flow ≡ flow_there s flows rate p = is.flow ∙ ap (λ (t : Place). port_flow s flows t) (listed-is s rate rates is.place p is.listed is.at) in
    booked.fates f known (of-stream plan class kept x has f known route) (subst (λ (y : PortFlow). Contains y.fates (f.number, Unbooked)) same fate)

-- What is drawn keeps the rules of every scenario.
use Rattle.std.proofs.Common.{◌≡◌, ℕ, Bool, false, List, [], refl, sym, ◌∙◌, subst, arith}
use Rattle.std.proofs.lemmas.List.Sorted.{IsNonDecreasingBy-from_sort}
use Rattle.srp_base.specs.declared.numbers.Cs.{Cs}
use Rattle.tree_topology.specs.declared.graph.Link.{Link}
use Rattle.tree_topology.specs.{Graph.IsNode, Graph.Connected, Graph.IsGraph, Graph.IsTree, Refusal.HasNoLoop, Topology.Topology}
use Rattle.topology_file.specs.declared.{entries.NodeEntry.NodeEntry, entries.LinkEntry.LinkEntry, entries.StreamEntry.StreamEntry, entries.EventEntry.EventEntry, entries.EventKind.TheVariants.Talk, entries.FrameEntry.FrameEntry}
use Rattle.topology_file.specs.{Plan.Plan, Scenario.KeepsRules, Scenario.topology_of}
use Rattle.scenario_generator.specs.{drawn_nodes, drawn_links, drawn_streams, drawn_events, IsSortedByTick, IsDrawn}
use Rattle.scenario_generator.proofs.{DrawLemmas.bridges-between, DrawLemmas.stations-between, DrawLemmas.streams-between, NetworkLemmas.node-count, NetworkLemmas.ids-small, NetworkLemmas.words-drawn, NetworkLemmas.ids-differ, NetworkLemmas.names-formed, NetworkLemmas.names-differ, NetworkLemmas.links-formed, NetworkLemmas.network-accepted, NetworkLemmas.uncrowded, StreamLemmas.streams-counted, StreamLemmas.streams-formed, StreamLemmas.stream-names-differ, StreamLemmas.stream-ids-differ, StreamLemmas.talkers-known, EventLemmas.sorted-many, EventLemmas.sorted-within, EventLemmas.sorted-known, EventLemmas.sorted-order}
use Rattle.srp_base.proofs.SortLemmas.{one-order}

-- a plan of these values
plan : ℕ → Cs → Bool → Bool → Topology → List NodeEntry → List LinkEntry → List StreamEntry → List EventEntry → List FrameEntry → Plan
plan ticks leave_time periodic domains tree nodes links streams events frames =
    record { ticks = ticks; leave_time = leave_time; periodic = periodic; domains = domains; tree = tree; nodes = nodes; links = links; streams = streams; events = events; frames = frames }

same-plan : (a1 b1 : ℕ) (a2 b2 : Cs) (a3 b3 z3 y3 : Bool) (a4 b4 : Topology) (a5 b5 : List NodeEntry) (a6 b6 : List LinkEntry) (a7 b7 : List StreamEntry) (a8 b8 : List EventEntry)
    (a9 b9 : List FrameEntry)
    → a1 ≡ b1 → a2 ≡ b2 → a3 ≡ b3 → z3 ≡ y3 → a4 ≡ b4 → a5 ≡ b5 → a6 ≡ b6 → a7 ≡ b7 → a8 ≡ b8 → a9 ≡ b9 → plan a1 a2 a3 z3 a4 a5 a6 a7 a8 a9 ≡ plan b1 b2 b3 y3 b4 b5 b6 b7 b8 b9
same-plan a1 b1 a2 b2 a3 b3 z3 y3 a4 b4 a5 b5 a6 b6 a7 b7 a8 b8 a9 b9 e1 e2 e3 e0 e4 e5 e6 e7 e8 e9 = cc

-- the plan of a number with its events in this order
pub plan_with : ℕ → List EventEntry → Plan
plan_with number events = plan 4000 (record { 0 = 60 }) false false (topology_of (drawn_nodes number) (drawn_links number)) (drawn_nodes number) (drawn_links number) (drawn_streams number) events []

pub drawn-is : (number : ℕ) (p : Plan) (events : List EventEntry) → IsDrawn number p → p.events ≡ events → p ≡ plan_with number events
unfolding plan plan_with
drawn-is number p events is e =
    same-plan p.ticks 4000 p.leave_time (record { 0 = 60 }) p.periodic false p.domains false p.tree (topology_of (drawn_nodes number) (drawn_links number)) p.nodes
    (drawn_nodes number) p.links (drawn_links number)
    p.streams (drawn_streams number) p.events events p.frames []
    is.ticks is.leave_time is.periodic is.domains is.tree is.nodes is.links is.streams e is.frames

plan-keeps : (number : ℕ) (events : List EventEntry) → IsSortedByTick (drawn_events number) events
    → ((count : ℕ) (ls : List Link) → IsGraph count ls → HasNoLoop ls → ((x : ℕ) → IsNode count x → Connected ls 1 x) → IsTree count ls)
    → KeepsRules (plan_with number events)
unfolding plan plan_with
plan-keeps number events sorted tree =
    let b = bridges-between number in
    let s = stations-between number in
    let k = (streams-between number).1 in
    let two = b.0 in
    let few = b.1 in
    let small = s.1 in
    let n = node-count number in
    let many = streams-counted number in
    record {
      ticks = (omega arith, omega arith);
      leave_time = (omega arith, omega arith);
      node_forms = names-formed number;
      node_ids = ids-small number;
      words = λ off. words-drawn number;
      node_count = (omega (arith, n, two), omega (arith, n, few, small));
      size = omega (arith, n, few, small);
      names = names-differ number;
      ids = ids-differ number;
      link_forms = links-formed number;
      accepted = network-accepted number tree;
      uncrowded = λ x is. uncrowded number x;
      streams_many = omega (arith, many, k);
      stream_forms = streams-formed number;
      stream_names = stream-names-differ number;
      stream_ids = stream-ids-differ number;
      talkers = talkers-known number;
      events_many = sorted-many number events sorted;
      events_within = sorted-within number events sorted;
      events_order = sorted-order number events sorted;
      events_known = sorted-known number events sorted;
      frame_forms = λ i d lt. absurd (omega (arith, lt));
      copies = omega arith;
      routes = λ i d lt. absurd (omega (arith, lt));
      tree = refl;
    }

pub drawn-keeps : (number : ℕ) (p : Plan) → IsDrawn number p
    → ((count : ℕ) (ls : List Link) → IsGraph count ls → HasNoLoop ls → ((x : ℕ) → IsNode count x → Connected ls 1 x) → IsTree count ls)
    → KeepsRules p
drawn-keeps number p is tree = subst KeepsRules (sym (drawn-is number p p.events is refl)) (plan-keeps number p.events is.events tree)

-- a number has one plan alone
pub drawn-alone : (number : ℕ) (p q : Plan) → IsDrawn number p → IsDrawn number q → p ≡ q
drawn-alone number p q one two =
    let tick : EventEntry → ℕ = λ e. e.tick in
    let events : p.events ≡ q.events =
    one-order tick (λ t. record { tick = t; kind = Talk 0 }) (λ t. refl) (drawn_events number) p.events q.events
    (IsNonDecreasingBy-from_sort tick p.events one.events.order) (IsNonDecreasingBy-from_sort tick q.events two.events.order)
    one.events.stable two.events.stable in
    drawn-is number p q.events one events ∙ sym (drawn-is number q q.events two refl)

-- what is drawn of a number
pub drawn-same : (n number : ℕ) (p : Plan) → n ≡ number → IsDrawn n p → IsDrawn number p
drawn-same n number p e is = subst (λ (k : ℕ). IsDrawn k p) e is

-- What every scenario keeps, from the rules that its table passed.
use Rattle.std.proofs.Common.{◌≡◌, ℕ, ◌≤◌, Bool, false, List, [], None, subst, IfOk}
use Rattle.std.proofs.lemmas.List.Elements.{All-weaker}
use Rattle.std.specs.List.{All}
use Rattle.std.specs.Prelude.{codes}
use Rattle.srp_base.proofs.Options.{opened as some-says}
use Rattle.srp_base.specs.Firsts.{first_where}
use Rattle.toml.specs.Data.{Members}
use Rattle.toml_rules.specs.Fields.{number, number_or, truth_or, tables, has_only}
use Rattle.tree_topology.specs.{Topology.Topology, Refusal.refusal}
use Rattle.topology_file.specs.{NodeEntry, LinkEntry, StreamEntry, EventEntry, FrameEntry, nodes_of, links_of, tree_links, node_kinds, topology_of, tree_of, is_crowded, streams_of, events_of, frames_of, file_keys, ticks_at, leave_time_at, plan_of, scenario_of, KeepsRules}
use Rattle.topology_file.proofs.{Chains.within-range, Chains.chain-if, Chains.chain-needs, Chains.chain-holds, Chains.chain-none, NetworkKept.NodesKeep, NetworkKept.nodes-keep, NetworkKept.small-parts, NetworkKept.ids-fit, NetworkKept.names-differ, NetworkKept.ids-differ, NetworkKept.HasShares, NetworkKept.IsKnownLink, NetworkKept.links-keep, NetworkKept.AcceptedLaw, NetworkKept.tree-keeps, NetworkKept.few-links, StreamsKept.StreamsKeep, StreamsKept.streams-keep, EventsKept.EventsKeep, EventsKept.events-keep, FramesKept.FramesKeep, FramesKept.frames-keep}

-- what a scenario keeps, from what its parts were read as
plan-keeps : AcceptedLaw
    → (ticks leave_time : ℕ) (periodic domains : Bool) (tree : Topology) (nodes : List NodeEntry) (links : List LinkEntry) (streams : List StreamEntry) (events : List EventEntry)
    (frames : List FrameEntry)
    → (1 ≤ ticks) × (ticks ≤ 12000) → (60 ≤ leave_time) × (leave_time ≤ 100)
    → NodesKeep ticks domains nodes → All (IsKnownLink nodes) links → (tree ≡ topology_of nodes links) × (refusal (node_kinds nodes) (tree_links links) ≡ None)
    → first_where (is_crowded tree.links) [] nodes ≡ None → StreamsKeep nodes streams → EventsKeep ticks nodes links streams events → FramesKeep ticks nodes streams frames
    → KeepsRules (record {
      ticks = ticks;
      leave_time = record { 0 = leave_time };
      periodic = periodic;
      domains = domains;
      tree = tree;
      nodes = nodes;
      links = links;
      streams = streams;
      events = events;
      frames = frames;
    })
plan-keeps law ticks leave_time periodic domains tree nodes links streams events frames t l n k r crowd s e f =
    let small = small-parts ticks nodes n.small in
    let C : Topology → Type 0 = λ t. first_where (is_crowded t.links) [] nodes ≡ None in
    record {
      ticks = t;
      leave_time = l;
      node_forms = n.forms;
      node_ids = ids-fit ticks domains nodes n;
      words = λ off i d lt. n.words i d lt off;
      node_count = (small.0, small.1);
      size = small.2;
      names = names-differ nodes n.names;
      ids = ids-differ nodes n.ids;
      link_forms = All-weaker (IsKnownLink nodes) HasShares (λ x h. h.0) links k;
      accepted = (law (topology_of nodes links)).0 r.1;
      uncrowded = few-links nodes (tree_links links) (subst C r.0 crowd);
      streams_many = s.many;
      stream_forms = s.forms;
      stream_names = s.names;
      stream_ids = s.ids;
      talkers = s.talkers;
      events_many = e.many;
      events_within = e.within;
      events_order = e.order;
      events_known = e.known;
      frame_forms = f.forms;
      copies = f.copies;
      routes = f.routes;
      tree = r.0;
    }

pub plan_of-keeps : AcceptedLaw → (ticks leave_time : ℕ) (periodic domains : Bool) (node_tables link_tables stream_tables event_tables frame_tables : List Members)
    → (1 ≤ ticks) × (ticks ≤ 12000) → (60 ≤ leave_time) × (leave_time ≤ 100)
    → IfOk (plan_of ticks leave_time periodic domains node_tables link_tables stream_tables event_tables frame_tables) KeepsRules
plan_of-keeps law ticks leave_time periodic domains node_tables link_tables stream_tables event_tables frame_tables t l =
    let P = KeepsRules in
    chain-if P _ (nodes_of ticks domains node_tables) _ (nodes-keep ticks domains node_tables) (λ nodes n.
    chain-if P _ (links_of nodes link_tables) _ (links-keep nodes link_tables) (λ links k.
    chain-if P _ (tree_of nodes links) _ (tree-keeps nodes links) (λ tree r.
    chain-none P 15 (first_where (is_crowded tree.links) [] nodes) _ (λ crowd.
    chain-if P _ (streams_of nodes stream_tables) _ (streams-keep nodes stream_tables) (λ streams s.
    chain-if P _ (events_of ticks nodes links streams event_tables) _ (events-keep ticks nodes links streams event_tables) (λ events e.
    chain-if P _ (frames_of ticks nodes streams frame_tables) _ (frames-keep ticks nodes streams frame_tables) (λ frames f.
    plan-keeps law ticks leave_time periodic domains tree nodes links streams events frames t l n k r crowd s e f)))))))

pub scenario-keeps : AcceptedLaw → (ms : Members) → IfOk (scenario_of ms) KeepsRules
scenario-keeps law ms =
    let P = KeepsRules in
    chain-needs P 1 (ticks_at ms) _ (λ ticks e1.
    chain-holds P 2 (has_only file_keys ms) _ (λ _.
    chain-needs P 2 (tables (codes "node") ms) _ (λ node_tables _.
    chain-needs P 2 (tables (codes "link") ms) _ (λ link_tables _.
    chain-needs P 2 (tables (codes "stream") ms) _ (λ stream_tables _.
    chain-needs P 2 (tables (codes "event") ms) _ (λ event_tables _.
    chain-needs P 2 (tables (codes "frame") ms) _ (λ frame_tables _.
    chain-needs P 3 (leave_time_at ms) _ (λ leave_time e2.
    chain-needs P 3 (truth_or (codes "periodic") false ms) _ (λ periodic _.
    chain-needs P 3 (truth_or (codes "domains") false ms) _ (λ domains _.
    plan_of-keeps law ticks leave_time periodic domains node_tables link_tables stream_tables event_tables frame_tables
    (some-says (λ n. (1 ≤ n) × (n ≤ 12000)) (ticks_at ms) ticks e1 (within-range 1 12000 (number (codes "ticks") ms)))
    (some-says (λ n. (60 ≤ n) × (n ≤ 100)) (leave_time_at ms) leave_time e2 (within-range 60 100 (number_or (codes "leave_time") 60 ms)))))))))))))

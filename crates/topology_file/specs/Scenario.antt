-- The scenario of a table, or the first rule that it breaks, with the first entry that breaks it.
use Rattle.std.specs.Prelude.{◌≡◌, ◌≢◌, ◌≤◌, ◌<◌, ◌^◌, All, AllPairs, ℕ, ◌+◌, ◌*◌, ◌==◌, Bool, true, false, ◌&&◌, nat_le, nat_lt, nat_eq, List, [], ◌∷◌, length, map, codes, Option, Some, None, Result, Ok, Err}
use Rattle.std.specs.{Cmp.Lexicographic.pointwise, List.list_any, List.Sorted.IsNonDecreasing}
use Rattle.srp_base.specs.{Firsts.first_where, Results.◌>>=◌}
use Rattle.toml.specs.Data.{Members}
use Rattle.toml_rules.specs.declared.rules.RuleErr.{RuleErr}
use Rattle.toml_rules.specs.declared.rules.RuleErr.TheVariants as rules
use Rattle.toml_rules.specs.{Fields.number, Fields.number_or, Fields.within, Fields.truth_or, Fields.tables, Fields.has_only, Rules.needs, Rules.holds, Rules.fails_at, Rules.no_entry, Rules.each_entry, Rules.each_within, Rules.first_fall}
use Rattle.tree_topology.specs.declared.{graph.Link.Link, graph.NodeKind.NodeKind, graph.TreeErr.TreeErr}
use Rattle.tree_topology.specs.declared.graph.TreeErr.TheVariants.{UnknownNode, SelfLink, SecondLink, Loop, Unconnected, StationWithLinks, TooManyLinks}
use Rattle.tree_topology.specs.declared.graph.TreeErr.TheVariants as refusals
use Rattle.tree_topology.specs.{Graph.IsNode, Ports.neighbours, Refusal.IsAccepted, Refusal.is_self_link, Refusal.is_second_link, Refusal.refusal, Topology.Topology}
use Rattle.topology_file.specs.declared.{entries.DomainWord.TheVariants.Both, entries.NodeEntry.NodeEntry, entries.LinkEntry.LinkEntry, entries.EventEntry.EventEntry, entries.FrameEntry.FrameEntry, entries.StreamEntry.StreamEntry, entries.StreamForm.StreamForm}
use Rattle.topology_file.specs.{Entries.is_name, Entries.node_entry, Entries.link_form, Events.event_form, Events.form_ticks, Events.event_ticks, Events.event_entry, Frames.frame_form, Frames.form_copies, Frames.frame_entry, Frames.frame_copies, Frames.HasFrameForm, Frames.IsKnownRoute, Kinds.IsKnownKind, Kinds.IsStationNumber, Plan.Plan, Streams.stream_form, Streams.stream_entry}

-- ---- nodes

-- an earlier node is called the same
abbrev pub has_name_of : List NodeEntry → NodeEntry → Bool
has_name_of earlier x = list_any (λ y. pointwise nat_eq y.name x.name) earlier

-- an earlier node has the same BridgeID
abbrev pub has_id_of : List NodeEntry → NodeEntry → Bool
has_id_of earlier x = list_any (λ y. y.id.0 == x.id.0) earlier

-- 2 to 64 nodes, and 400,000 nodes times ticks at most
abbrev pub is_small : ℕ → List NodeEntry → Bool
is_small ticks nodes =
    nat_le 2 (length nodes) && nat_le (length nodes) 64 && nat_le (length nodes * ticks) 400000

-- rules 4 to 7: the end stations and bridges, numbered from 1 in the order of the file
abbrev pub nodes_of : ℕ → Bool → List Members → Result (List NodeEntry) RuleErr
nodes_of ticks domains entries = do
  nodes ← each_entry 4 (node_entry domains) 1 entries
  _ ← holds 5 (is_small ticks nodes)
  _ ← no_entry 6 (first_where has_name_of [] nodes)
  _ ← no_entry 7 (first_where has_id_of [] nodes)
  Ok nodes

-- ---- links

-- rules 8 and 9: the links with the numbers of the nodes at their ends
abbrev pub links_of : List NodeEntry → List Members → Result (List LinkEntry) RuleErr
links_of nodes entries = do
  forms ← each_entry 8 (link_form nodes) 1 entries
  each_entry 9 (λ n form. form) 1 forms

-- ---- the tree

-- whom a link joins, without its rate, shares and latency
abbrev pub ends_of_entry : LinkEntry → Link
ends_of_entry l = record { a = l.a; b = l.b }

-- who is joined with whom, in the order of the links in the file
abbrev pub tree_links : List LinkEntry → List Link
tree_links links = map ends_of_entry links

-- who is an end station and who a bridge, in the order of the nodes in the file
abbrev pub node_kinds : List NodeEntry → List NodeKind
node_kinds nodes = map (λ x. x.kind) nodes

-- the active topology, where the links form a tree
abbrev pub topology_of : List NodeEntry → List LinkEntry → Topology
topology_of nodes links = record { kinds = node_kinds nodes; links = tree_links links }

-- rules 10 and 11, which the ends of links alone tell
abbrev pub proper_ends : List Link → Result (Unit {0}) RuleErr
proper_ends ends = do
  _ ← no_entry 10 (first_where is_self_link [] ends)
  no_entry 11 (first_where is_second_link [] ends)

-- the rule that a refusal of the tree breaks; names are nodes by then, and there are few
abbrev pub rule_of : TreeErr → RuleErr
rule_of (UnknownNode n) = fails_at 9 n.0
rule_of (SelfLink n) = fails_at 10 n.0
rule_of (SecondLink n) = fails_at 11 n.0
rule_of (Loop n) = fails_at 12 n.0
rule_of (Unconnected x) = fails_at 13 x.0
rule_of (StationWithLinks x) = fails_at 14 x.0
rule_of (TooManyLinks x) = fails_at 15 x.0
rule_of refusals.NoMemory = rules.NoMemory

-- this tree, unless it is refused
abbrev pub unless_refused : Topology → Option TreeErr → Result Topology RuleErr
unless_refused tree None = Ok tree
unless_refused tree (Some e) = Err (rule_of e)

-- rules 10 to 14: the active topology, which is all the links, since they have to form a tree
abbrev pub tree_of : List NodeEntry → List LinkEntry → Result Topology RuleErr
tree_of nodes links =
    unless_refused (topology_of nodes links) (refusal (node_kinds nodes) (tree_links links))

-- the node behind so many earlier ones has more than 16 links
abbrev pub is_crowded : List Link → List NodeEntry → NodeEntry → Bool
is_crowded links earlier x = nat_lt 16 (length (neighbours links (length earlier + 1)))

-- ---- streams

-- an earlier stream is called the same
abbrev pub has_stream_name_of : List StreamForm → StreamForm → Bool
has_stream_name_of earlier x = list_any (λ y. pointwise nat_eq y.name x.name) earlier

-- an earlier stream has the same StreamID (IEEE Std 802.1Q-2018, 35.2.2.8.2)
abbrev pub has_stream_id_of : List StreamForm → StreamForm → Bool
has_stream_id_of earlier x = list_any (λ y. y.values.id.0 == x.values.id.0) earlier

-- rules 16 to 19: the streams, numbered from 1: what each Talker declares, and the end station that
-- it is at
abbrev pub streams_of : List NodeEntry → List Members → Result (List StreamEntry) RuleErr
streams_of nodes entries = do
  forms ← each_entry 16 (stream_form nodes) 1 entries
  _ ← no_entry 17 (first_where has_stream_name_of [] forms)
  _ ← no_entry 18 (first_where has_stream_id_of [] forms)
  each_entry 19 stream_entry 1 forms

-- ---- events

-- rules 20 to 22: what applications declare and withdraw, and which PDUs are lost or doubled, tick
-- by tick
abbrev pub events_of : ℕ → List NodeEntry → List LinkEntry → List StreamEntry → List Members → Result (List EventEntry) RuleErr
events_of ticks nodes links streams entries = do
  forms ← each_entry 20 (event_form ticks nodes links streams) 1 entries
  _ ← no_entry 21 (first_fall 1 0 (form_ticks forms))
  each_entry 22 event_entry 1 forms

-- ---- frames

-- rules 23 and 24: what is sent in the streams and beside them, 100,000 copies at most
abbrev pub frames_of : ℕ → List NodeEntry → List StreamEntry → List Members → Result (List FrameEntry) RuleErr
frames_of ticks nodes streams entries = do
  forms ← each_within 23 form_copies (frame_form ticks nodes streams) 1 100000 entries
  each_entry 24 frame_entry 1 forms

-- ---- the file

-- what a file may say: its times, and its arrays of tables
abbrev pub file_keys : List (List ℕ)
file_keys =
    codes "ticks" ∷ codes "leave_time" ∷ codes "periodic" ∷ codes "domains" ∷ codes "node" ∷ codes "link"
    ∷ codes "stream" ∷ codes "event" ∷ codes "frame" ∷ []

-- how long the run is, in cs
abbrev pub ticks_at : Members → Option ℕ
ticks_at ms = within 1 12000 (number (codes "ticks") ms)

-- LeaveTime in cs, 60 where none is given
abbrev pub leave_time_at : Members → Option ℕ
leave_time_at ms = within 60 100 (number_or (codes "leave_time") 60 ms)

-- the scenario of these times and entries
abbrev pub plan_of : ℕ → ℕ → Bool → Bool → List Members → List Members → List Members → List Members → List Members → Result Plan RuleErr
plan_of ticks leave_time periodic domains node_tables link_tables stream_tables event_tables frame_tables = do
  nodes ← nodes_of ticks domains node_tables
  links ← links_of nodes link_tables
  tree ← tree_of nodes links
  _ ← no_entry 15 (first_where (is_crowded tree.links) [] nodes)
  streams ← streams_of nodes stream_tables
  events ← events_of ticks nodes links streams event_tables
  frames ← frames_of ticks nodes streams frame_tables
  Ok (record { ticks = ticks; leave_time = record { 0 = leave_time }; periodic = periodic; domains = domains; tree = tree; nodes = nodes; links = links; streams = streams; events = events; frames = frames })

-- The scenario of a table, or the first rule that fails, with its first failing entry:
--  1  `ticks` is 1 to 12,000
--  2  the keys are known; nodes, links, streams, events and frames are arrays of tables
--  3  `leave_time` is 60 to 100, `periodic` and `domains` are truth values
--  4  each node has its form                  5  there are 2 to 64 nodes, and not too many ticks
--  6  node names differ                       7  node ids differ
--  8  each link has its form                  9  each link's names are nodes
-- 10  no link joins a node with itself       11  no two links join the same nodes
-- 12  no link closes a loop                  13  each node is connected with node 1
-- 14  each station has one link              15  each node has at most 16 links
-- 16  each stream has its form               17  stream names differ
-- 18  stream ids differ                      19  each talker is a station
-- 20  each event has its form                21  event ticks don't fall
-- 22  the names in events are known, and no station listens to a stream in which it talks
-- 23  each frame has its form, and copies are few
-- 24  a frame's stream is known, or its stations are two
abbrev pub scenario_of : Members → Result Plan RuleErr
scenario_of ms = do
  ticks ← needs 1 (ticks_at ms)
  _ ← holds 2 (has_only file_keys ms)
  node_tables ← needs 2 (tables (codes "node") ms)
  link_tables ← needs 2 (tables (codes "link") ms)
  stream_tables ← needs 2 (tables (codes "stream") ms)
  event_tables ← needs 2 (tables (codes "event") ms)
  frame_tables ← needs 2 (tables (codes "frame") ms)
  leave_time ← needs 3 (leave_time_at ms)
  periodic ← needs 3 (truth_or (codes "periodic") false ms)
  domains ← needs 3 (truth_or (codes "domains") false ms)
  plan_of ticks leave_time periodic domains node_tables link_tables stream_tables event_tables frame_tables

-- ---- what every scenario keeps

-- a stream's values have their form
pub record HasStreamForm (s : StreamEntry) : Type 0 where
  pub name : is_name s.name ≡ true
  pub id : s.id.0 < 2 ^ 64
  pub dest : s.dest < 2 ^ 48
  pub octets : s.octets ≤ 65535
  pub frames : s.frames ≤ 65535
  pub vid : (1 ≤ s.vid) × (s.vid ≤ 4094)
  pub priority : s.priority ≤ 7

-- What every scenario keeps: its numbers have their ranges, names and ids differ, its nodes and
-- links are an accepted tree, its talkers are stations, its events are in order and speak of what
-- is known, and its frames end in time, are few, and go where they can. Where it has no domains,
-- each node's word is both.
pub record KeepsRules (p : Plan) : Type 0 where
  pub ticks : (1 ≤ p.ticks) × (p.ticks ≤ 12000)
  pub leave_time : (60 ≤ p.leave_time.0) × (p.leave_time.0 ≤ 100)
  pub node_forms : All (λ x. is_name x.name ≡ true) p.nodes
  pub node_ids : All (λ x. x.id.0 < 2 ^ 64) p.nodes
  pub words : p.domains ≡ false → All (λ x. x.domain ≡ Both) p.nodes
  pub node_count : (2 ≤ length p.nodes) × (length p.nodes ≤ 64)
  pub size : length p.nodes * p.ticks ≤ 400000
  pub names : AllPairs (λ x y. x.name ≢ y.name) p.nodes
  pub ids : AllPairs (λ x y. x.id.0 ≢ y.id.0) p.nodes
  pub link_forms : All (λ l. (l.delta_a + l.delta_b ≤ 90) × (l.latency < 2 ^ 32)) p.links
  pub accepted : IsAccepted (node_kinds p.nodes) (tree_links p.links)
  pub uncrowded : (x : ℕ) → IsNode (length p.nodes) x → length (neighbours (tree_links p.links) x) ≤ 16
  pub streams_many : length p.streams ≤ 128
  pub stream_forms : All HasStreamForm p.streams
  pub stream_names : AllPairs (λ x y. x.name ≢ y.name) p.streams
  pub stream_ids : AllPairs (λ x y. x.id.0 ≢ y.id.0) p.streams
  pub talkers : All (λ s. IsStationNumber p.nodes s.talker.0) p.streams
  pub events_many : length p.events ≤ 10000
  pub events_within : All (λ t. t < p.ticks) (event_ticks p.events)
  pub events_order : IsNonDecreasing (event_ticks p.events)
  pub events_known : All (λ e. IsKnownKind p.nodes p.links p.streams e.kind) p.events
  pub frame_forms : All (HasFrameForm p.ticks) p.frames
  pub copies : frame_copies p.frames ≤ 100000
  pub routes : All (λ f. IsKnownRoute p.nodes p.streams f.route) p.frames
  pub tree : p.tree ≡ topology_of p.nodes p.links

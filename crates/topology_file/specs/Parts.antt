-- The parts of a scenario: its network, and what happens in it.
use Rattle.std.specs.Prelude.{ℕ, Bool, false, List, [], codes, Result, Ok}
use Rattle.srp_base.specs.{Firsts.first_where, Results.◌>>=◌}
use Rattle.toml.specs.Data.{Members}
use Rattle.toml_rules.specs.declared.rules.RuleErr.{RuleErr}
use Rattle.toml_rules.specs.{Fields.truth_or, Fields.tables, Rules.needs, Rules.no_entry}
use Rattle.topology_file.specs.declared.{entries.NodeEntry.NodeEntry, entries.LinkEntry.LinkEntry, network.Network.Network, network.Times.Times, scenario.Traffic.Traffic}
use Rattle.topology_file.specs.{Plan.Plan, Scenario.nodes_of, Scenario.links_of, Scenario.tree_of, Scenario.is_crowded, Scenario.streams_of, Scenario.events_of, Scenario.frames_of, Scenario.leave_time_at, Scenario.plan_of}

-- the nodes, the links and their tree
abbrev pub network_of : ℕ → Bool → List Members → List Members → Result Network RuleErr
network_of ticks domains node_tables link_tables = do
  nodes ← nodes_of ticks domains node_tables
  links ← links_of nodes link_tables
  tree ← tree_of nodes links
  _ ← no_entry 15 (first_where (is_crowded tree.links) [] nodes)
  Ok (record { tree = tree; nodes = nodes; links = links })

-- the streams, the events and the frames
abbrev pub traffic_of : ℕ → List NodeEntry → List LinkEntry → List Members → List Members → List Members → Result Traffic RuleErr
traffic_of ticks nodes links stream_tables event_tables frame_tables = do
  streams ← streams_of nodes stream_tables
  events ← events_of ticks nodes links streams event_tables
  frames ← frames_of ticks nodes streams frame_tables
  Ok (record { streams = streams; events = events; frames = frames })

-- the times, of so many ticks
abbrev pub times_of : ℕ → Members → Result Times RuleErr
times_of ticks ms = do
  leave_time ← needs 3 (leave_time_at ms)
  periodic ← needs 3 (truth_or (codes "periodic") false ms)
  Ok (record { ticks = ticks; leave_time = leave_time; periodic = periodic })

-- the scenario of so many ticks, of these nodes, links and streams, and of the times, events and
-- frames of a table
abbrev pub rest_plan : ℕ → Members → List Members → List Members → List Members → Result Plan RuleErr
rest_plan ticks ms node_tables link_tables stream_tables = do
  event_tables ← needs 2 (tables (codes "event") ms)
  frame_tables ← needs 2 (tables (codes "frame") ms)
  times ← times_of ticks ms
  domains ← needs 3 (truth_or (codes "domains") false ms)
  plan_of times.ticks times.leave_time times.periodic domains node_tables link_tables stream_tables event_tables frame_tables

-- the scenario of so many ticks, of a table whose keys are known
abbrev pub entries_plan : ℕ → Members → Result Plan RuleErr
entries_plan ticks ms = do
  node_tables ← needs 2 (tables (codes "node") ms)
  link_tables ← needs 2 (tables (codes "link") ms)
  stream_tables ← needs 2 (tables (codes "stream") ms)
  rest_plan ticks ms node_tables link_tables stream_tables

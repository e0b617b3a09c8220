-- The network of a table and its times, for each file that has such.
use Rattle.std.specs.Prelude.{◌≡◌, ◌≢◌, ◌≤◌, ◌<◌, ◌^◌, All, AllPairs, ℕ, ◌+◌, ◌*◌, true, false, List, length, codes, Result, Ok}
use Rattle.srp_base.specs.Results.{◌>>=◌}
use Rattle.toml.specs.Data.{Members}
use Rattle.toml_rules.specs.declared.rules.RuleErr.{RuleErr}
use Rattle.toml_rules.specs.{Fields.tables, Rules.needs}
use Rattle.tree_topology.specs.{Graph.IsNode, Ports.neighbours, Refusal.IsAccepted, Topology.Topology}
use Rattle.topology_file.specs.declared.{entries.NodeEntry.NodeEntry, entries.LinkEntry.LinkEntry, network.TimedNetwork.TimedNetwork}
use Rattle.topology_file.specs.{Entries.is_name, Parts.network_of, Parts.times_of, Scenario.ticks_at, Scenario.tree_links, Scenario.node_kinds, Scenario.topology_of}

-- The network of a table with its times, or the first rule that fails, with its first failing
-- entry, by the keys `ticks`, `leave_time`, `periodic`, `node` and `link` alone: the rules 1 to 15
-- of a scenario's file without domains
abbrev pub timed_network_of : Members → Result TimedNetwork RuleErr
timed_network_of ms = do
  ticks ← needs 1 (ticks_at ms)
  node_tables ← needs 2 (tables (codes "node") ms)
  link_tables ← needs 2 (tables (codes "link") ms)
  times ← times_of ticks ms
  network ← network_of times.ticks false node_tables link_tables
  Ok (record { times = times; network = network })

-- What every network of a file keeps: its numbers have their ranges, names and ids differ, and its
-- nodes and links are an accepted tree.
pub record KeepsNetworkRules (ticks leave_time : ℕ) (tree : Topology) (nodes : List NodeEntry) (links : List LinkEntry) : Type 0 where
  pub ticks_many : (1 ≤ ticks) × (ticks ≤ 12000)
  pub leave : (60 ≤ leave_time) × (leave_time ≤ 100)
  pub node_forms : All (λ x. is_name x.name ≡ true) nodes
  pub node_ids : All (λ x. x.id.0 < 2 ^ 64) nodes
  pub node_count : (2 ≤ length nodes) × (length nodes ≤ 64)
  pub size : length nodes * ticks ≤ 400000
  pub names : AllPairs (λ x y. x.name ≢ y.name) nodes
  pub ids : AllPairs (λ x y. x.id.0 ≢ y.id.0) nodes
  pub link_forms : All (λ l. (l.delta_a + l.delta_b ≤ 90) × (l.latency < 2 ^ 32)) links
  pub accepted : IsAccepted (node_kinds nodes) (tree_links links)
  pub uncrowded : (x : ℕ) → IsNode (length nodes) x → length (neighbours (tree_links links) x) ≤ 16
  pub is_tree : tree ≡ topology_of nodes links

-- a network that was read keeps the rules
abbrev pub IsKeptNetwork : TimedNetwork → Type 0
IsKeptNetwork n = KeepsNetworkRules n.times.ticks n.times.leave_time n.network.tree n.network.nodes n.network.links

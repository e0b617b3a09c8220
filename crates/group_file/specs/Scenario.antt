-- The group scenario of a table, or the first rule that it breaks, with the first entry that breaks
-- it.
use Rattle.std.specs.Prelude.{◌≤◌, ◌<◌, All, ℕ, List, [], ◌∷◌, length, codes, Result, Ok}
use Rattle.std.specs.List.Sorted.{IsNonDecreasing}
use Rattle.srp_base.specs.Results.{◌>>=◌}
use Rattle.toml.specs.Data.{Members}
use Rattle.toml_rules.specs.declared.rules.RuleErr.{RuleErr}
use Rattle.toml_rules.specs.{Fields.has_only, Fields.tables, Rules.each_entry, Rules.first_fall, Rules.holds, Rules.needs, Rules.no_entry}
use Rattle.topology_file.specs.declared.{entries.NodeEntry.NodeEntry, entries.LinkEntry.LinkEntry, network.TimedNetwork.TimedNetwork}
use Rattle.topology_file.specs.Network.{KeepsNetworkRules, timed_network_of}
use Rattle.group_file.specs.declared.entries.GroupEntry.{GroupEntry}
use Rattle.group_file.specs.{Events.IsKnownGroup, Events.event_form, Events.form_ticks, Events.group_entry, Events.group_ticks, Plan.GroupPlan}

-- what a file of groups may say: its times, its network and its events
abbrev pub group_keys : List (List ℕ)
group_keys =
    codes "ticks" ∷ codes "leave_time" ∷ codes "periodic" ∷ codes "node" ∷ codes "link" ∷ codes "event" ∷ []

-- rules 41 to 43: who joins and parts, and which PDUs are lost or doubled, tick by tick
abbrev pub groups_of : ℕ → List NodeEntry → List LinkEntry → List Members → Result (List GroupEntry) RuleErr
groups_of ticks nodes links entries = do
  forms ← each_entry 41 (event_form ticks nodes links) 1 entries
  _ ← no_entry 42 (first_fall 1 0 (form_ticks forms))
  each_entry 43 group_entry 1 forms

-- the plan of a network and its events
abbrev pub plan_with : TimedNetwork → List GroupEntry → GroupPlan
plan_with n events = record {
  ticks = n.times.ticks;
  leave_time = record { 0 = n.times.leave_time };
  periodic = n.times.periodic;
  tree = n.network.tree;
  nodes = n.network.nodes;
  links = n.network.links;
  events = events;
}

-- the group scenario of these event tables and of the network of a table
abbrev pub rest_of : Members → List Members → Result GroupPlan RuleErr
rest_of ms event_tables = do
  network ← timed_network_of ms
  events ← groups_of network.times.ticks network.network.nodes network.network.links event_tables
  Ok (plan_with network events)

-- The group scenario of a table, or the first rule that fails, with its first failing entry:
-- 40  the keys are known; `event` is an array of tables
--  1 to 15  as in a scenario's file, of the keys of the network and its times
-- 41  each event has its form                42  event ticks don't fall
-- 43  the names in events are known
abbrev pub group_scenario_of : Members → Result GroupPlan RuleErr
group_scenario_of ms = do
  _ ← holds 40 (has_only group_keys ms)
  event_tables ← needs 40 (tables (codes "event") ms)
  rest_of ms event_tables

-- What every group scenario keeps: what each network of a file keeps, and events in order, that
-- speak of what is known.
pub record KeepsGroupRules (p : GroupPlan) : Type 0 where
  pub network : KeepsNetworkRules p.ticks p.leave_time.0 p.tree p.nodes p.links
  pub events_many : length p.events ≤ 10000
  pub events_within : All (λ t. t < p.ticks) (group_ticks p.events)
  pub events_order : IsNonDecreasing (group_ticks p.events)
  pub events_known : All (λ e. IsKnownGroup p.nodes p.links e.kind) p.events

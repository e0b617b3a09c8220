-- The plan of a table, or the first rule that it breaks, with the first entry that breaks it; and
-- the scenario that it stands for.
use Rattle.std.specs.Prelude.{◌≡◌, ◌≢◌, ◌≤◌, ◌<◌, ◌^◌, All, AllPairs, ℕ, Bool, ◌&&◌, not, nat_le, true, false, is_some, List, [], ◌∷◌, length, map, codes, Option, Some, IfSome, Result, Ok}
use Rattle.srp_base.specs.{Firsts.first_where, Results.◌>>=◌}
use Rattle.toml.specs.Data.{Members, get_member}
use Rattle.toml_rules.specs.declared.rules.RuleErr.{RuleErr}
use Rattle.toml_rules.specs.{Fields.has_only, Fields.tables, Rules.each_entry, Rules.holds, Rules.needs, Rules.no_entry}
use Rattle.topology_file.specs.Plan.{Plan as ScenarioPlan}
use Rattle.topology_file.specs.declared.entries.NodeEntry.{NodeEntry}
use Rattle.topology_file.specs.{Entries.is_name, Kinds.IsStationNumber, Scenario.KeepsRules, Scenario.scenario_of}
use Rattle.plan_file.specs.declared.{entries.Ends.Ends, entries.PlanStream.PlanStream, entries.PlanValues.PlanValues}
use Rattle.plan_file.specs.{Events.events_of, Events.plan_events, Plan.NetworkPlan, Streams.has_like, Streams.is_same_id, Streams.plan_form, Streams.plan_stream, Tables.expanded, Tables.network_members}

-- a file is a plan where it says neither how long it runs nor what happens
abbrev pub is_plan : Members → Bool
is_plan ms = not (is_some (get_member (codes "ticks") ms)) && not (is_some (get_member (codes "event") ms))

-- what a plan may say
abbrev pub plan_keys : List (List ℕ)
plan_keys = codes "node" ∷ codes "link" ∷ codes "stream" ∷ codes "domains" ∷ []

-- rules 51 to 53: the streams, numbered from 1
abbrev pub streams_of : List NodeEntry → List Members → Result (List PlanStream) RuleErr
streams_of nodes entries = do
  forms ← each_entry 51 (plan_form nodes) 1 entries
  _ ← no_entry 52 (first_where has_like [] forms)
  each_entry 53 plan_stream 1 forms

-- rule 54: the streams, where few events come of them
abbrev pub if_few : Bool → List PlanStream → Result (List PlanStream) RuleErr
if_few few streams = do
  _ ← holds 54 few
  Ok streams

-- rules 51 to 54: the streams, of which no more than 10,000 events come
abbrev pub wanted_of : List NodeEntry → List Members → Result (List PlanStream) RuleErr
wanted_of nodes entries = do
  streams ← streams_of nodes entries
  if_few (nat_le (length (events_of nodes streams)) 10000) streams

-- rule 50: the tables of the streams, 128 at most
abbrev pub stream_tables_of : Members → Result (List Members) RuleErr
stream_tables_of ms = do
  _ ← holds 50 (has_only plan_keys ms)
  entries ← needs 50 (tables (codes "stream") ms)
  _ ← holds 50 (nat_le (length entries) 128)
  Ok entries

-- The plan of a table, or the first rule that fails, with its first failing entry:
--  1 to 15  as in a scenario's file, of the keys of the network, of which it has domains too
-- 50  the keys are known; `stream` is an array of tables, 128 at most
-- 51  each stream has its form
-- 52  no two streams have one name, and no two are given one id
-- 53  the talker and the listeners are stations, each once
-- 54  no more than 10,000 events come of it
abbrev pub plan_of : Members → Result NetworkPlan RuleErr
plan_of ms = do
  network ← scenario_of (network_members ms)
  entries ← stream_tables_of ms
  streams ← wanted_of network.nodes entries
  Ok (record { network = network; streams = streams })

-- the scenario that a plan's table stands for
abbrev pub plan_scenario_of : Members → Result ScenarioPlan RuleErr
plan_scenario_of ms = do
  p ← plan_of ms
  scenario_of (expanded p)

-- the document that is written of a plan's table
abbrev pub expanded_document : Members → Result (Option Members) RuleErr
expanded_document ms = do
  p ← plan_of ms
  Ok (Some (expanded p))

-- ---- what every plan keeps

-- a stream's values have their form
pub record HasPlanValues (v : PlanValues) : Type 0 where
  pub octets : v.octets ≤ 1500
  pub frames : (1 ≤ v.frames) × (v.frames ≤ 64)
  pub vid : (1 ≤ v.vid) × (v.vid ≤ 4094)
  pub id : IfSome v.id (λ id. id.0 < 2 ^ 64)
  pub dest : IfSome v.dest (λ dest. dest < 2 ^ 48)

-- a Talker and its Listeners are stations, each once
pub record AreStationsApart (nodes : List NodeEntry) (e : Ends) : Type 0 where
  pub talker : IsStationNumber nodes e.talker.0
  pub listeners : All (λ x. IsStationNumber nodes x.0) e.listeners
  pub others : All (λ x. x.0 ≢ e.talker.0) e.listeners
  pub once : AllPairs (λ x y. x.0 ≢ y.0) e.listeners

-- What every plan keeps: its network keeps the rules of a scenario, its streams are few,
-- differ and have their form, their ends are stations, and few events come of them.
pub record KeepsPlanRules (p : NetworkPlan) : Type 0 where
  pub network : KeepsRules p.network
  pub streams_many : length p.streams ≤ 128
  pub forms : All (λ s. is_name s.name ≡ true) p.streams
  pub values : All (λ s. HasPlanValues s.values) p.streams
  pub ends : All (λ s. AreStationsApart p.network.nodes s.ends) p.streams
  pub names : AllPairs (λ x y. x.name ≢ y.name) p.streams
  pub ids : AllPairs (λ x y. is_same_id x.values.id y.values.id ≡ false) p.streams
  pub events_many : length (plan_events p) ≤ 10000

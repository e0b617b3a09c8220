-- What `srpnet delays` prints of a run of a scenario, and what holds of the delays in it.
use Rattle.std.specs.Prelude.{◌≡◌, ◌≤◌, ℕ, true, List, Some, Ok}
use Rattle.srp_base.specs.declared.{bandwidth.Class.Class, numbers.EgressPort.EgressPort, ports.PortChange.PortChange}
use Rattle.tree_topology.specs.Topology.{HasPort}
use Rattle.frame_flow.specs.declared.result.PortFlow.{PortFlow}
use Rattle.frame_flow.specs.Copies.{flow_at}
use Rattle.topology_file.specs.Plan.{Plan}
use Rattle.scenario_frames.specs.{PlanFrames.plan_frames, Setting.setting_of}
use Rattle.delay_bound.specs.declared.stream.ClassStream.{ClassStream}
use Rattle.class_delays.specs.declared.{delays.FedStream.FedStream, delays.PortDelays.PortDelays}
use Rattle.class_delays.specs.Table.{delays_at, numbers_of, stream_in}
use Rattle.delay_flow.specs.Delays.{HoldsAt as GoesAt}
use Rattle.scenario_delays.specs.declared.facts.DelayFacts.{DelayFacts}
use Rattle.scenario_delays.specs.declared.facts.ClassBounds.TheVariants.{Reckoned}
use Rattle.scenario_delays.specs.{Answers.AllConform, Facts.AreFacts, Facts.IsBounded, Facts.bounds_of, Facts.class_setting, Streams.streams_in, Streams.traffic_in}
use Rattle.delay_report.specs.{Seen.longest_of, Seen.taken_at, Text.delays_text}
use Rattle.world_core.specs.declared.journal.Tick.{Tick}
use Rattle.world_core.specs.{World.WorldState, Ticks.AreCanonicalTicks}
use Rattle.srpnet.specs.{RunText.IsRun, RunText.HoldsThroughout, ScenarioInput.scenario_input}

-- In a run that keeps a class's bounds, each frame of the class that may be sent at a port is of a
-- stream that is fed there, starts within the wait that is printed, and has then taken no longer
-- from its moment than is reckoned up to there; or the run ends before. A run keeps them where it
-- is steady, no stream of the class is said not to conform, and the class has bounds.
abbrev pub GoInTime : Plan → List PortChange → List PortFlow → DelayFacts → Class → Type 0
GoInTime plan changes flows facts class =
    (ports : List PortDelays) (p : EgressPort) → IsBounded plan changes facts class ports
    → HasPort plan.tree p
    → GoesAt (setting_of plan changes) flows (traffic_in class) (streams_in class plan)
    (numbers_of (class_setting plan changes class) ports) p

-- and what is printed as the longest time of a stream's frames through a port is at most what is
-- printed as its bound
abbrev pub AreSeenWithin : Plan → List PortChange → List PortFlow → DelayFacts → Class → Type 0
AreSeenWithin plan changes flows facts class =
    (ports : List PortDelays) (p : EgressPort) (x : ClassStream) (fed : FedStream)
    → IsBounded plan changes facts class ports → HasPort plan.tree p
    → stream_in x (delays_at ports p) ≡ Some fed
    → longest_of (taken_at x.id (plan_frames plan) (flow_at flows p)) ≤ fed.spent

-- a run of a scenario with these ticks, what is known of its delays, the text that is printed of just
-- these, and what holds
pub record IsDelayed (plan : Plan) (ticks : List Tick) (text : List ℕ) : Type 0 where
  pub world : WorldState
  pub changes : List PortChange
  pub flows : List PortFlow
  pub run : IsRun AreCanonicalTicks plan ticks world changes flows
  pub holds : HoldsThroughout plan ticks flows
  pub facts : DelayFacts
  pub known : AreFacts plan changes facts
  pub printed : text ≡ delays_text (record { plan = plan; facts = facts; flows = flows }) world
  pub in_time : (class : Class) → GoInTime plan changes flows facts class
  pub seen : (class : Class) → AreSeenWithin plan changes flows facts class
  pub bounded : (class : Class) (ports : List PortDelays) → facts.steady ≡ true
      → AllConform class facts.answers → bounds_of class facts ≡ Reckoned ports
      → IsBounded plan changes facts class ports

-- the output of `delays` for an input of these octets, with the ticks of its run
pub record DelaysOutput (octets : List ℕ) (ticks : List Tick) (text : List ℕ) : Type 0 where
  pub plan : Plan
  pub read : scenario_input octets ≡ Ok plan
  pub delayed : IsDelayed plan ticks text

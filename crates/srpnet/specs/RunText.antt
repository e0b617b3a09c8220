-- What `srpnet run`, `srpnet ports`, both with `journal` behind them, and `srpnet run bounds`
-- print: the report of a run of the scenario, and behind it what happened, or how long class B
-- waits; and what holds of that run.
use Rattle.std.specs.Prelude.{◌≡◌, ℕ, List, ◌++◌, All, Ok}
use Rattle.srp_base.specs.declared.{numbers.StreamId.StreamId, ports.PortChange.PortChange}
use Rattle.frame_flow.specs.declared.result.PortFlow.{PortFlow}
use Rattle.frame_flow.specs.Flow.{IsFlow}
use Rattle.topology_file.specs.Plan.{Plan}
use Rattle.scenario_frames.specs.{Setting.setting_of, Laws.HasWindowsOfCap}
use Rattle.world_core.specs.declared.journal.Tick.{Tick}
use Rattle.world_core.specs.{World.WorldState, Duty.AreVlanDutiesMet, Duty.AreStreamDutiesMet, Limits.caps_at, Limits.IsWithinLimits, Moments.IsMoment, Timeline.IsTimelineOf}
use Rattle.network_laws.specs.{Vlans.IsAtRest, Vlans.VlansMatch, Streams.KeepsStreamLaws}
use Rattle.srp_report.specs.{Report.report_text, JournalText.journal_text}
use Rattle.scenario_bounds.specs.{PortBounds.IsWithinBoundB, PortService.GetsBandwidth}
use Rattle.srpnet.specs.{BoundsText.bound_lines, ScenarioInput.scenario_input}

-- A run of a scenario with these ticks: they lead from its start to a network, in the canonical
-- order where one thread runs it, in one of the legal orders where each port has a thread; what was
-- in force at each port in each tick; and the flow of the scenario's frames through the shapers by
-- what was in force.
pub record IsRun (Lead : Plan → List Tick → WorldState → Type 0) (plan : Plan) (ticks : List Tick) (world : WorldState)
    (changes : List PortChange) (flows : List PortFlow) : Type 0 where
  pub lead : Lead plan ticks world
  pub in_force : IsTimelineOf plan ticks changes
  pub flow : IsFlow (setting_of plan changes) flows

-- what holds at a moment of a run
pub record HoldsAt (plan : Plan) (w : WorldState) : Type 0 where
  -- each sound end of each link meets its duty, in each application
  pub vlan_duties : AreVlanDutiesMet w
  pub stream_duties : AreStreamDutiesMet w
  -- no port has booked past its limit
  pub limits : IsWithinLimits plan w
  -- and where the network is at rest, a VID is registered at a port exactly where a station behind
  -- it has declared it; a station that listens, other than the Talker's own, hears Ready exactly
  -- where every port on the way has booked the stream; and a refusal for want of bandwidth is due
  -- to the more important bookings of a port on the way
  pub vlans : IsAtRest w → VlansMatch w
  pub streams : IsAtRest w → (stream : StreamId) → KeepsStreamLaws w stream

-- what holds of a run with these ticks and this flow of frames
pub record HoldsThroughout (plan : Plan) (ticks : List Tick) (flows : List PortFlow) : Type 0 where
  -- at every moment, losses, repeats and forged PDUs included
  pub moments : (w : WorldState) → IsMoment plan ticks w → HoldsAt plan w
  -- at every port, over every window of its bit times, class A has the line for no more than its
  -- bound, with the credits of the port's cap
  pub windows : All (HasWindowsOfCap (λ p. (caps_at plan p).class_a)) flows
  -- and class B no more than its own, where no frame of it waits longer than its bound says
  pub class_b : All (IsWithinBoundB plan) flows
  -- and each class that has something to send gets as much, but for the same credits
  pub service : All (GetsBandwidth plan) flows

-- what is printed of a run: the report, and what happened behind it
abbrev pub Text : Type 0
Text = Plan → List Tick → WorldState → List PortFlow → List ℕ

-- what `run` and `ports` print
abbrev pub report_alone : Text
report_alone plan ticks world flows = report_text plan world ticks flows

-- what `run journal` and `ports journal` print
abbrev pub report_and_journal : Text
report_and_journal plan ticks world flows =
    report_text plan world ticks flows ++ journal_text plan ticks

-- what `run bounds` prints
abbrev pub report_and_bounds : Text
report_and_bounds plan ticks world flows =
    report_text plan world ticks flows ++ bound_lines plan flows

-- a run with these ticks, in such an order, the text that is printed of just this run, and what
-- holds of it
pub record IsReported (Lead : Plan → List Tick → WorldState → Type 0) (text_of : Text) (plan : Plan) (ticks : List Tick)
    (text : List ℕ) : Type 0 where
  pub world : WorldState
  pub changes : List PortChange
  pub flows : List PortFlow
  pub run : IsRun Lead plan ticks world changes flows
  pub printed : text ≡ text_of plan ticks world flows
  pub holds : HoldsThroughout plan ticks flows

-- The output of a command that runs a network, for an input of these octets, with the ticks of its
-- run: they are a scenario, and the text is what is printed of that run of it.
pub record RunOutput (Lead : Plan → List Tick → WorldState → Type 0) (text_of : Text) (octets : List ℕ) (ticks : List Tick)
    (text : List ℕ) : Type 0 where
  pub plan : Plan
  pub read : scenario_input octets ≡ Ok plan
  pub reported : IsReported Lead text_of plan ticks text

-- What `srpnet run capture N` prints: what crosses a link in a run of a scenario, as a capture file.
use Rattle.std.specs.Prelude.{◌≡◌, ℕ, ◌&&◌, nat_le, if◌then◌else◌, List, length, Result, Ok, Err}
use Rattle.srp_base.specs.Results.{◌>>=◌}
use Rattle.srp_base.specs.declared.ports.PortChange.{PortChange}
use Rattle.frame_flow.specs.declared.result.PortFlow.{PortFlow}
use Rattle.frame_flow.specs.Flow.{IsFlow}
use Rattle.topology_file.specs.Plan.{Plan}
use Rattle.scenario_frames.specs.Setting.{setting_of}
use Rattle.link_capture.specs.Captured.{captured}
use Rattle.world_core.specs.declared.journal.Tick.{Tick}
use Rattle.world_core.specs.{World.WorldState, Ticks.AreCanonicalTicks, Timeline.IsTimelineOf}
use Rattle.srpnet.specs.declared.outcome.Cause.{Cause}
use Rattle.srpnet.specs.declared.outcome.Cause.TheVariants.{NoLink}
use Rattle.srpnet.specs.{RunText.HoldsThroughout, ScenarioInput.scenario_input}

-- a scenario, where it has a link of this number
abbrev pub with_link : ℕ → Plan → Result Plan Cause
with_link n plan = if nat_le 1 n && nat_le n (length plan.tree.links) then Ok plan else Err NoLink

-- the scenario of some octets that has a link of this number, or the cause of their refusal
abbrev pub link_input : ℕ → List ℕ → Result Plan Cause
link_input n octets = do
  plan ← scenario_input octets
  with_link n plan

-- a run of a scenario with these ticks, the capture of a link in just this run, and what holds of
-- it, whatever flow its frames have
pub record IsCaptured (plan : Plan) (n : ℕ) (ticks : List Tick) (text : List ℕ) : Type 0 where
  pub world : WorldState
  pub changes : List PortChange
  pub lead : AreCanonicalTicks plan ticks world
  pub in_force : IsTimelineOf plan ticks changes
  pub printed : text ≡ captured plan ticks n
  pub holds : (flows : List PortFlow) → IsFlow (setting_of plan changes) flows → HoldsThroughout plan ticks flows

-- The output of `run capture` for a link's number and an input of these octets, with the ticks of its
-- run: they are a scenario that has the link, and the text is its capture in that run.
pub record CaptureOutput (n : ℕ) (octets : List ℕ) (ticks : List Tick) (text : List ℕ) : Type 0 where
  pub plan : Plan
  pub read : link_input n octets ≡ Ok plan
  pub captured : IsCaptured plan n ticks text

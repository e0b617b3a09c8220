-- What `srpnet plan` and `srpnet plan strict` print: what came of each wish in a run of a scenario,
-- what the network needs for all of them, and what is doubted; and how the latter ends.
use Rattle.std.specs.Prelude.{◌≡◌, ℕ, zero, suc, List, [], ◌∷◌, Ok}
use Rattle.srp_base.specs.Text.{whole_of}
use Rattle.srp_base.specs.declared.{bandwidth.Class.Class, ports.PortChange.PortChange}
use Rattle.frame_flow.specs.declared.result.PortFlow.{PortFlow}
use Rattle.frame_flow.specs.Flow.{IsFlow}
use Rattle.topology_file.specs.Plan.{Plan}
use Rattle.scenario_frames.specs.Setting.{setting_of}
use Rattle.scenario_delays.specs.{declared.facts.DelayFacts.DelayFacts, Facts.AreFacts}
use Rattle.port_needs.specs.Needs.{needs_text}
use Rattle.wishes.specs.declared.{wish.Wish.Wish, moments.Moments.Moments}
use Rattle.wishes.specs.{Needs.needs_of, Outlook.outlook_text, RunMoments.moments_of, Text.lines_of, Text.ungranted_in, Wishes.wishes_in}
use Rattle.world_core.specs.declared.journal.Tick.{Tick}
use Rattle.world_core.specs.{World.WorldState, Ticks.AreCanonicalTicks, Timeline.IsTimelineOf}
use Rattle.srpnet.specs.declared.outcome.Cause.{Cause}
use Rattle.srpnet.specs.declared.outcome.Cause.TheVariants.{Done, NotGranted}
use Rattle.srpnet.specs.{DelaysText.GoInTime, PlanInput.any_scenario_input, RunText.HoldsThroughout}

-- what is printed of a network at the end of a run with these moments, with these wishes, by what is
-- known of the run's delays
abbrev pub plan_words : Plan → WorldState → DelayFacts → List Wish → Moments → List ℕ
plan_words plan w facts wishes moments = whole_of (
    lines_of plan facts wishes ∷ needs_text plan (needs_of wishes) ∷ outlook_text plan w moments ∷ [])

-- a run of a scenario with these ticks, what is known of its delays, the text that is printed of just
-- these, and what holds of the run, whatever flow its frames have: each frame of a class goes in time
pub record IsPlanned (plan : Plan) (ticks : List Tick) (text : List ℕ) : Type 0 where
  pub world : WorldState
  pub changes : List PortChange
  pub lead : AreCanonicalTicks plan ticks world
  pub in_force : IsTimelineOf plan ticks changes
  pub facts : DelayFacts
  pub known : AreFacts plan changes facts
  pub printed : text ≡ plan_words plan world facts (wishes_in plan world) (moments_of plan ticks)
  pub holds : (flows : List PortFlow) → IsFlow (setting_of plan changes) flows → HoldsThroughout plan ticks flows
  pub in_time : (flows : List PortFlow) (class : Class) → IsFlow (setting_of plan changes) flows → GoInTime plan changes flows facts class

-- so many wishes aren't granted at the end of a run of a scenario with these ticks
pub record IsUngranted (plan : Plan) (ticks : List Tick) (count : ℕ) : Type 0 where
  pub world : WorldState
  pub lead : AreCanonicalTicks plan ticks world
  pub count_is : count ≡ ungranted_in (wishes_in plan world)

-- The output of `plan` for an input of these octets, with the ticks of its run: they are a scenario
-- or a plan that stands for one, and the text is what is printed of that run of it.
pub record PlanOutput (octets : List ℕ) (ticks : List Tick) (text : List ℕ) : Type 0 where
  pub plan : Plan
  pub read : any_scenario_input octets ≡ Ok plan
  pub planned : IsPlanned plan ticks text

-- how `plan strict` ends where so many wishes aren't granted
abbrev pub verdict_of : ℕ → Cause
verdict_of zero = Done
verdict_of (suc n) = NotGranted (suc n)

-- how it ends for an input of these octets, with the ticks of its run
pub record IsStrictVerdict (octets : List ℕ) (ticks : List Tick) (cause : Cause) : Type 0 where
  pub plan : Plan
  pub read : any_scenario_input octets ≡ Ok plan
  pub count : ℕ
  pub ungranted : IsUngranted plan ticks count
  pub cause_is : cause ≡ verdict_of count

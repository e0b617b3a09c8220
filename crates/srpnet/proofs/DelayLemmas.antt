-- A run whose delays are known keeps a class's bounds where these say so.
use Rattle.std.proofs.Common.{◌≡◌, ℕ, ◌<◌, true, List, length, sym, subst, arith}
use Rattle.std.specs.Prelude.{All}
use Rattle.std.proofs.lemmas.List.Elements.{All-weaker}
use Rattle.srp_base.specs.declared.{bandwidth.Class.Class, ports.PortChange.PortChange}
use Rattle.frame_flow.specs.declared.result.PortFlow.{PortFlow}
use Rattle.topology_file.specs.{Plan.Plan, Scenario.KeepsRules}
use Rattle.scenario_frames.specs.Setting.{AreBelowRates}
use Rattle.class_delays.specs.declared.delays.PortDelays.{PortDelays}
use Rattle.scenario_delays.specs.declared.facts.DelayFacts.{DelayFacts}
use Rattle.scenario_delays.specs.declared.facts.ClassBounds.TheVariants.{Reckoned}
use Rattle.scenario_delays.specs.{Answers.AllConform, Facts.AreFacts, Facts.IsBounded, Facts.bounds_of}
use Rattle.delay_report.specs.Text.{delays_text}
use Rattle.world_core.specs.declared.journal.Tick.{Tick}
use Rattle.world_core.specs.{Start.world_of, World.WorldState, Ticks.AreCanonicalTicks, Ticks.AreLegalTicks, Timeline.IsTimelineOf}
use Rattle.srpnet.specs.{HoldsThroughout, IsRun}
use Rattle.srpnet.proofs.RunLemmas.{ticks_from}
use Rattle.srpnet.specs.DelaysText.{GoInTime, AreSeenWithin, IsDelayed}

module _ (plan : Plan) where
  -- a run's changes are within its ticks
  within : (ticks : List Tick) (end : WorldState) (changes : List PortChange) → AreLegalTicks plan ticks end → IsTimelineOf plan ticks changes
      → All (λ c. c.tick < plan.ticks) changes
  within ticks end changes lead timeline =
      let all = ticks_from plan ticks 0 (world_of plan) end lead in
      All-weaker (λ c. c.tick < length ticks) (λ c. c.tick < plan.ticks) (λ c before. omega (arith, all, before)) changes timeline.are.before

  bounded : (ticks : List Tick) (end : WorldState) (changes : List PortChange) (facts : DelayFacts) → KeepsRules plan → AreBelowRates plan changes
      → AreLegalTicks plan ticks end → IsTimelineOf plan ticks changes → AreFacts plan changes facts → (class : Class) (ports : List PortDelays)
      → facts.steady ≡ true → AllConform class facts.answers → bounds_of class facts ≡ Reckoned ports
      → IsBounded plan changes facts class ports
  bounded ticks end changes facts kept below lead timeline known class ports steady conform reckoned =
      record {
        rules = kept;
        earlier = timeline.are.ascend;
        below = below;
        within = within ticks end changes lead timeline;
        known = known;
        reckoned = reckoned;
        steady = steady;
        conform = conform;
      }

  -- such a run, what is known and what holds, as the output of a command
  pub delayed_as : (ticks : List Tick) (world : WorldState) (changes : List PortChange) (flows : List PortFlow) (facts : DelayFacts)
      → KeepsRules plan → AreLegalTicks plan ticks world → AreBelowRates plan changes → IsRun AreCanonicalTicks plan ticks world changes flows → HoldsThroughout plan ticks flows → AreFacts plan changes facts
      → ((class : Class) → GoInTime plan changes flows facts class) → ((class : Class) → AreSeenWithin plan changes flows facts class)
      → (printed_ticks : List Tick) (text : List ℕ) → printed_ticks ≡ ticks → text ≡ delays_text (record { plan = plan; facts = facts; flows = flows }) world
      → IsDelayed plan printed_ticks text
  delayed_as ticks world changes flows facts kept legal below run holds known in_time seen printed_ticks text same printed =
      subst (λ ts. IsDelayed plan ts text) (sym same)
      (record {
        world = world;
        changes = changes;
        flows = flows;
        run = run;
        holds = holds;
        facts = facts;
        known = known;
        printed = printed;
        in_time = in_time;
        seen = seen;
        bounded = bounded ticks world changes facts kept below legal run.in_force known;
      })

-- What is known of the delays of a scenario's streams in a run.
use Rattle.std.specs.Prelude.{◌≡◌, ◌<◌, true, List, map, All, AllPairs, ◌⊎◌}
use Rattle.std.specs.{List.Sorted.IsPermutation, List.Sorted.IsSortedByKey, Ordering.nat_cmp}
use Rattle.srp_base.specs.declared.{bandwidth.Class.Class, bandwidth.Class.TheVariants.A, bandwidth.Class.TheVariants.B, ports.PortChange.PortChange}
use Rattle.frame_flow.specs.{Copies.all_places, Given.IsEarlier}
use Rattle.topology_file.specs.{Plan.Plan, Scenario.KeepsRules}
use Rattle.scenario_frames.specs.{PlanFrames.plan_frames, Setting.plan_rates, Setting.AreBelowRates}
use Rattle.delay_flow.specs.Rules.{KeepRules}
use Rattle.class_delays.specs.declared.delays.PortDelays.{PortDelays}
use Rattle.class_delays.specs.declared.delays.Unbounded.TheVariants as causes
use Rattle.class_delays.specs.{Causes.IsUnbounded, Given.ClassSetting, Given.class_traffic, Given.without_frames, Table.numbers_of, Table.place_of, Table.ListsFed}
use Rattle.scenario_delays.specs.declared.{facts.ClassBounds.ClassBounds, facts.DelayFacts.DelayFacts}
use Rattle.scenario_delays.specs.declared.facts.ClassBounds.TheVariants.{Reckoned, Unbounded}
use Rattle.scenario_delays.specs.{Answers.AllConform, Answers.AreAnswers, Steady.is_steady, Streams.streams_in}

-- what bounds of a class are asked of: the scenario without its frames, by the changes of a run, and
-- the streams of the class
abbrev pub class_setting : Plan → List PortChange → Class → ClassSetting
class_setting plan changes class =
    record {
      setting = without_frames plan.tree (plan_rates plan) changes plan.ticks;
      class = class;
      streams = streams_in class plan;
    }

-- what is reckoned for a class: of each port, link by link, the streams that are fed there, with
-- numbers that keep the rules of bounds
pub record AreReckonedFor (a : ClassSetting) (ports : List PortDelays) : Type 0 where
  pub places : map place_of ports ≡ all_places a.setting.tree.links a.setting.rates
  pub fed : All (ListsFed a) ports
  pub rules : KeepRules a.setting (class_traffic a.class) a.streams (numbers_of a ports)

-- the bounds of a class, or the port by which it has none: its slope there is too small for what
-- comes, or a number there is too large
abbrev pub AreBounds : ClassSetting → ClassBounds → Type 0
AreBounds a (Reckoned ports) = AreReckonedFor a ports
AreBounds a (Unbounded at) = IsUnbounded a (causes.Steep at) ⊎ IsUnbounded a (causes.Large at)

-- the bounds of a class
abbrev pub bounds_of : Class → DelayFacts → ClassBounds
bounds_of A facts = facts.class_a
bounds_of B facts = facts.class_b

-- what is known: whether the run is steady, what is said of each stream of class A or B in the order
-- of the file, the same ascending by StreamID, and the bounds of each class
pub record AreFacts (plan : Plan) (changes : List PortChange) (facts : DelayFacts) : Type 0 where
  pub steady : facts.steady ≡ is_steady changes (plan_frames plan)
  pub answers : AreAnswers plan facts.answers
  pub same : IsPermutation facts.answers facts.order
  pub order : IsSortedByKey (λ a. a.stream.id.0) nat_cmp facts.order
  pub class_a : AreBounds (class_setting plan changes A) facts.class_a
  pub class_b : AreBounds (class_setting plan changes B) facts.class_b

-- a run keeps a class's bounds, by what is known of it: its changes ascend by port and tick, are
-- within its ticks and keep slopes below the rates; it is steady, and no stream of the class is
-- known not to conform
pub record IsBounded (plan : Plan) (changes : List PortChange) (facts : DelayFacts) (class : Class) (ports : List PortDelays) : Type 0 where
  pub rules : KeepsRules plan
  pub earlier : AllPairs IsEarlier changes
  pub below : AreBelowRates plan changes
  pub within : All (λ c. c.tick < plan.ticks) changes
  pub known : AreFacts plan changes facts
  pub reckoned : bounds_of class facts ≡ Reckoned ports
  pub steady : facts.steady ≡ true
  pub conform : AllConform class facts.answers

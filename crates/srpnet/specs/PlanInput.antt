-- The scenario that a plan's file stands for, or that a scenario's file is; and what `srpnet expand`
-- prints of a plan's.
use Rattle.std.specs.Prelude.{◌≡◌, ℕ, if◌then◌else◌, List, Result, Ok}
use Rattle.toml.specs.Data.{Members}
use Rattle.toml_rules.specs.declared.rules.RuleErr.{RuleErr}
use Rattle.topology_file.specs.{Plan.Plan, Scenario.scenario_of, Scenario.KeepsRules}
use Rattle.plan_file.specs.{Plan.NetworkPlan, Rules.is_plan, Rules.plan_of, Rules.plan_scenario_of, Scenario.scenario_for}
use Rattle.srpnet.specs.declared.outcome.Cause.{Cause}
use Rattle.srpnet.specs.{Input.input_of, ScenarioInput.scenario_input}

-- of a table: a plan is told by what it lacks
abbrev pub any_scenario_of : Members → Result Plan RuleErr
any_scenario_of ms = if is_plan ms then plan_scenario_of ms else scenario_of ms

-- of some octets
abbrev pub any_scenario_input : List ℕ → Result Plan Cause
any_scenario_input octets = input_of any_scenario_of octets

-- the plan of some octets, or the cause of their refusal
abbrev pub plan_input : List ℕ → Result NetworkPlan Cause
plan_input octets = input_of plan_of octets

-- The output of `expand` for an input of these octets: they are a plan, and the text is a file that
-- reads as the scenario that it stands for, which has exactly the plan's nodes, links, streams and
-- events and keeps the rules of a scenario.
pub record IsExpanded (octets text : List ℕ) : Type 0 where
  pub plan : NetworkPlan
  pub read : plan_input octets ≡ Ok plan
  pub reads : scenario_input text ≡ Ok (scenario_for plan)
  pub kept : KeepsRules (scenario_for plan)

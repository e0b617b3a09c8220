-- The scenario of some octets, or the cause of their refusal.
use Rattle.std.specs.Prelude.{ℕ, List, Result}
use Rattle.topology_file.specs.{Plan.Plan, Scenario.scenario_of}
use Rattle.srpnet.specs.declared.outcome.Cause.{Cause}
use Rattle.srpnet.specs.Input.{input_of}

-- the scenario of these octets by the rules of topology_file
abbrev pub scenario_input : List ℕ → Result Plan Cause
scenario_input octets = input_of scenario_of octets

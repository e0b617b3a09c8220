use Rattle.std.proofs.Common.{◌≡◌, ℕ, ap}
use Rattle.std.specs.Prelude.{slice_get, Some}
use Rattle.topology_file.specs.Plan.{Plan}
use Rattle.node_core.specs.State.{NodeState}
use Rattle.world_core.specs.{world_of}
use Rattle.world_core.proofs.{Beginnings.new_at, Runs.RunLaws, Runs.run_leads, laws.every_event_of_a_run_may_happen.Goals.After-steps_keep_what_a_node_is}
use Rattle.world_core.proofs.laws.every_event_of_a_run_may_happen.Goals as goal

laws : After-steps_keep_what_a_node_is → RunLaws
laws c =
    record {
      keeps = c.every_event_keeps_it.ensures.event;
      ports = c.ports.ensures;
      clock = c.steps_keep_what_a_node_is.ensures.clock;
      asked = c.steps_keep_what_a_node_is.ensures.asked;
    }

begun : (plan : Plan) (x : ℕ) (s : NodeState) → slice_get (world_of plan).nodes x ≡ Some s → s.clock.0 ≡ 0
begun plan x s get = ap (λ (r : NodeState). r.clock.0) (new_at plan plan.nodes 1 x s get).is

pub returns-clause-can : goal.returns-clause-can
returns-clause-can c = λ plan ticks end rules legal. (run_leads (laws c) plan rules ticks end (c.a_scenario_begins_well.ensures plan rules) (begun plan) legal).0

pub returns-clause-named : goal.returns-clause-named
returns-clause-named c = λ plan ticks end rules legal. (run_leads (laws c) plan rules ticks end (c.a_scenario_begins_well.ensures plan rules) (begun plan) legal).1

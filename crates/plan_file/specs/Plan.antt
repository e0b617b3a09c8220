-- What a plan holds.
use Rattle.std.specs.Prelude.{List}
use Rattle.topology_file.specs.Plan.{Plan as ScenarioPlan}
use Rattle.plan_file.specs.declared.entries.PlanStream.{PlanStream}

-- the scenario of its network alone, in which nothing happens, and its streams, each at the place
-- of its number
pub record NetworkPlan : Type 0 where
  pub network : ScenarioPlan
  pub streams : List PlanStream

-- What a scenario asks a flow of, with what was in force at its ports over a run.
use Rattle.std.specs.Prelude.{List, map, All}
use Rattle.srp_base.specs.declared.{bandwidth.Rate.Rate, ports.PortChange.PortChange}
use Rattle.frame_flow.specs.{Copies.all_places, Flow.Setting, Given.HasSlopesBelow}
use Rattle.topology_file.specs.Plan.{Plan}
use Rattle.scenario_frames.specs.PlanFrames.{plan_frames}

-- the rates of the links, in order
abbrev pub plan_rates : Plan → List Rate
plan_rates plan = map (λ l. l.rate) plan.links

-- the scenario's tree, rates, frames and ticks, with the changes of a run
abbrev pub setting_of : Plan → List PortChange → Setting
setting_of plan changes = record {
  tree = plan.tree;
  rates = plan_rates plan;
  changes = changes;
  frames = plan_frames plan;
  ticks = plan.ticks;
}

-- at each port both slopes together are always less than the rate
abbrev pub AreBelowRates : Plan → List PortChange → Type 0
AreBelowRates plan changes = All (HasSlopesBelow changes) (all_places plan.tree.links (plan_rates plan))

-- A group scenario's fields as contracts see them.
use Rattle.group_file.specs.declared.scenario.GroupScenario.TheInside.{Inside}
use Rattle.group_file.specs.Plan.{GroupPlan}

-- what the fields of a group scenario hold
abbrev pub plan_of_fields : Inside → GroupPlan
plan_of_fields s = record {
  ticks = s.ticks;
  leave_time = s.leave_time;
  periodic = s.periodic;
  tree = s.tree;
  nodes = s.nodes;
  links = s.links;
  events = s.events;
}

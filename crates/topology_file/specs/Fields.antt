-- A scenario's fields as contracts see them.
use Rattle.topology_file.specs.declared.scenario.Scenario.TheInside.{Inside}
use Rattle.topology_file.specs.Plan.{Plan}

-- what the fields of a scenario hold
abbrev pub plan_of_fields : Inside → Plan
plan_of_fields s = record {
  ticks = s.ticks;
  leave_time = s.leave_time;
  periodic = s.periodic;
  domains = s.domains;
  tree = s.tree;
  nodes = s.nodes;
  links = s.links;
  streams = s.streams;
  events = s.events;
  frames = s.frames;
}

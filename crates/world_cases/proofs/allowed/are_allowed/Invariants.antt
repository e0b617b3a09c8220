use Rattle.std.proofs.Common.{drop}
use Rattle.std.specs.List.{AllByRecursion}
use Rattle.world_core.specs.During.{IsAllowed}
use Rattle.world_cases.proofs.allowed.are_allowed.Given as goal

-- where it is so of the events that are left, it is so of all
abbrev pub invariant-loop-event : goal.invariant-loop-event
invariant-loop-event l = AllByRecursion (IsAllowed l.world.tree) (drop l.event-index l.events) → AllByRecursion (IsAllowed l.world.tree) l.events

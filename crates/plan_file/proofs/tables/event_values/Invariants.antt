use Rattle.std.proofs.Common.{◌≡◌, ◌++◌, map, drop}
use Rattle.toml.specs.Data.{table}
use Rattle.toml.specs.View.{view}
use Rattle.plan_file.specs.{event_members}
use Rattle.plan_file.proofs.tables.event_values.Given as goal

-- the tables so far with those of the entries that are left are the whole
abbrev pub invariant-loop-event : goal.invariant-loop-event
invariant-loop-event l =
    map view l.values.items ++ map (λ x. table (event_members l.nodes l.streams x)) (drop l.event-index l.events) ≡ map (λ x. table (event_members l.nodes l.streams x)) l.events

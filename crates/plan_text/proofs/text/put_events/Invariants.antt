use Rattle.std.proofs.Common.{◌≡◌, ◌++◌, drop}
use Rattle.std.specs.Prelude.{flat_map}
use Rattle.plan_text.specs.Text.{event_table}
use Rattle.plan_text.proofs.text.put_events.Given as goal

-- the text so far with the tables of the events that are left is the whole
abbrev pub invariant-loop-event : goal.invariant-loop-event
invariant-loop-event l = l.out.items ++ flat_map (event_table l.nodes l.streams) (drop l.event-index l.events) ≡ l.initial.out.items ++ flat_map (event_table l.nodes l.streams) l.events

use Rattle.std.proofs.Common.{◌≡◌, ◌++◌, drop}
use Rattle.std.specs.Prelude.{flat_map}
use Rattle.srp_report.specs.{answer_line}
use Rattle.srp_report.proofs.journal.put_events.Given as goal

-- the text so far with the lines of the events that are left is the whole
abbrev pub invariant-loop-event : goal.invariant-loop-event
invariant-loop-event l =
    l.out.items ++ flat_map (answer_line l.t) (drop l.event-index l.events)
    ≡ l.fn.out.items ++ flat_map (answer_line l.t) l.events

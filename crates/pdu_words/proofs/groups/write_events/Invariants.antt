use Rattle.std.proofs.Common.{◌≡◌, ◌++◌, drop, string_bytes}
use Rattle.std.specs.Prelude.{flat_map}
use Rattle.pdu_words.specs.{mac_line}
use Rattle.pdu_words.proofs.groups.write_events.Given as goal

-- the text so far with the lines of the events that are left is the whole
abbrev pub invariant-loop-event : goal.invariant-loop-event
invariant-loop-event l =
    string_bytes l.out ++ flat_map mac_line (drop l.event-index l.events)
    ≡ string_bytes l.initial.out ++ flat_map mac_line l.events

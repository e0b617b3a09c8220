use Rattle.std.proofs.Common.{◌≡◌, ◌+◌, ◌≤◌, ◌++◌, drop, length, string_bytes}
use Rattle.std.specs.Prelude.{flat_map, filter}
use Rattle.replay_words.specs.{double_text, is_double}
use Rattle.replay_words.proofs.doubles.write_among.Given as goal

-- the text so far with what is said of the events that are left is the whole, and so it is with
-- their number
abbrev pub invariant-loop-event : goal.invariant-loop-event
invariant-loop-event l = record {
  said : string_bytes l.out ++ flat_map (double_text l.at l.who l.streams.keys) (drop l.event-index l.events)
      ≡ string_bytes l.initial.out ++ flat_map (double_text l.at l.who l.streams.keys) l.events;
  counted : l.count + length (filter (is_double l.streams.keys) (drop l.event-index l.events))
      ≡ length (filter (is_double l.streams.keys) l.events);
  few : l.count ≤ l.event-index;
}

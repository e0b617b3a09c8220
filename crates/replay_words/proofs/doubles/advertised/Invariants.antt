use Rattle.std.proofs.Common.{◌≡◌, drop}
use Rattle.std.specs.Prelude.{flat_map}
use Rattle.attribute_propagation.specs.Dirty.{all_marked}
use Rattle.msrp.specs.Part.{stream_cmp}
use Rattle.replay_words.specs.{advertised_in, advertised}
use Rattle.replay_words.proofs.doubles.advertised.Given as goal

-- the streams that are kept, with those of the events that are left, are all
abbrev pub invariant-loop-event : goal.invariant-loop-event
invariant-loop-event l =
    all_marked stream_cmp (flat_map advertised_in (drop l.event-index l.events)) l.streams.keys ≡ advertised l.events

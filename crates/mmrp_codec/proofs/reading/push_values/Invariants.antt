use Rattle.std.proofs.Common.{◌≡◌, ◌+◌, ◌++◌, drop}
use Rattle.mrpdu_codec.specs.Raw.{attr_in}
use Rattle.mmrp_codec.specs.{events_from}
use Rattle.mmrp_codec.proofs.reading.push_values.Given as goal

abbrev pub invariant-loop-i : goal.invariant-loop-i
invariant-loop-i l =
    l.out.items ++ events_from (l.first + l.i) (drop l.i (attr_in l.raw).events)
    ≡ l.initial.out.items ++ events_from l.first (attr_in l.raw).events

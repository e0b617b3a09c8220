use Rattle.std.proofs.Common.{◌≡◌, take}
use Rattle.std.specs.List.{AllByRecursion}
use Rattle.msrp_codec.specs.{IsFirst, value_of, counts_of, total_of}
use Rattle.msrp_codec.proofs.counts.counts_of.Given as goal

abbrev pub invariant-loop-event : goal.invariant-loop-event
invariant-loop-event l = record {
  counts : l.counts ≡ counts_of (take l.event-index l.events);
  total : total_of l.counts ≡ l.event-index;
  in_range : AllByRecursion (λ x. IsFirst (value_of x.1 x.2)) (take l.event-index l.events);
}

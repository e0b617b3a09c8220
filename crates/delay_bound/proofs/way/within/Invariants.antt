-- The sum so far and the rest are all.
use Rattle.std.proofs.Common.{◌≡◌, ◌+◌, ◌^◌, ◌<◌, drop}
use Rattle.delay_bound.specs.Waits.{within_of}
use Rattle.delay_bound.proofs.way.within.Given as goal

abbrev pub invariant-loop-hop : goal.invariant-loop-hop
invariant-loop-hop l =
    record {
      whole : l.sum + within_of l.least (drop l.hop-index l.hops) ≡ within_of l.least l.hops;
      small : l.sum < 2 ^ 128;
    }

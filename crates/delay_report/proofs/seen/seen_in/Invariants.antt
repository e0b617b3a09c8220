use Rattle.std.proofs.Common.{◌≡◌, ◌+◌, ◌≤◌, drop, length, max}
use Rattle.std.specs.Prelude.{filter_map}
use Rattle.delay_report.specs.Seen.{longest_of, taken_in}
use Rattle.delay_report.proofs.seen.seen_in.Given as goal

-- those seen so far and those of the rest are all
abbrev pub invariant-loop-number : goal.invariant-loop-number
invariant-loop-number l =
    record {
      few : l.seen.frames ≤ l.number-index;
      count : l.seen.frames + length (filter_map (taken_in l.stream l.frames l.flow.input.rate) (drop l.number-index l.flow.fates))
          ≡ length (filter_map (taken_in l.stream l.frames l.flow.input.rate) l.flow.fates);
      longest : max l.seen.longest (longest_of (filter_map (taken_in l.stream l.frames l.flow.input.rate) (drop l.number-index l.flow.fates)))
          ≡ longest_of (filter_map (taken_in l.stream l.frames l.flow.input.rate) l.flow.fates);
    }

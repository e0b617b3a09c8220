use Rattle.std.proofs.Common.{◌≡◌, ◌++◌, drop}
use Rattle.std.specs.Prelude.{flat_map}
use Rattle.srp_report.specs.{line_from}
use Rattle.srp_report.proofs.flows.put_lines.Given as goal

-- the text so far with the lines of the departures that are left is the whole
abbrev pub invariant-loop-d : goal.invariant-loop-d
invariant-loop-d l =
    l.out.items ++ flat_map (line_from l.start) (drop l.d-index l.sent)
    ≡ l.fn.out.items ++ flat_map (line_from l.start) l.sent

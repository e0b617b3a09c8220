use Rattle.std.proofs.Common.{◌≡◌, ◌++◌, drop}
use Rattle.std.specs.Prelude.{flat_map}
use Rattle.srp_report.specs.{booked_line}
use Rattle.srp_report.proofs.registered.put_entries.Given as goal

-- the text so far with the lines of the bookings that are left is the whole
abbrev pub invariant-loop-entry : goal.invariant-loop-entry
invariant-loop-entry l =
    l.out.items ++ flat_map (booked_line l.port) (drop l.entry-index l.entries)
    ≡ l.fn.out.items ++ flat_map (booked_line l.port) l.entries

use Rattle.std.proofs.Common.{◌≡◌, ◌++◌, drop}
use Rattle.std.specs.Prelude.{flat_map}
use Rattle.wishes.specs.{undeclared_at}
use Rattle.wishes.proofs.doubts.put_undeclared.Given as goal

-- the text so far with the lines of the stations that are left is the whole
abbrev pub invariant-loop-i : goal.invariant-loop-i
invariant-loop-i l =
    l.out.items ++ flat_map (undeclared_at l.scenario l.world l.entry) (drop l.i l.stations)
    ≡ l.fn.out.items ++ flat_map (undeclared_at l.scenario l.world l.entry) l.stations

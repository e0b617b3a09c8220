use Rattle.std.proofs.Common.{◌≡◌, ◌++◌, drop, map}
use Rattle.wishes.specs.{wish_of}
use Rattle.wishes.proofs.wish.push_each.Given as goal

-- the wishes so far with those of the stations that are left are all
abbrev pub invariant-loop-i : goal.invariant-loop-i
invariant-loop-i l =
    l.wishes.items ++ map (wish_of l.world l.place l.entry) (drop l.i l.stations)
    ≡ l.fn.wishes.items ++ map (wish_of l.world l.place l.entry) l.stations

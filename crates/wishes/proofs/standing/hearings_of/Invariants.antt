use Rattle.std.proofs.Common.{◌≡◌, ◌++◌, drop}
use Rattle.wishes.specs.{hearings_in}
use Rattle.wishes.proofs.standing.hearings_of.Given as goal

-- what is heard so far with what is heard of the streams that are left is all
abbrev pub invariant-loop-entry : goal.invariant-loop-entry
invariant-loop-entry l =
    l.row.items ++ hearings_in (drop l.entry-index l.streams) l.node.state.streams ≡ hearings_in l.streams l.node.state.streams

use Rattle.std.proofs.Common.{◌≡◌, drop}
use Rattle.wishes.specs.{said_of}
use Rattle.wishes.proofs.within.said_of.Given as goal

-- what is found among those that are left is what is found among all
abbrev pub invariant-loop-said : goal.invariant-loop-said
invariant-loop-said l = said_of l.stream (drop l.said-index l.answers) ≡ said_of l.stream l.answers

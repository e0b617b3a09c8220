use Rattle.std.proofs.Common.{◌≡◌, drop}
use Rattle.msrp.specs.{talk_of}
use Rattle.msrp.proofs.stream.talk_of.Given as goal

-- the first of those that are left is the first of all
abbrev pub invariant-loop-talker : goal.invariant-loop-talker
invariant-loop-talker l = talk_of l.stream (drop l.talker-index l.talks) ≡ talk_of l.stream l.talks

use Rattle.std.proofs.Common.{length}
use Rattle.srpnet.proofs.LineLemmas.{IsSearch}
use Rattle.srpnet.proofs.audit.parts.parted_at.Given as goal

abbrev pub invariant-loop-rest : goal.invariant-loop-rest
invariant-loop-rest l = IsSearch l.word l.text l.rest l.lines

abbrev pub decreases-loop-rest : goal.decreases-loop-rest
decreases-loop-rest l = length l.rest

use Rattle.std.proofs.Common.{drop}
use Rattle.network_laws.specs.{first_refusal, refusal_at}
use Rattle.network_laws.proofs.Paths.{Checked}
use Rattle.network_laws.proofs.streams.refusal_along.Given as goal

-- the first refusal of all is the first of those that are left
abbrev pub invariant-loop-port : goal.invariant-loop-port
invariant-loop-port l = Checked l.world (first_refusal (refusal_at l.world l.stream l.failure)) l.path (drop l.port-index l.path)

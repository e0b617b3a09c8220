use Rattle.std.proofs.Common.{◌≡◌, length}
use Rattle.srpnet.proofs.PrintLemmas.{IsOut}
use Rattle.srpnet.proofs.top.print.Given as goal

abbrev pub invariant-loop-piece : goal.invariant-loop-piece
invariant-loop-piece g l =
    IsOut (g.O.Sink.held l.initial.out) (g.O.Sink.held l.out) l.fn.text l.rest l.written × (g.O.Sink.faults l.out ≡ g.O.Sink.faults l.initial.out)

abbrev pub decreases-loop-piece : goal.decreases-loop-piece
decreases-loop-piece g l = length l.rest

use Rattle.link_capture.proofs.RunLemmas.{IsCapturedTo}
use Rattle.link_capture.proofs.capture.link_capture.Given as goal

abbrev pub invariant-loop-t : goal.invariant-loop-t
invariant-loop-t l = IsCapturedTo l.scenario l.fn.link.0 l.run.journal.ticks l.run.world l.t l.world l.cursor l.out.items

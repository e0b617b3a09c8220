use Rattle.port_ledger.proofs.TotalsLemmas.{WalksAt}
use Rattle.port_ledger.proofs.totals.totals_of.Given as goal

abbrev pub invariant-loop-x : goal.invariant-loop-x
invariant-loop-x l = WalksAt l.moment.0 l.entries l.class_a l.class_b l.new_count l.x-index

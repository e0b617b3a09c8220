use Rattle.port_ledger.proofs.Unwanting.{missing_out, unbooked_stays, wanted_again}
use Rattle.port_ledger.proofs.laws.idle_steps_only_pass_time.Goals as goal

pub returns-clause-wanted : goal.returns-clause-wanted
returns-clause-wanted c = λ book now want. wanted_again book now want (c.importance_is_an_order.ensures now)

pub returns-clause-unwanted : goal.returns-clause-unwanted
returns-clause-unwanted c = λ book now stream. missing_out book now stream (c.importance_is_an_order.ensures now)

pub returns-clause-unbooked : goal.returns-clause-unbooked
returns-clause-unbooked c = λ book now stream. unbooked_stays book now stream (c.importance_is_an_order.ensures now)

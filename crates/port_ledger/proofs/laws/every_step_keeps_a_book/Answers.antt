use Rattle.port_ledger.proofs.Keeping.{kept_clocked, kept_unwanted, kept_wanted}
use Rattle.port_ledger.proofs.laws.every_step_keeps_a_book.Goals as goal

pub returns-clause-wanted : goal.returns-clause-wanted
returns-clause-wanted c = λ book now want. kept_wanted book now want (c.importance_is_an_order.ensures now)

pub returns-clause-unwanted : goal.returns-clause-unwanted
returns-clause-unwanted c = λ book now stream. kept_unwanted book now stream (c.importance_is_an_order.ensures now)

pub returns-clause-clocked : goal.returns-clause-clocked
returns-clause-clocked c = kept_clocked

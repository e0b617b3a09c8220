use Rattle.port_ledger.proofs.{PerStream.wants_wanted, Unwanting.wants_left}
use Rattle.port_ledger.proofs.laws.other_wants_stay.Goals as goal

pub returns-clause-wanted : goal.returns-clause-wanted
returns-clause-wanted c = λ book now want s. wants_wanted now book.caps book.entries want s

pub returns-clause-unwanted : goal.returns-clause-unwanted
returns-clause-unwanted c = λ book now stream s. wants_left now book.caps book.entries stream s

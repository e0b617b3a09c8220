use Rattle.credit_shaper.proofs.StepLemmas.{line-first, line-next, left-next, left_most}
use Rattle.credit_shaper.proofs.laws.the_line_goes_on.Goals as goal

pub returns-clause-first : goal.returns-clause-first
returns-clause-first c = line-first

pub returns-clause-line : goal.returns-clause-line
returns-clause-line c = line-next

pub returns-clause-left : goal.returns-clause-left
returns-clause-left c = left-next

pub returns-clause-most : goal.returns-clause-most
returns-clause-most c = left_most

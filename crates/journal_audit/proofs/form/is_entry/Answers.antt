use Rattle.std.proofs.Common.{arith}
use Rattle.journal_audit.proofs.FormLemmas.{numeral_made, numeral_not}
use Rattle.journal_audit.proofs.form.is_entry.Goals as goal

pub returns-then-number-ge1 : goal.returns-then-number-ge1
returns-then-number-ge1 c =
    numeral_made c.args.events c.in-Some.number c.args.digits.now (omega arith) (omega arith) c.in-Some.ensures.some c.if-number-ge1.true

pub returns-else-number-ge1 : goal.returns-else-number-ge1
returns-else-number-ge1 c =
    numeral_not c.args.events c.in-Some.number c.args.digits.now (omega arith) (omega arith) c.in-Some.ensures.some c.if-number-ge1.false

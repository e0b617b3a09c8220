use Rattle.std.proofs.Common.{◌-◌, arith}
use Rattle.journal_audit.proofs.FormLemmas.{formed_more, unformed_here}
use Rattle.journal_audit.proofs.form.first_unformed.Goals as goal

pub returns-in_default-clause-some : goal.returns-in_default-clause-some
returns-in_default-clause-some c =
    let count = c.loop-rest.invariant.count in (
      omega (arith, count),
      unformed_here c.args.known.now c.args.text.now c.loop-rest.rest.now c.loop-rest.tick c.loop-rest.line c.first_line.result.0.now c.first_line.result.1.now
          c.loop-rest.invariant c.first_line.ensures.lines c.in_default.ensures.none (c.loop-rest.line - 1) (omega (arith, count)),
    )

pub loop-rest-preserved : goal.loop-rest-preserved
loop-rest-preserved c =
    let found = c.in-Some.ensures.some in
    formed_more c.args.known.now c.args.text.now c.loop-rest.rest.now c.loop-rest.tick c.loop-rest.line c.first_line.result.0.now c.first_line.result.1.now
    c.loop-rest.invariant c.first_line.ensures.lines c.in-Some.next c.first_line.ensures.less found.0 found.1 found.2 found.3

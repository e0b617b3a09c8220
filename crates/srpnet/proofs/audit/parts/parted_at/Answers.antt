use Rattle.std.proofs.Common.{sym, ◌∙◌}
use Rattle.srpnet.proofs.LineLemmas.{first_and_rest, search_goes_on, search_ends}
use Rattle.srpnet.proofs.audit.parts.parted_at.Goals as goal

pub returns-then-is_line-clause-some : goal.returns-then-is_line-clause-some
returns-then-is_line-clause-some c =
    search_ends c.args.word.now c.args.text.now c.loop-rest.rest.now c.first_line.result.0.now c.first_line.result.1.now c.loop-rest.lines
    c.loop-rest.invariant c.first_line.ensures.lines (sym c.is_line.ensures ∙ c.if-is_line.true)

pub loop-rest-preserved : goal.loop-rest-preserved
loop-rest-preserved c =
    search_goes_on c.args.word.now c.args.text.now c.loop-rest.rest.now c.first_line.result.0.now c.first_line.result.1.now c.loop-rest.lines
    c.loop-rest.invariant c.first_line.ensures.lines
    (first_and_rest c.loop-rest.rest.now c.first_line.result.0.now c.first_line.result.1.now c.first_line.ensures.lines)
    c.first_line.ensures.less (sym c.is_line.ensures ∙ c.if-is_line.false)

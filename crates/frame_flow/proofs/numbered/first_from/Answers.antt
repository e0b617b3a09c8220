use Rattle.std.proofs.Common.{arith}
use Rattle.frame_flow.proofs.NumberLemmas.{begun-before, begun-after}
use Rattle.frame_flow.proofs.numbered.first_from.Goals as goal

pub returns-then-begins_at-clause-within : goal.returns-then-begins_at-clause-within
returns-then-begins_at-clause-within g c = omega (arith, (c.begins_at.ensures.here c.if-begins_at.true).0)

pub returns-then-begins_at-clause-before : goal.returns-then-begins_at-clause-before
returns-then-begins_at-clause-before g c =
    begun-before g.T.Numbered.number c.args.items.now c.args.number c.args.guess c.requires (c.begins_at.ensures.here c.if-begins_at.true).0
    (c.begins_at.ensures.before c.if-begins_at.true)

pub returns-then-begins_at-clause-after : goal.returns-then-begins_at-clause-after
returns-then-begins_at-clause-after g c =
    begun-after g.T.Numbered.number c.args.items.now c.args.number c.args.guess c.requires (c.begins_at.ensures.here c.if-begins_at.true).1

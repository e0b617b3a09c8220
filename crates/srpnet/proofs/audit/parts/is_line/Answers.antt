use Rattle.std.proofs.Common.{◌≡◌, refl}
use Rattle.srpnet.proofs.LineLemmas.{line_with_feed, line_without_feed}
use Rattle.srpnet.proofs.audit.parts.is_line.Goals as goal

pub returns-then-eq : goal.returns-then-eq
returns-then-eq c = rw (line_with_feed c.args.word.now c.args.line.now c.in-Some.front.now c.in-Some.ensures.some, ← c.eq.ensures, c.if-eq.true) refl

pub returns-else-eq : goal.returns-else-eq
returns-else-eq c =
    rw (line_with_feed c.args.word.now c.args.line.now c.in-Some.front.now c.in-Some.ensures.some, ← c.eq.ensures, c.if-eq.false)
    c.eq-else-eq.ensures

pub returns-in-None : goal.returns-in-None
returns-in-None c = rw (line_without_feed c.args.word.now c.args.line.now c.in-None.ensures.none) c.eq-in-None.ensures

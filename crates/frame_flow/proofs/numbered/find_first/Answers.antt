use Rattle.std.proofs.Common.{Some, ap, sym, ◌∙◌}
use Rattle.std.proofs.lemmas.Bool.{false≢true}
use Rattle.frame_flow.proofs.NumberLemmas.{found-first, unfound-first}
use Rattle.frame_flow.proofs.numbered.find_first.Goals as goal

pub returns-then-is_at : goal.returns-then-is_at
returns-then-is_at g c =
    ap Some c.index-items-at.is
    ∙ sym (found-first g.T.Numbered.number c.args.items.now c.args.number c.first_from-at.result c.index-items-at.result c.first_from-at.ensures.before (c.is_at.ensures.0 c.if-is_at.true))

pub returns-else-is_at : goal.returns-else-is_at
returns-else-is_at g c =
    let at = c.first_from-at.ensures in
    sym (unfound-first g.T.Numbered.number c.args.items.now c.args.number c.first_from-at.result c.requires at.before at.after
    (λ here. false≢true (sym c.if-is_at.false ∙ c.is_at.ensures.1 here)))

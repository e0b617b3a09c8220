use Rattle.std.proofs.Common.{◌≡◌, [], ◌∷◌, ◌++◌, take, refl, subst, arith}
use Rattle.mrp_participant.specs.{rows_as_one}
use Rattle.mrp_participant.proofs.MergeLemmas.{Ascends-front, back-more, back-all}
use Rattle.mrp_participant.proofs.hearing.merge_back.Goals as goal

pub last_row-row-requires-clause-heard : goal.last_row-row-requires-clause-heard
last_row-row-requires-clause-heard g c = Ascends-front g.K.Ord.cmp c.args.heard.now _ c.requires.heard

pub loop-j-preserved : goal.loop-j-preserved
loop-j-preserved g c =
    back-more g.K.Ord.cmp c.args.heard.now _ _ _ _ _ c.loop-j.invariant _ _ _ c.last_row-row.ensures.within.0 c.last_row-row.ensures.within.1
    (subst (λ rows. rows_as_one g.K.Ord.cmp (take c.loop-j.j c.args.heard.now) (take c.loop-j.i rows)
    ≡ rows_as_one g.K.Ord.cmp (take c.last_row-row.result.2 c.args.heard.now) (take c.last_row-row.result.1 rows)
    ++ c.last_row-row.result.0 ∷ []) c.as_slice.ensures.value c.last_row-row.ensures.last) _ refl

pub returns : goal.returns
returns g c = back-all g.K.Ord.cmp c.args.heard.now _ _ _ _ _ c.loop-j.invariant (let none = c.loop-j-test.false in omega arith)

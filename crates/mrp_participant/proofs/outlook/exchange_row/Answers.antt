use Rattle.std.proofs.Common.{◌∙◌, ◌++◌, refl, ap, take, drop, suc, arith}
use Rattle.std.specs.List.{cons_option}
use Rattle.mrp_participant.proofs.OutlookLemmas.{replaced-some, replaced-none, room-at, without-at}
use Rattle.mrp_participant.proofs.outlook.exchange_row.Goals as goal

pub without-others-requires : goal.without-others-requires
without-others-requires g c = (without-at c.args.outlook.now c.args.rows.now.items c.args.at c.index.result.now c.requires.within c.index.ensures c.requires.tells).1

pub with-requires : goal.with-requires
with-requires g c =
    room-at c.args.outlook.now _ c.args.rows.now.items c.args.at c.index.result.now c.requires.within c.index.ensures
    (omega (arith, c.args.rows.now.small, c.args.rows.now.ok)) c.requires.tells c.without-others.ensures

pub returns-in-Some-clause-tells : goal.returns-in-Some-clause-tells
returns-in-Some-clause-tells g c =
    replaced-some c.args.outlook.now _ c.with.result c.args.rows.now.items _ c.args.at c.index.result.now
    c.in-Some.row c.requires.within c.index.ensures c.requires.tells c.without-others.ensures c.with.ensures
    (c.replace_at.ensures.rows ∙ ap (λ new. take c.args.at c.args.rows.now.items ++ cons_option new (drop (suc c.args.at) c.args.rows.now.items)) c.in-Some.is)

pub returns-in-None-clause-tells : goal.returns-in-None-clause-tells
returns-in-None-clause-tells g c =
    replaced-none c.args.outlook.now _ c.without-others.result c.args.rows.now.items _ c.args.at c.index.result.now c.requires.within c.index.ensures c.requires.tells c.without-others.ensures refl
    (c.replace_at.ensures.rows ∙ ap (λ new. take c.args.at c.args.rows.now.items ++ cons_option new (drop (suc c.args.at) c.args.rows.now.items)) c.in-None.is)

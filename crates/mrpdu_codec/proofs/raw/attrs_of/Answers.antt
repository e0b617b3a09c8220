use Rattle.std.proofs.Common.{ap, ◌∙◌, map}
use Rattle.std.proofs.lemmas.List.{take_all}
use Rattle.mrpdu_codec.specs.{attr_in}
use Rattle.mrpdu_codec.proofs.Loops.{mapped_more, of_error}
use Rattle.mrpdu_codec.proofs.raw.attrs_of.Goals as goal

pub returns-in_err-attrs : goal.returns-in_err-attrs
returns-in_err-attrs c = of_error c.from_residual.result _ _ c.from_residual.ensures.1

pub loop-raw-init : goal.loop-raw-init
loop-raw-init c = c.in_ok-attrs.ensures.items

pub bounds-raws-raw-index : goal.bounds-raws-raw-index
bounds-raws-raw-index c = c.loop-raw-test.true

pub returns-in_err-attr : goal.returns-in_err-attr
returns-in_err-attr c = of_error c.from_residual-in_err-attr.result _ _ c.from_residual-in_err-attr.ensures.1

pub returns-in_err-push : goal.returns-in_err-push
returns-in_err-push c = of_error c.from_residual-in_err-push.result _ _ c.from_residual-in_err-push.ensures.1

pub loop-raw-preserved : goal.loop-raw-preserved
loop-raw-preserved c = mapped_more attr_in c.args.raws.now _ _ _ _ _ c.loop-raw-test.true c.loop-raw.invariant c.in_ok-attr.ensures c.in_ok-push.ensures.items

pub returns : goal.returns
returns c = c.loop-raw.invariant ∙ ap (map attr_in) (take_all _ c.args.raws.now c.loop-raw-test.false)

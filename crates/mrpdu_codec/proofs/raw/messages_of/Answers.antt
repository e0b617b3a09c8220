use Rattle.std.proofs.Common.{ap, ◌∙◌, map}
use Rattle.std.proofs.lemmas.List.{take_all}
use Rattle.mrpdu_codec.specs.{message_in}
use Rattle.mrpdu_codec.proofs.Loops.{mapped_more, of_error}
use Rattle.mrpdu_codec.proofs.raw.messages_of.Goals as goal

pub returns-in_err-messages : goal.returns-in_err-messages
returns-in_err-messages c = of_error c.from_residual.result _ _ c.from_residual.ensures.1

pub loop-raw-init : goal.loop-raw-init
loop-raw-init c = c.in_ok-messages.ensures.items

pub bounds-raws-raw-index : goal.bounds-raws-raw-index
bounds-raws-raw-index c = c.loop-raw-test.true

pub returns-in_err-message : goal.returns-in_err-message
returns-in_err-message c = of_error c.from_residual-in_err-message.result _ _ c.from_residual-in_err-message.ensures.1

pub returns-in_err-push : goal.returns-in_err-push
returns-in_err-push c = of_error c.from_residual-in_err-push.result _ _ c.from_residual-in_err-push.ensures.1

pub loop-raw-preserved : goal.loop-raw-preserved
loop-raw-preserved c = mapped_more message_in c.args.raws.now _ _ _ _ _ c.loop-raw-test.true c.loop-raw.invariant (c.in_ok-message.ensures ∙ ap message_in c.raw-item.is) c.in_ok-push.ensures.items

pub returns : goal.returns
returns c = c.loop-raw.invariant ∙ ap (map message_in) (take_all _ c.args.raws.now c.loop-raw-test.false)

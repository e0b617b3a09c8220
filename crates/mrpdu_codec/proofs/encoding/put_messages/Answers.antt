use Rattle.std.proofs.Common.{◌++◌, ap, sym, ◌∙◌, map}
use Rattle.std.proofs.lemmas.List.{append-nil, take_all}
use Rattle.mrpdu_codec.specs.{message_octets, messages_octets, message_for, message_fits}
use Rattle.mrpdu_codec.proofs.Loops.{spelled_more, all-at, of_error}
use Rattle.mrpdu_codec.proofs.encoding.put_messages.Goals as goal

pub loop-message-init : goal.loop-message-init
loop-message-init c = sym (append-nil c.args.out.now.items)

pub put_message-requires : goal.put_message-requires
put_message-requires c = all-at (message_fits c.args.form) c.args.messages.now _ _ c.requires c.loop-message-test.true c.message-item.is

pub returns-in_err-put_message : goal.returns-in_err-put_message
returns-in_err-put_message c = of_error c.from_residual.result _ _ c.from_residual.ensures.1

pub loop-message-preserved : goal.loop-message-preserved
loop-message-preserved c =
    spelled_more message_octets
    (message_for c.args.form) c.args.out.now.items c.args.messages.now _ _ _ _ c.loop-message-test.true c.message-item.is c.loop-message.invariant
    c.in_ok-put_message.ensures

pub returns : goal.returns
returns c = c.loop-message.invariant ∙ ap (λ ms. c.args.out.now.items ++ messages_octets (map (message_for c.args.form) ms)) (take_all _ c.args.messages.now c.loop-message-test.false)

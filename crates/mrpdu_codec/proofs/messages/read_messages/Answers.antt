use Rattle.std.proofs.Common.{◌≡◌, map, Some, Ok}
use Rattle.std.proofs.lemmas.Result.{err_from_is_err_and}
use Rattle.mrpdu_codec.specs.{message_in, messages_in, type_at}
use Rattle.mrpdu_codec.proofs.MessageLoops.{step_falls, goes_on, fails_at_type, fails_in_message, ends}
use Rattle.mrpdu_codec.proofs.messages.read_messages.Goals as goal

pub returns-in_err-next_type : goal.returns-in_err-next_type
returns-in_err-next_type c =
    let p = err_from_is_err_and c.from_residual.result c.from_residual.ensures.1 in
    rw (p.1, p.2) (fails_at_type c.args.form _ (map message_in c.more.found.items) c.more.rest.now c.more.invariant c.in_err-next_type.field-0.0 c.in_err-next_type.ensures)

pub returns-in-None : goal.returns-in-None
returns-in-None c = ends c.args.form _ (map message_in c.more.found.items) c.more.rest.now c.more.invariant (rw c.in-None.is at c.in_ok-next_type.ensures)

pub returns-in_err-message-in-Some : goal.returns-in_err-message-in-Some
returns-in_err-message-in-Some c =
    let p = err_from_is_err_and c.from_residual-in_err-message-in-Some.result c.from_residual-in_err-message-in-Some.ensures.1 in
    let t : type_at c.more.rest.now ≡ Ok (Some (c.in-Some.kind, c.in-Some.after.now)) = rw c.in-Some.is at c.in_ok-next_type.ensures in
    rw (p.1, p.2) (fails_in_message c.args.form _
    (map message_in c.more.found.items) c.more.rest.now c.more.invariant c.in-Some.kind c.in-Some.after.now c.in_err-message-in-Some.field-0.0 t
    c.in_err-message-in-Some.ensures)

pub more-smaller : goal.more-smaller
more-smaller c =
    let t : type_at c.more.rest.now ≡ Ok (Some (c.in-Some.kind, c.in-Some.after.now)) = rw c.in-Some.is at c.in_ok-next_type.ensures in
    step_falls c.args.form c.more.rest.now c.in-Some.kind c.in-Some.after.now (messages_in c.in_ok-message-in-Some.message, c.in_ok-message-in-Some.after.now) t c.in_ok-message-in-Some.ensures

pub more-preserved : goal.more-preserved
more-preserved c =
    let t : type_at c.more.rest.now ≡ Ok (Some (c.in-Some.kind, c.in-Some.after.now)) = rw c.in-Some.is at c.in_ok-next_type.ensures in
    rw c.in_ok-push_some-in-Some.ensures
    (goes_on c.args.form _ (map message_in c.more.found.items) c.more.rest.now c.more.invariant c.in-Some.kind c.in-Some.after.now
    (messages_in c.in_ok-message-in-Some.message) c.in_ok-message-in-Some.after.now t c.in_ok-message-in-Some.ensures)

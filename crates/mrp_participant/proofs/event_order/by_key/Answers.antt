use Rattle.std.proofs.Common.{rules}
use Rattle.std.proofs.lemmas.List.Sorted.{answers_always}
use Rattle.mrp_participant.proofs.EventOrder.{heard-by_key}
use Rattle.mrp_participant.proofs.event_order.by_key.Goals as goal

pub returns : goal.returns
returns g c = λ leave leave_all k row.
    heard-by_key g.met.K.Ord.total c.args.events.now _ _ c.in_ok-sorted.ensures.items c.sort_by_key.ensures.permutation
    (c.sort_by_key.ensures.stable (λ e. e.1) (answers_always _ _ _ (λ f a r g h. search rules))) leave leave_all k row

use Rattle.std.proofs.Common.{rules}
use Rattle.std.proofs.lemmas.List.Sorted.{answers_always}
use Rattle.frame_flow.proofs.OrderLemmas.{copy_key, order-from_sort}
use Rattle.frame_flow.proofs.copies.put_in_order.Goals as goal

pub returns-in_ok-sort_by_key-clause-order : goal.returns-in_ok-sort_by_key-clause-order
returns-in_ok-sort_by_key-clause-order c =
    order-from_sort _ (c.in_ok-sort_by_key.ensures.sorted copy_key (answers_always _ _ _ (λ f a r g h. search rules)))

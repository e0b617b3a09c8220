-- In order with the next is in order with each later one.
use Rattle.std.proofs.Common.{refl, arith}
use Rattle.std.proofs.lemmas.List.Sorted.{IsNonDecreasingBy-from_all_adjacent}
use Rattle.delay_bound.proofs.stream.are_in_order.Goals as goal

pub returns : goal.returns
returns c =
    ((λ _. IsNonDecreasingBy-from_all_adjacent (λ x. x.at.0) c.args.frames.now (λ k d l. c.loop-i.invariant k d (omega (arith, l)))), (λ _. refl))

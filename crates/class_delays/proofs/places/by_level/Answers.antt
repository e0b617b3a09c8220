use Rattle.std.proofs.Common.{rules}
use Rattle.std.proofs.lemmas.List.Sorted.{answers_always, IsNonDecreasingBy-from_sort}
use Rattle.class_delays.specs.declared.places.Ranked.{Ranked}
use Rattle.class_delays.proofs.places.by_level.Goals as goal

pub returns-clause-order : goal.returns-clause-order
returns-clause-order c =
    IsNonDecreasingBy-from_sort (λ (x : Ranked). x.level) _ (c.in_ok-sort_by_key.ensures.sorted (λ (x : Ranked). x.level) (answers_always _ _ _ (λ f a r g h. search rules)))

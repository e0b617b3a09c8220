use Rattle.std.proofs.Common.{rules}
use Rattle.std.proofs.lemmas.List.Sorted.{answers_always}
use Rattle.scenario_delays.proofs.MomentLemmas.{sorted_rises}
use Rattle.scenario_delays.proofs.conform.in_order.Goals as goal

pub returns-clause-order : goal.returns-clause-order
returns-clause-order c =
    record {
      same = c.sort_by_key.ensures.permutation;
      order = c.in_ok-sort_by_key.ensures.sorted (λ f. f.at.0) (answers_always _ _ _ (λ f a r g h. search rules));
      ties = c.sort_by_key.ensures.stable (λ f. f.at.0) (answers_always _ _ _ (λ f a r g h. search rules));
    }

pub returns-clause-moments : goal.returns-clause-moments
returns-clause-moments c =
    sorted_rises (λ f. f.at.0) _ (c.in_ok-sort_by_key.ensures.sorted (λ f. f.at.0) (answers_always _ _ _ (λ f a r g h. search rules)))

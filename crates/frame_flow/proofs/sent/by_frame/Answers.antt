use Rattle.std.proofs.Common.{ℕ, List, rules, ap, ◌∙◌}
use Rattle.std.proofs.lemmas.List.Sorted.{IsNonDecreasingBy-from_sort_by_key, answers_always}
use Rattle.credit_shaper.specs.declared.{port.Departure.Departure, shaper.Traffic.TheVariants.Other}
use Rattle.frame_flow.specs.{fates_by}
use Rattle.frame_flow.proofs.{NumberLemmas.found-sorted, FateLemmas.fates-found}
use Rattle.frame_flow.proofs.sent.by_frame.Goals as goal

pub returns-clause-order : goal.returns-clause-order
returns-clause-order c = IsNonDecreasingBy-from_sort_by_key (λ (d : Departure). d.frame) _ c.in_ok-sort_by_key.ensures.sorted (λ a r q k. search rules)

pub returns-clause-fates : goal.returns-clause-fates
returns-clause-fates c verdicts =
    let of_number : ℕ → Departure = λ q. record { frame = q; traffic = Other; start = 0; end = 0 } in
    let stable = c.sort_by_key.ensures.stable (λ d. d.frame) (answers_always _ _ _ (λ f a r g h. search rules)) in
    fates-found _ _ verdicts (λ q. found-sorted (λ (d : Departure). d.frame) _ _ (of_number q) stable)
    ∙ ap (λ (t : List Departure). fates_by t verdicts) c.into_vec-sent.ensures

use Rattle.std.proofs.Common.{rules}
use Rattle.std.proofs.lemmas.List.Sorted.{IsNonDecreasingBy-from_sort_by_key, answers_always}
use Rattle.srp_report.specs.{SentFrame}
use Rattle.srp_report.proofs.DepartureLemmas.{sorted-by-start}
use Rattle.srp_report.proofs.departures.sorted.Goals as goal

pub returns : goal.returns
returns c =
    let up = IsNonDecreasingBy-from_sort_by_key (λ (d : SentFrame). d.start) _ c.in_ok-sort_by_key.ensures.sorted (λ a r q k. search rules) in
    let stable = c.sort_by_key.ensures.stable (λ d. d.start) (answers_always _ _ _ (λ f a r g h. search rules)) in
    sorted-by-start _ _ up stable

use Rattle.std.proofs.Common.{rules}
use Rattle.std.proofs.lemmas.List.Sorted.{IsNonDecreasingBy-from_sort_by_key}
use Rattle.srp_base.specs.declared.numbers.StreamId.{StreamId}
use Rattle.port_ledger.proofs.Noting.{one_sorted, rising_from_sorted}
use Rattle.port_ledger.proofs.notes.sort.Goals as goal

pub returns : goal.returns
returns c = λ xs up same.
    one_sorted c.args.streams.now c.sort_unstable_by_key.new.self xs c.sort_unstable_by_key.ensures.permutation
    (rising_from_sorted c.sort_unstable_by_key.new.self
    (IsNonDecreasingBy-from_sort_by_key (λ (x : StreamId). x.0) _ c.sort_unstable_by_key.ensures.sorted (λ a r q k. search rules)))
    up same

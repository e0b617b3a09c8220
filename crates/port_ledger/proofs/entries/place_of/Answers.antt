use Rattle.std.proofs.Common.{rules}
use Rattle.std.proofs.lemmas.List.Sorted.{answers_always}
use Rattle.port_ledger.specs.{stream_of}
use Rattle.port_ledger.proofs.Finding.{place_found, place_missing}
use Rattle.port_ledger.proofs.entries.place_of.Goals as goal

pub returns-clause-found : goal.returns-clause-found
returns-clause-found c =
    place_found c.args.entries.now c.args.stream.0 _ c.binary_search_by_key.ensures.bound
    (c.binary_search_by_key.ensures.position stream_of (answers_always _ _ _ (λ f a r g h. search rules)))

pub returns-clause-missing : goal.returns-clause-missing
returns-clause-missing c =
    place_missing c.args.entries.now c.args.stream.0 _ c.requires c.binary_search_by_key.ensures.bound
    (c.binary_search_by_key.ensures.position stream_of (answers_always _ _ _ (λ f a r g h. search rules)))

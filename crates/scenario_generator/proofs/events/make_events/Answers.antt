use Rattle.std.proofs.Common.{List, rules, subst, sym}
use Rattle.std.proofs.lemmas.List.Sorted.{answers_always}
use Rattle.topology_file.specs.declared.entries.EventEntry.{EventEntry}
use Rattle.scenario_generator.specs.{drawn_events, IsSortedByTick}
use Rattle.scenario_generator.proofs.EventLemmas.{sorted-of}
use Rattle.scenario_generator.proofs.events.make_events.Goals as goal

pub returns : goal.returns
returns c =
    subst (λ (xs : List EventEntry). IsSortedByTick (drawn_events c.args.draws.now) xs) (sym c.from_vec.ensures)
    (sorted-of c.args.draws.now _ _ c.in_ok-events.ensures c.sort_by_key.ensures.permutation
    (c.in_ok-sort_by_key.ensures.sorted (λ e. e.tick) (answers_always _ _ _ (λ f a r g h. search rules)))
    (c.sort_by_key.ensures.stable (λ e. e.tick) (answers_always _ _ _ (λ f a r g h. search rules))))

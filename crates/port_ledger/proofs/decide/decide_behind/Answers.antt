use Rattle.std.proofs.Common.{◌≡◌, List, ap, subst, sym, ◌∙◌}
use Rattle.std.specs.List.{AllByRecursion}
use Rattle.stream_importance.specs.declared.entry.Entry.{Entry}
use Rattle.port_ledger.specs.{AreOfDifferentStreams, entries_passed, importance_order, IsOnlyIn, with_pass, has_loss}
use Rattle.port_ledger.proofs.{Ranking.ranked_is_ranked, Ranking.IsPermutation-ranked, Ranking.all_permuted, Ranking.different_permuted, Passing.stays_ranked}
use Rattle.port_ledger.proofs.decide.decide_behind.Goals as goal

pub pass-lost-requires-clause-different : goal.pass-lost-requires-clause-different
pass-lost-requires-clause-different c =
    subst (λ (xs : List Entry). AreOfDifferentStreams xs) (sym c.rank.ensures)
    (different_permuted c.args.behind.now _ (IsPermutation-ranked c.args.now.0 c.args.behind.now) c.requires.different)

pub pass-lost-requires-clause-same : goal.pass-lost-requires-clause-same
pass-lost-requires-clause-same c =
    subst (λ (xs : List Entry). AllByRecursion (IsOnlyIn c.args.entries.now) xs) (sym c.rank.ensures)
    (all_permuted (IsOnlyIn c.args.entries.now) c.args.behind.now _ (IsPermutation-ranked c.args.now.0 c.args.behind.now) c.requires.same)

pub rank_where-requires : goal.rank_where-requires
rank_where-requires c = λ none.
    let moved : List Entry = importance_order c.args.now.0 c.args.behind.now in
    let is : c.pass-lost.new.order ≡ entries_passed c.args.now.0 c.args.caps.now c.args.taken moved
    = c.pass-lost.ensures.order ∙ ap (entries_passed c.args.now.0 c.args.caps.now c.args.taken) c.rank.ensures in
    is
    ∙ (stays_ranked c.args.now.0 c.args.caps.now c.args.taken moved
    (ranked_is_ranked c.args.now.0 (c.importance_is_an_order.ensures c.args.now.0) c.args.behind.now c.requires.different)
    (sym (c.pass-lost.ensures.lost ∙ ap (has_loss c.args.caps.now c.args.taken) c.rank.ensures) ∙ none)
    ∙ ap (importance_order c.args.now.0) (sym is))

pub returns-clause-behind : goal.returns-clause-behind
returns-clause-behind c =
    c.rank_where.ensures
    ∙ ap (importance_order c.args.now.0) (c.pass-lost.ensures.order ∙ ap (entries_passed c.args.now.0 c.args.caps.now c.args.taken) c.rank.ensures)

pub returns-clause-entries : goal.returns-clause-entries
returns-clause-entries c =
    c.pass-lost.ensures.entries ∙ ap (λ xs. with_pass c.args.now.0 c.args.caps.now c.args.taken xs c.args.entries.now) c.rank.ensures

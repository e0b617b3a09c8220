use Rattle.std.proofs.Common.{◌≡◌, ℕ, Option}
use Rattle.toml_rules.specs.{KeysAs, ReadsAs, each_within}
use Rattle.toml_rules.proofs.EntryLemmas.{within_here}
use Rattle.toml_rules.proofs.entries.each_within.Given as goal

abbrev pub invariant-loop-i : goal.invariant-loop-i
invariant-loop-i g l =
    (weight : g.row.B.Denot → ℕ) (said : ℕ → g.row.T.Denot → Option g.row.B.Denot)
    → KeysAs (λ x r. goal.W-post g l.fn.weigh x r) weight → ReadsAs (λ x. x) (λ n x r. goal.F-post g l.fn.read n x r) said
    → within_here l.fn.rule weight said l.values.items l.room l.i l.entries ≡ each_within l.fn.rule weight said 1 l.fn.most l.fn.entries

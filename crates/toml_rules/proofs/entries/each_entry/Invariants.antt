use Rattle.std.proofs.Common.{◌≡◌, ℕ, Option}
use Rattle.toml_rules.specs.{ReadsAs, each_entry}
use Rattle.toml_rules.proofs.EntryLemmas.{from_here}
use Rattle.toml_rules.proofs.entries.each_entry.Given as goal

abbrev pub invariant-loop-i : goal.invariant-loop-i
invariant-loop-i g l =
    (said : ℕ → g.row.T.Denot → Option g.row.B.Denot) → ReadsAs (λ x. x) (λ n x r. goal.F-post g l.fn.read n x r) said
    → from_here l.fn.rule said l.values.items l.i l.entries ≡ each_entry l.fn.rule said 1 l.fn.entries

use Rattle.std.proofs.Common.{◌≡◌, ◌+◌, ℕ, map, drop}
use Rattle.toml_rules.specs.{KeysAs, first_fall}
use Rattle.toml_rules.proofs.entries.first_fall.Given as goal

abbrev pub invariant-loop-i : goal.invariant-loop-i
invariant-loop-i g l =
    (said : g.row.T.Denot → ℕ) → KeysAs (λ x r. goal.F-post g l.fn.key x r) said
    → first_fall (l.i + 1) l.before (map said (drop l.i l.entries)) ≡ first_fall 1 0 (map said l.fn.entries)

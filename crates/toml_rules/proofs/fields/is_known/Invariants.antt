use Rattle.std.proofs.Common.{◌≡◌, map, drop}
use Rattle.toml_rules.specs.{is_known}
use Rattle.toml_rules.proofs.fields.is_known.Given as goal

abbrev pub invariant-loop-word : goal.invariant-loop-word
invariant-loop-word l =
    is_known (map (λ w. w.now) (drop l.word-index l.known)) l.key ≡ is_known (map (λ w. w.now) l.known) l.key

use Rattle.std.proofs.Common.{◌≡◌, ℕ, ◌+◌, Bool, map, take, drop, length}
use Rattle.srp_base.specs.Firsts.{first_where}
use Rattle.toml.specs.Data.{Members}
use Rattle.toml.specs.View.{table_view}
use Rattle.rule_words.specs.{TellsAs, first_entry}
use Rattle.rule_words.proofs.search.first_entry.Given as goal

-- the first of the entries that are left, seen with those before them, is the first of all
abbrev pub invariant-loop-i : goal.invariant-loop-i
invariant-loop-i g l =
    (said : ℕ → Members → Bool) → TellsAs table_view (λ n x r. goal.F-post g l.fn.test n x r) said
    → first_where (λ earlier x. said (length earlier + 1) x) (take l.i (map (λ t. table_view t.now) l.entries)) (drop l.i (map (λ t. table_view t.now) l.entries))
    ≡ first_entry said (map (λ t. table_view t.now) l.entries)

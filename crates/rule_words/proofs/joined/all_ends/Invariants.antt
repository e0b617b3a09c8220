use Rattle.std.proofs.Common.{◌≡◌, length, map, drop}
use Rattle.std.specs.List.{AllByRecursion}
use Rattle.toml.specs.View.{table_view}
use Rattle.rule_words.specs.{all_ends, IsWithin}
use Rattle.rule_words.proofs.JoinedLemmas.{in_front}
use Rattle.rule_words.proofs.joined.all_ends.Given as goal

-- the ends so far in front of those of the links that are left are all
abbrev pub invariant-loop-link : goal.invariant-loop-link
invariant-loop-link l =
    (in_front l.found.items (all_ends (map (λ t. table_view t.now) l.nodes) (map (λ t. table_view t.now) (drop l.link-index l.links)))
    ≡ all_ends (map (λ t. table_view t.now) l.nodes) (map (λ t. table_view t.now) l.links))
    × AllByRecursion (IsWithin (length l.nodes)) l.found.items

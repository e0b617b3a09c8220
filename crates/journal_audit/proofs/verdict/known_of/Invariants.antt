use Rattle.std.proofs.Common.{◌≡◌, ◌++◌, ◌-◌, ◌+◌, length}
use Rattle.std.specs.Prelude.{flat_map}
use Rattle.std.specs.List.{range_with_len}
use Rattle.journal_audit.specs.{names_at}
use Rattle.journal_audit.proofs.verdict.known_of.Given as goal

-- the names so far and those of the nodes that are left are all
abbrev pub invariant-loop-x : goal.invariant-loop-x
invariant-loop-x l =
    l.ports.items ++ flat_map (names_at l.scenario) (range_with_len (l.x + 1) (length l.scenario.tree.kinds - l.x)) ≡ flat_map (names_at l.scenario) (range_with_len 1 (length l.scenario.tree.kinds))

use Rattle.std.proofs.Common.{◌≡◌, ◌≤◌}
use Rattle.std.specs.Prelude.{count_by}
use Rattle.std.specs.List.{range_with_len}
use Rattle.tree_topology.specs.Walk.{is_behind}
use Rattle.class_delays.proofs.places.count_behind.Given as goal

abbrev pub invariant-loop-n : goal.invariant-loop-n
invariant-loop-n l = record {
  few : l.count ≤ l.n;
  counted : l.count ≡ count_by (λ y. is_behind l.tree.links l.at y) (range_with_len 1 l.n);
}

use Rattle.std.proofs.Common.{◌≡◌, ◌≤◌, length, drop}
use Rattle.std.specs.Prelude.{slice_get, IfSome}
use Rattle.flat_side.specs.{parts_settled, parts_in}
use Rattle.flat_side.proofs.settling.settle_keys.Given as goal

-- with the keys that are left settled too, all are; and there is room for those that are left
abbrev pub invariant-loop-key : goal.invariant-loop-key
invariant-loop-key g l = record {
  settled : parts_settled g.A.Key.Ord.cmp l.at l.own.keys (drop l.key-index l.keys) (parts_in l.parts.items)
      ≡ parts_settled g.A.Key.Ord.cmp l.at l.own.keys l.keys (parts_in l.fn.parts.items);
  room : IfSome (slice_get l.parts.items l.at) (λ p. length (drop l.key-index l.keys) ≤ p.spare);
  many : length l.parts.items ≡ length l.fn.parts.items;
}

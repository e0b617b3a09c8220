use Rattle.std.proofs.Common.{◌≡◌, ◌≤◌, drop}
use Rattle.msrp.specs.{new_rows, stated_part}
use Rattle.msrp.proofs.settling.declare_all.Given as goal

-- with the keys that are left settled too, all are; and there is room for the rows that come for those that are left
abbrev pub invariant-loop-one : goal.invariant-loop-one
invariant-loop-one l = record {
  state : stated_part (drop l.one-index l.stated) l.part.state ≡ stated_part l.stated l.fn.part.state;
  room : new_rows (drop l.one-index l.stated) l.part.state ≤ l.part.spare;
}

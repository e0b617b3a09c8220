use Rattle.std.proofs.Common.{◌≡◌, ◌++◌, drop}
use Rattle.std.specs.Prelude.{flat_map}
use Rattle.group_run.specs.{group_at}
use Rattle.group_run.proofs.text.put_groups.Given as goal

-- the text so far with the lines of the MAC addresses that are left is the whole
abbrev pub invariant-loop-mac : goal.invariant-loop-mac
invariant-loop-mac l =
    l.out.items ++ flat_map (group_at l.port l.net l.at) (drop l.mac-index l.macs)
    ≡ l.fn.out.items ++ flat_map (group_at l.port l.net l.at) l.macs

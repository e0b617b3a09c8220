use Rattle.std.proofs.Common.{◌≡◌, ◌++◌, drop}
use Rattle.std.specs.Prelude.{flat_map}
use Rattle.group_run.specs.{port_part}
use Rattle.group_run.proofs.text.put_each.Given as goal

-- the text so far with the lines of the ports that are left is the whole
abbrev pub invariant-loop-i : goal.invariant-loop-i
invariant-loop-i l =
    l.out.items ++ flat_map (port_part l.scenario l.run) (drop l.i l.ports)
    ≡ l.fn.out.items ++ flat_map (port_part l.scenario l.run) l.ports

use Rattle.std.proofs.Common.{◌≡◌, ◌++◌, drop}
use Rattle.std.specs.Prelude.{flat_map}
use Rattle.attribute_propagation.specs.Ports.{place_of}
use Rattle.srp_report.specs.{key_line}
use Rattle.srp_report.proofs.registered.put_keys.Given as goal

-- the text so far with the lines of the attributes that are left is the whole
abbrev pub invariant-loop-key : goal.invariant-loop-key
invariant-loop-key l =
    l.out.items ++ flat_map (key_line l.domains l.port (place_of l.at) l.node.state) (drop l.key-index l.keys)
    ≡ l.fn.out.items ++ flat_map (key_line l.domains l.port (place_of l.at) l.node.state) l.keys

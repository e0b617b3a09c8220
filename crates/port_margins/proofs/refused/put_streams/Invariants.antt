use Rattle.std.proofs.Common.{◌≡◌, ◌++◌, drop}
use Rattle.std.specs.Prelude.{flat_map}
use Rattle.attribute_propagation.specs.Ports.{place_of}
use Rattle.port_margins.specs.{stream_line}
use Rattle.port_margins.proofs.refused.put_streams.Given as goal

-- the text so far with the lines of the streams that are left is the whole
abbrev pub invariant-loop-entry : goal.invariant-loop-entry
invariant-loop-entry l =
    l.out.items ++ flat_map (stream_line l.port (place_of l.at) l.node.state) (drop l.entry-index l.streams)
    ≡ l.initial.out.items ++ flat_map (stream_line l.port (place_of l.at) l.node.state) l.streams

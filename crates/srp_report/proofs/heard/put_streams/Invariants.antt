use Rattle.std.proofs.Common.{◌≡◌, ◌++◌, drop}
use Rattle.std.specs.Prelude.{flat_map}
use Rattle.srp_report.specs.{stream_heard}
use Rattle.srp_report.proofs.heard.put_streams.Given as goal

-- the text so far with the lines of the streams that are left is the whole
abbrev pub invariant-loop-entry : goal.invariant-loop-entry
invariant-loop-entry l =
    l.out.items ++ flat_map (stream_heard l.name l.node.state) (drop l.entry-index l.streams)
    ≡ l.fn.out.items ++ flat_map (stream_heard l.name l.node.state) l.streams

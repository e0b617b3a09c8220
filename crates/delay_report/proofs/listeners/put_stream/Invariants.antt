use Rattle.std.proofs.Common.{◌≡◌, ◌+◌, ◌++◌, drop}
use Rattle.delay_report.specs.Text.{stream_delays}
use Rattle.delay_report.proofs.listeners.put_stream.Given as goal

-- the text so far with the lines at the nodes that are left is the whole
abbrev pub invariant-loop-i : goal.invariant-loop-i
invariant-loop-i l =
    l.out.items ++ stream_delays l.run l.answer (l.i + 1) (drop l.i l.world.nodes)
    ≡ l.fn.out.items ++ stream_delays l.run l.answer 1 l.world.nodes

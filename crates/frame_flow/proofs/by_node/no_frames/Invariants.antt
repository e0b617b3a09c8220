use Rattle.std.proofs.Common.{◌≡◌, replicate, []}
use Rattle.frame_flow.proofs.by_node.no_frames.Given as goal

abbrev pub invariant-loop : goal.invariant-loop
invariant-loop l = l.nodes.items ≡ replicate l.counter []

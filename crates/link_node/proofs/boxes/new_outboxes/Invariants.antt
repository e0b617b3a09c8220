use Rattle.std.proofs.Common.{◌≡◌, [], replicate}
use Rattle.link_node.proofs.boxes.new_outboxes.Given as goal

-- as many boxes as were counted
abbrev pub invariant-loop : goal.invariant-loop
invariant-loop g l = l.boxes.items ≡ replicate l.counter []

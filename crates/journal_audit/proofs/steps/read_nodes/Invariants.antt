use Rattle.std.proofs.Common.{◌+◌}
use Rattle.journal_audit.specs.{AreNodesRead}
use Rattle.journal_audit.proofs.steps.read_nodes.Given as goal

-- the nodes so far have made their jobs
abbrev pub invariant-loop-x : goal.invariant-loop-x
invariant-loop-x l = AreNodesRead l.scenario l.t (l.x + 1) l.fn.world l.fn.lines l.steps.items l.world l.lines

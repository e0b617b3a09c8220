use Rattle.std.proofs.Common.{◌≡◌, drop}
use Rattle.port_worker.specs.{marks_by, CanMarkAll}
use Rattle.port_worker.proofs.gather.follow.Given as goal

abbrev pub invariant-loop-i : goal.invariant-loop-i
invariant-loop-i l =
    CanMarkAll l.node (drop l.i l.steps) (drop l.i l.notices) l.marks
    × (marks_by l.node (drop l.i l.steps) (drop l.i l.notices) l.marks ≡ marks_by l.node l.steps l.notices l.fn.marks)

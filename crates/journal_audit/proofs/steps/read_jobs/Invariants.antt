use Rattle.world_core.proofs.OneByOne.{total}
use Rattle.journal_audit.specs.{ArePortsLeft, jobs_left, IsPartRead}
use Rattle.journal_audit.proofs.steps.read_jobs.Given as goal

-- the jobs so far have been made and read
abbrev pub invariant-loop-alloc : goal.invariant-loop-alloc
invariant-loop-alloc l =
    IsPartRead l.scenario l.t l.number.0 (jobs_left l.fn.left.items) l.fn.world l.fn.lines l.made.items (jobs_left l.left.items) l.world l.lines
    × ArePortsLeft l.scenario l.t l.number l.left.items

abbrev pub decreases-loop-alloc : goal.decreases-loop-alloc
decreases-loop-alloc l = total (jobs_left l.left.items)

-- The queue goes on at its next frame, and the others stay.
use Rattle.std.proofs.Common.{◌≡◌, take, refl, sym, subst, arith}
use Rattle.credit_shaper.specs.{Heads, without_head, with_head_index, pending, waiting_of, AreHeads, IsHead}
use Rattle.credit_shaper.proofs.{MomentLemmas.blank, QueueLemmas.head_index-each, QueueLemmas.without_first}
use Rattle.credit_shaper.proofs.trace.PortTrace.sends.Goals as goal

pub returns-clause-heads : goal.returns-clause-heads
returns-clause-heads c =
    let new : IsHead c.args.arrivals.now c.args.self.came c.args.x.traffic c.first_of-head.result = (c.first_of-head.ensures.to, c.first_of-head.ensures.found) in
    subst (λ (h : Heads). AreHeads c.args.arrivals.now c.args.self.came h) (sym c.with.ensures)
    (head_index-each (IsHead c.args.arrivals.now c.args.self.came) c.args.x.traffic c.first_of-head.result c.args.self.heads new c.requires.heads)

pub returns-clause-port : goal.returns-clause-port
returns-clause-port c =
    let others = c.first_of-head.ensures.others in
    let left : pending (with_head_index c.args.x.traffic c.first_of-head.result c.args.self.heads) 0 (take c.args.self.came c.args.arrivals.now)
    ≡ without_head c.args.x.traffic (waiting_of c.args.arrivals.now c.args.self) =
    without_first c.args.self.heads c.args.arrivals.now c.args.self.came c.args.x c.first_of-head.result c.requires.heads c.requires.came
    c.requires.first.came (c.requires.first.here blank) (omega arith) (λ k d from to. others k d (omega arith) to) in
    λ sent. rw (c.with.ensures, left, c.from.ensures) refl

use Rattle.msrp.proofs.NewSide.{kept-new, shares}
use Rattle.msrp.proofs.side.MsrpSide.new.Goals as goal

pub invariant_of-result : goal.invariant_of-result
invariant_of-result c = (
  rw (c.in_ok-ports.ensures, c.in_ok-awaiting.ensures, c.new.ensures.items, c.new-2.ensures.items)
      (kept-new c.args.bridge c.args.leave_time c.args.periodic c.args.domain c.every_step_keeps_a_book.ensures.empty shares c.args.ports.now),
  tt,
)

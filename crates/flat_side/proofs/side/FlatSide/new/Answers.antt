use Rattle.flat_side.proofs.Keeping.{kept-new}
use Rattle.flat_side.proofs.side.FlatSide.new.Goals as goal

pub invariant_of-result : goal.invariant_of-result
invariant_of-result g c =
    (rw (c.in_ok-parts.ensures, c.in_ok-awaiting.ensures, c.new.ensures) (kept-new g.A.Key.Ord.cmp c.args.leave_time c.args.periodic c.args.ports.now), tt)

use Rattle.std.proofs.Common.{subst, sym}
use Rattle.mrp_participant.specs.{AreRows}
use Rattle.mrp_participant.proofs.Transitions.{AreRows-periodic}
use Rattle.mrp_participant.proofs.participant.Participant.periodic_due.Goals as goal

pub invariant_of-self : goal.invariant_of-self
invariant_of-self g c = (
  subst (AreRows g.A.Key.Ord.cmp) (sym c.all_periodic.ensures.rows) (AreRows-periodic g.A.Key.Ord.cmp _ c.self.invariant.0),
  c.self.invariant.1,
  c.self.invariant.2,
  c.all_periodic.ensures.outlook,
  c.self.invariant.4,
  λ on. cc,
)

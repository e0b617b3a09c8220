use Rattle.std.proofs.Common.{refl}
use Rattle.mrp_participant.proofs.Duties.{nothing-sent, sent-nothing, nothing-coming, coming-nothing}
use Rattle.mrp_participant.proofs.duty_laws.saying_nothing_changes_nothing.Goals as goal

pub returns-clause-own : goal.returns-clause-own
returns-clause-own g c = λ near far front back coming. (
  nothing-sent g.A.Key.Ord.cmp near far front back coming,
  sent-nothing g.A.Key.Ord.cmp near far front back coming,
)

pub returns-clause-far : goal.returns-clause-far
returns-clause-far g c = λ near far front back coming. (
  nothing-coming g.A.Key.Ord.cmp far near coming front back,
  coming-nothing g.A.Key.Ord.cmp far near coming front back,
)

pub returns-clause-received : goal.returns-clause-received
returns-clause-received g c = λ s now. refl

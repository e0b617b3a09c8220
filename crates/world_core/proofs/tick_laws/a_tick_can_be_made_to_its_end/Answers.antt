use Rattle.world_core.proofs.OneByOne.{count_jobs, can_jobs, can_all}
use Rattle.world_core.proofs.tick_laws.a_tick_can_be_made_to_its_end.Goals as goal

pub returns-clause-count : goal.returns-clause-count
returns-clause-count c = λ tree t x w run has. count_jobs tree t x w run has.0 has.1

pub returns-clause-jobs : goal.returns-clause-jobs
returns-clause-jobs c = λ plan t x left w rules run has long.
    let one = can_jobs plan.tree t (λ es v ok here. c.what_is_allowed_may_happen.ensures.all_stay plan.tree t es v ok here) x left w run has.0 has.1 long in
    (one.0, one.1.0, one.1.1)

pub returns-clause-nodes : goal.returns-clause-nodes
returns-clause-nodes c = λ plan t x count w rules run first all.
    let one = can_all plan.tree t (λ es v ok here. c.what_is_allowed_may_happen.ensures.all_stay plan.tree t es v ok here) count x w run first all in
    (one.0, one.1.0, one.1.1)

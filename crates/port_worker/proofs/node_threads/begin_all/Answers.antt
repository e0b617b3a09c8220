use Rattle.std.proofs.Common.{◌≡◌, ◌∷◌, [], List, sym, subst, arith}
use Rattle.srp_base.proofs.Lists.{no_more as no_items}
use Rattle.port_worker.specs.{Task, AreWorking}
use Rattle.port_worker.specs.declared.node_threads.Working.{Working}
use Rattle.port_worker.proofs.{Lists.rest_less, Lists.rest_none, WorkingLemmas.working_more}
use Rattle.port_worker.proofs.node_threads.begin_all.Goals as goal

pub loop-task-init : goal.loop-task-init
loop-task-init g c =
    let none : c.in_ok-all.all.items ≡ [] = c.in_ok-all.ensures.items in
    (subst (AreWorking []) (sym {A = List Working} none) tt, c.into_iter-task-iterator.ensures.into_iter_gives.0)

pub loop-task-preserved : goal.loop-task-preserved
loop-task-preserved g c =
    let next = c.next.new.self.rest.items in
    let first : c.loop-task.task-iterator.rest.items ≡ c.in-Some.task ∷ next = c.in-Some.ensures.steps.0 in (
      working_more c.loop-task.yielded c.loop-task.all.items c.push.new.self.items c.in-Some.task c.begin_work.result c.loop-task.invariant.0 c.begin_work.ensures c.in_ok-push.ensures.items,
      rest_less c.loop-task.yielded c.loop-task.task-iterator.rest.items next c.args.tasks.items c.in-Some.task first c.loop-task.invariant.1,
    )

pub returns : goal.returns
returns g c =
    let none : c.loop-task.task-iterator.rest.items ≡ [] = no_items c.loop-task.task-iterator.rest.items (omega (arith, c.in-None.ensures.steps.0)) in
    let same = rest_none c.loop-task.yielded c.loop-task.task-iterator.rest.items c.args.tasks.items none c.loop-task.invariant.1 in
    subst (λ (ts : List Task). AreWorking ts c.loop-task.all.items) same c.loop-task.invariant.0

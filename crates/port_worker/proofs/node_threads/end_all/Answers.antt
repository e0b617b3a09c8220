use Rattle.std.proofs.Common.{◌≡◌, ◌∷◌, [], List, sym, subst, arith}
use Rattle.srp_base.proofs.Lists.{no_more as no_items}
use Rattle.port_worker.specs.{AreWorking}
use Rattle.port_worker.specs.declared.node_threads.Working.{Working}
use Rattle.port_worker.proofs.{Lists.rest_less, Lists.rest_none, WorkingLemmas.none_worked, WorkingLemmas.worked_next}
use Rattle.port_worker.proofs.node_threads.end_all.Goals as goal

pub loop-one-init : goal.loop-one-init
loop-one-init g c =
    let none : c.in_ok-all.all.items ≡ [] = c.in_ok-all.ensures.items in (
      (λ tasks working. none_worked tasks c.in_ok-all.all.items none working),
      c.into_iter-one-iterator.ensures.into_iter_gives.0,
    )

pub loop-one-preserved : goal.loop-one-preserved
loop-one-preserved g c =
    let next = c.next.new.self.rest.items in
    let first : c.loop-one.one-iterator.rest.items ≡ c.in-Some.one ∷ next = c.in-Some.ensures.steps.0 in (
      worked_next c.loop-one.yielded c.loop-one.all.items c.push.new.self.items c.in-Some.one c.in_ok-end_work.field-0 c.loop-one.invariant.0 c.in_ok-end_work.ensures c.in_ok-push.ensures.items,
      rest_less c.loop-one.yielded c.loop-one.one-iterator.rest.items next c.args.working.items c.in-Some.one first c.loop-one.invariant.1,
    )

pub returns : goal.returns
returns g c =
    let none : c.loop-one.one-iterator.rest.items ≡ [] = no_items c.loop-one.one-iterator.rest.items (omega (arith, c.in-None.ensures.steps.0)) in
    let same = rest_none c.loop-one.yielded c.loop-one.one-iterator.rest.items c.args.working.items none c.loop-one.invariant.1 in
    λ tasks working. c.loop-one.invariant.0 tasks (subst (λ (ws : List Working). AreWorking tasks ws) (sym {A = List Working} same) working)

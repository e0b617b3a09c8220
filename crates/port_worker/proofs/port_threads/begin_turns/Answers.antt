use Rattle.std.proofs.Common.{◌≡◌, ◌∷◌, [], ◌++◌, List, length, ap, ◌∙◌, arith}
use Rattle.srp_base.proofs.Lists.{no_more as no_items}
use Rattle.bridge_book.specs.Hub.{PortPass}
use Rattle.port_worker.proofs.{Lists.rest_less, Lists.rest_none, Lists.count_more, TurnLemmas.first_count, BegunLemmas.begun_more, BegunLemmas.pass_in_turn}
use Rattle.port_worker.proofs.port_threads.begin_turns.Goals as goal

pub begin_turn-requires-clause-lock : goal.begin_turn-requires-clause-lock
begin_turn-requires-clause-lock g c κs within =
    let first : c.loop-pass.pass-iterator.rest.items ≡ c.in-Some.pass ∷ c.next.new.self.rest.items = c.in-Some.ensures.steps.0 in
    (pass_in_turn c.args.hub.now.lock c.loop-pass.yielded c.loop-pass.pass-iterator.rest.items c.next.new.self.rest.items c.args.passes.items c.in-Some.pass first c.loop-pass.invariant.2 c.requires).lock_is

pub begin_turn-requires-clause-new : goal.begin_turn-requires-clause-new
begin_turn-requires-clause-new g c κs within =
    let first : c.loop-pass.pass-iterator.rest.items ≡ c.in-Some.pass ∷ c.next.new.self.rest.items = c.in-Some.ensures.steps.0 in
    (pass_in_turn c.args.hub.now.lock c.loop-pass.yielded c.loop-pass.pass-iterator.rest.items c.next.new.self.rest.items c.args.passes.items c.in-Some.pass first c.loop-pass.invariant.2 c.requires).new

pub loop-pass-preserved : goal.loop-pass-preserved
loop-pass-preserved g c =
    let first : c.loop-pass.pass-iterator.rest.items ≡ c.in-Some.pass ∷ c.next.new.self.rest.items = c.in-Some.ensures.steps.0 in
    let at = pass_in_turn c.args.hub.now.lock c.loop-pass.yielded c.loop-pass.pass-iterator.rest.items c.next.new.self.rest.items c.args.passes.items c.in-Some.pass first c.loop-pass.invariant.2 c.requires in
    let push : c.push.new.self.items ≡ c.loop-pass.all.items ++ c.begin_turn.result ∷ [] = c.in_ok-push.ensures.items in (
      begun_more c.args.hub.now c.args.jobs.now c.loop-pass.all.items c.push.new.self.items c.begin_turn.result c.in-Some.pass.number c.loop-pass.yielded
          c.loop-pass.invariant.0 c.loop-pass.invariant.1 at.number c.begin_turn.ensures push,
      count_more c.loop-pass.all.items c.push.new.self.items c.begin_turn.result c.loop-pass.yielded c.in-Some.pass push c.loop-pass.invariant.1,
      rest_less c.loop-pass.yielded c.loop-pass.pass-iterator.rest.items c.next.new.self.rest.items c.args.passes.items c.in-Some.pass first c.loop-pass.invariant.2,
    )

pub returns : goal.returns
returns g c =
    let none : c.loop-pass.pass-iterator.rest.items ≡ [] = no_items c.loop-pass.pass-iterator.rest.items (omega (arith, c.in-None.ensures.steps.0)) in
    let same = rest_none c.loop-pass.yielded c.loop-pass.pass-iterator.rest.items c.args.passes.items none c.loop-pass.invariant.2 in
    let lock = c.args.hub.now.lock in
    record {
      count = c.loop-pass.invariant.1 ∙ (ap (λ (ps : List PortPass). length ps) (same ∙ c.requires) ∙ first_count lock lock.passes);
      each = c.loop-pass.invariant.0;
    }

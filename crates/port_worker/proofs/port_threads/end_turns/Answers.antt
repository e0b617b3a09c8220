use Rattle.std.proofs.Common.{◌≡◌, ◌∷◌, [], ◌++◌, List, length, sym, ap, ◌∙◌, subst, arith}
use Rattle.srp_base.proofs.Lists.{no_more as no_items}
use Rattle.port_worker.specs.{Turn, ArePartly}
use Rattle.port_worker.specs.declared.port_threads.Begun.{Begun}
use Rattle.port_worker.proofs.{Lists.rest_less, Lists.rest_none, Lists.count_more, BegunLemmas.none_taken, BegunLemmas.taken_next}
use Rattle.port_worker.proofs.port_threads.end_turns.Goals as goal

pub loop-one-init : goal.loop-one-init
loop-one-init g c =
    let none : c.in_ok-turns.turns.items ≡ [] = c.in_ok-turns.ensures.items in (
      (λ hub jobs begun. none_taken hub jobs c.in_ok-turns.turns.items none),
      ap (λ (ts : List Turn). length ts) none,
      c.into_iter-one-iterator.ensures.into_iter_gives.0,
    )

pub loop-one-preserved : goal.loop-one-preserved
loop-one-preserved g c =
    let next = c.next.new.self.rest.items in
    let first : c.loop-one.one-iterator.rest.items ≡ c.in-Some.one ∷ next = c.in-Some.ensures.steps.0 in
    let push : c.push.new.self.items ≡ c.loop-one.turns.items ++ c.end_turn.result ∷ [] = c.in_ok-push.ensures.items in (
      taken_next c.loop-one.yielded c.loop-one.turns.items c.push.new.self.items c.in-Some.one c.end_turn.result c.loop-one.invariant.0 c.loop-one.invariant.1 c.end_turn.ensures push,
      count_more c.loop-one.turns.items c.push.new.self.items c.end_turn.result c.loop-one.yielded c.in-Some.one push c.loop-one.invariant.1,
      rest_less c.loop-one.yielded c.loop-one.one-iterator.rest.items next c.args.begun.items c.in-Some.one first c.loop-one.invariant.2,
    )

pub returns : goal.returns
returns g c =
    let none : c.loop-one.one-iterator.rest.items ≡ [] = no_items c.loop-one.one-iterator.rest.items (omega (arith, c.in-None.ensures.steps.0)) in
    let same = rest_none c.loop-one.yielded c.loop-one.one-iterator.rest.items c.args.begun.items none c.loop-one.invariant.2 in
    λ hub jobs begun. record {
      count = c.loop-one.invariant.1 ∙ (ap (λ (bs : List Begun). length bs) same ∙ begun.count);
      each = c.loop-one.invariant.0 hub jobs (subst (ArePartly hub jobs) (sym {A = List Begun} same) begun.each);
    }

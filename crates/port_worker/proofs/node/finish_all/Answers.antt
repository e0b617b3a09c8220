use denote.Param.Send.{sendable}
use Rattle.std.proofs.Common.{◌≡◌, ◌∷◌, [], ◌++◌, ◌+◌, ℕ, List, length, sym, ap, ◌∙◌, arith}
use Rattle.std.specs.Prelude.{slice_get, Some}
use Rattle.srp_base.proofs.Lists.{no_more as no_items}
use Rattle.bridge_book.specs.Hub.{PortPass}
use Rattle.port_worker.specs.{Turn}
use Rattle.port_worker.proofs.{Lists.rest_less, Lists.rest_first, Lists.rest_none, Lists.count_more, TurnLemmas.done_more}
use Rattle.port_worker.proofs.node.finish_all.Goals as goal

pub loop-turn-init : goal.loop-turn-init
loop-turn-init g c =
    let none : c.new-passes.result.items ≡ [] = c.new-passes.ensures.items in (
      (λ k pass get. let no : slice_get {X = PortPass} [] k ≡ Some pass = ap (λ (ps : List PortPass). slice_get ps k) (sym {A = List PortPass} none) ∙ get in cc),
      ap (λ (ps : List PortPass). length ps) none,
      c.into_iter-turn-iterator.ensures.into_iter_gives.0,
    )

pub finish-requires : goal.finish-requires
finish-requires g c =
    let first : c.loop-turn.turn-iterator.rest.items ≡ c.in-Some.turn ∷ c.next.new.self.rest.items = c.in-Some.ensures.steps.0 in
    let r = c.type_bounds.sync-G in
    let there = rest_first c.loop-turn.yielded c.loop-turn.turn-iterator.rest.items c.next.new.self.rest.items c.args.turns.items c.in-Some.turn first c.loop-turn.invariant.2 in
    (search sendable, (c.requires.each (length c.loop-turn.yielded) c.in-Some.turn there).1)

pub loop-turn-preserved : goal.loop-turn-preserved
loop-turn-preserved g c =
    let first : c.loop-turn.turn-iterator.rest.items ≡ c.in-Some.turn ∷ c.next.new.self.rest.items = c.in-Some.ensures.steps.0 in
    let there = rest_first c.loop-turn.yielded c.loop-turn.turn-iterator.rest.items c.next.new.self.rest.items c.args.turns.items c.in-Some.turn first c.loop-turn.invariant.2 in
    let number = (c.requires.each (length c.loop-turn.yielded) c.in-Some.turn there).0 in
    let push : c.push.new.self.items ≡ c.loop-turn.passes.items ++ c.in_ok-finish.field-0 ∷ [] = c.in_ok-push.ensures.items in (
      done_more c.args.hub.now c.args.jobs.now c.loop-turn.passes.items c.push.new.self.items c.in_ok-finish.field-0 c.loop-turn.invariant.0
          (c.in_ok-finish.ensures.number ∙ (number ∙ ap (λ (k : ℕ). k + 1) (sym c.loop-turn.invariant.1))) c.in_ok-finish.ensures.done push,
      count_more c.loop-turn.passes.items c.push.new.self.items c.in_ok-finish.field-0 c.loop-turn.yielded c.in-Some.turn push c.loop-turn.invariant.1,
      rest_less c.loop-turn.yielded c.loop-turn.turn-iterator.rest.items c.next.new.self.rest.items c.args.turns.items c.in-Some.turn first c.loop-turn.invariant.2,
    )

pub returns-clause-count : goal.returns-clause-count
returns-clause-count g c =
    let none : c.loop-turn.turn-iterator.rest.items ≡ [] = no_items c.loop-turn.turn-iterator.rest.items (omega (arith, c.in-None.ensures.steps.0)) in
    c.loop-turn.invariant.1
    ∙ (ap (λ (ts : List Turn). length ts) (rest_none c.loop-turn.yielded c.loop-turn.turn-iterator.rest.items c.args.turns.items none c.loop-turn.invariant.2)
    ∙ c.requires.count)

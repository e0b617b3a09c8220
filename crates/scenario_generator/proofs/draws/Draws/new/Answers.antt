use Rattle.std.proofs.Common.{◌≡◌, ℕ, map, ap, ◌∙◌, arith}
use Rattle.std.specs.List.{range_with_len}
use Rattle.scenario_generator.specs.{drawn}
use Rattle.scenario_generator.proofs.DrawLemmas.{drawn-more, none-drawn}
use Rattle.scenario_generator.proofs.draws.Draws.new.Goals as goal

pub loop-init : goal.loop-init
loop-init c = (none-drawn c.args.number, c.in_ok-halves.ensures.items)

pub loop-preserved : goal.loop-preserved
loop-preserved c =
    drawn-more c.args.number c.loop.counter c.loop.state c.next_state-state.result c.loop.halves.items _ c.loop.invariant.0 c.next_state-state.ensures c.loop.invariant.1 c.in_ok-push.ensures.items

pub invariant_of-result : goal.invariant_of-result
invariant_of-result c =
    let all : c.loop.counter ≡ 207 = omega (arith, c.loop-test.false, c.loop.auto.counter-end) in
    c.loop.invariant.1 ∙ ap (λ (n : ℕ). map (drawn c.args.number) (range_with_len 0 n)) all

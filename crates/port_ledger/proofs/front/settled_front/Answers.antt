use Rattle.std.proofs.Common.{◌≡◌, ap, drop, arith, ◌∙◌}
use Rattle.port_ledger.specs.{settled_levels}
use Rattle.std.proofs.lemmas.List.{length-drop}
use Rattle.port_ledger.proofs.Settling.{levels_settled, settled_short}
use Rattle.port_ledger.proofs.front.settled_front.Goals as goal

pub settled_with-settled-requires : goal.settled_with-settled-requires
settled_with-settled-requires c =
    let short = settled_short (drop c.loop-at.at c.args.entries.now) in
    let same = levels_settled (drop c.loop-at.at c.args.entries.now) in
    let long = length-drop c.loop-at.at c.args.entries.now in
    omega (arith, short, same, long, c.loop-at.invariant.1, c.loop-at.invariant.0, c.loop-at-test.true)

pub returns-clause-bound : goal.returns-clause-bound
returns-clause-bound c =
    let short = settled_short (drop c.loop-at.at c.args.entries.now) in
    let same = levels_settled (drop c.loop-at.at c.args.entries.now) in
    let long = length-drop c.loop-at.at c.args.entries.now in
    omega (arith, short, same, long, c.loop-at.invariant.1, c.loop-at.invariant.0)

pub returns-clause-value : goal.returns-clause-value
returns-clause-value c =
    let start : c.loop-at.at ≡ 0 = omega (arith, c.loop-at-test.false) in
    c.loop-at.invariant.1 ∙ (ap (λ n. settled_levels (drop n c.args.entries.now)) start ∙ levels_settled c.args.entries.now)

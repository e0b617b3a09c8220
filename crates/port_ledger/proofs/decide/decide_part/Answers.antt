use Rattle.std.proofs.Common.{◌++◌, take, ap, ◌∙◌}
use Rattle.std.proofs.lemmas.List.{append-nil}
use Rattle.port_ledger.specs.{decided_behind}
use Rattle.port_ledger.proofs.Fronts.{none-past, rest-whole}
use Rattle.port_ledger.proofs.decide.decide_part.Goals as goal

pub returns-clause-order : goal.returns-clause-order
returns-clause-order c =
    ap (λ ys. take c.args.at c.args.order.now ++ (c.decide_behind.new.behind ++ ys)) (none-past c.args.at c.args.order.now)
    ∙ ap (λ ys. take c.args.at c.args.order.now ++ ys)
    (append-nil c.decide_behind.new.behind
    ∙ (c.decide_behind.ensures.behind ∙ ap (decided_behind c.args.now.0 c.args.caps.now c.args.taken) (rest-whole c.args.at c.args.order.now)))

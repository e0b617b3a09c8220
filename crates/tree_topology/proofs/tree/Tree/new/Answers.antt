use Rattle.std.proofs.lemmas.Result.{err_from_is_err_and}
use Rattle.tree_topology.proofs.{RefusalChecks.refusal-fits, RefusalChecks.refusal-none, Refusals.accepted-refusal}
use Rattle.tree_topology.proofs.tree.Tree.new.Goals as goal

pub returns-in_err-routes-clause-refusal : goal.returns-in_err-routes-clause-refusal
returns-in_err-routes-clause-refusal c =
    let p = err_from_is_err_and c.from_residual.result c.from_residual.ensures.1 in
    rw (p.1, p.2) (λ m. refusal-fits c.args.nodes.now c.args.links.now c.in_err-routes.field-0.0 c.in_err-routes.ensures.err m)

pub returns-in_err-routes-clause-accepts : goal.returns-in_err-routes-clause-accepts
returns-in_err-routes-clause-accepts c =
    λ ok. let p = err_from_is_err_and c.from_residual.result c.from_residual.ensures.1 in
    let memory = accepted-refusal c.args.nodes.now c.args.links.now c.in_err-routes.field-0.0 ok c.in_err-routes.ensures.err in
    rw (p.1, p.2, memory)

pub returns-clause-none : goal.returns-clause-none
returns-clause-none c = refusal-none c.args.nodes.now c.args.links.now c.in_ok-routes.ensures.accepted

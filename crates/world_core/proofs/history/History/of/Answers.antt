use Rattle.std.proofs.Common.{sym, ap, subst, [], ◌∙◌}
use Rattle.world_core.specs.{all_changes_of, IsByPort}
use Rattle.world_core.proofs.Histories.{is_by_port, none_joined}
use Rattle.world_core.proofs.history.History.of.Goals as goal

pub invariant_of-result : goal.invariant_of-result
invariant_of-result c = subst (IsByPort c.in_ok-tree.tree) (sym c.in_ok-nodes.ensures) (is_by_port c.in_ok-tree.tree (λ p. []) (λ p. tt))

pub returns-clause-none : goal.returns-clause-none
returns-clause-none c = ap all_changes_of c.in_ok-nodes.ensures ∙ none_joined c.in_ok-tree.tree

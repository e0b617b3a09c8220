use Rattle.tree_topology.proofs.RowFacts.{second-link, rows-step}
use Rattle.tree_topology.proofs.adjacency.neighbour_rows.Goals as goal

pub returns-then-is_joined-clause-err : goal.returns-then-is_joined-clause-err
returns-then-is_joined-clause-err c = (
  c.requires.known,
  c.requires.no_self,
  second-link _ _ _ _ _ _ _ c.requires.known c.loop-i.invariant.0 c.loop-i.invariant.1 c.loop-i-test.true c.deref.ensures.value c.is_joined.ensures c.if-is_joined.true,
)

pub loop-i-preserved : goal.loop-i-preserved
loop-i-preserved c =
    rows-step _ _ _ _ _ _ _ _ c.requires.known c.requires.no_self c.loop-i.invariant.0 c.loop-i.invariant.1
    c.loop-i-test.true c.deref.ensures.value c.is_joined.ensures c.if-is_joined.false c.in_ok-add_link.ensures

use Rattle.std.proofs.Common.{sym, ◌∙◌, leb-true, arith}
use Rattle.tree_topology.proofs.{Links.joined-known, RowFacts.joined-any, RowFacts.any-joined}
use Rattle.tree_topology.proofs.adjacency.Graph.joins.Goals as goal

pub returns-then-from-len : goal.returns-then-from-len
returns-then-from-len c =
    let graph = c.args.self.now in (
      (λ e. joined-any graph.links.items c.args.node c.args.other c.neighbours.result.now c.neighbours.ensures (sym c.is_among.ensures ∙ e)),
      (λ j. c.is_among.ensures ∙ any-joined graph.links.items c.args.node c.args.other c.neighbours.result.now graph.is_graph.no_self c.neighbours.ensures j),
    )

pub returns-else-from-len : goal.returns-else-from-len
returns-else-from-len c =
    let graph = c.args.self.now in (
      (λ e. (let le = leb-true _ _ e in absurd (omega (arith, c.if-from-len.false, le)))),
      (λ j. (let known = joined-known _ _ _ _ graph.is_graph.known j in absurd (omega (arith, c.if-from-len.false, c.from.ensures, c.len.ensures, known.0.1)))),
    )

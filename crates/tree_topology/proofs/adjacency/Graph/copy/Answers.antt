use Rattle.std.proofs.Common.{◌≡◌, ◌<◌, ◌∙◌, ℕ, sym, subst}
use Rattle.std.proofs.lemmas.List.Elements.{same_from_all_zip}
use Rattle.tree_topology.proofs.RowFacts.{graph-as, rows-as}
use Rattle.tree_topology.proofs.adjacency.Graph.copy.Goals as goal

pub invariant_of-result : goal.invariant_of-result
invariant_of-result c =
    let graph = c.args.self.now in
    let kinds : c.in_ok-clone.field-0.items ≡ graph.kinds.items = same_from_all_zip _ _ _ c.in_ok-clone.ensures.cases.0 (λ x y e. e) in
    let links : c.in_ok-clone-2.field-0.items ≡ graph.links.items = same_from_all_zip _ _ _ c.in_ok-clone-2.ensures.cases.0 (λ x y e. e) in
    let rows : c.in_ok-clone-3.field-0.items
    ≡ graph.rows.items = same_from_all_zip _ _ _ c.in_ok-clone-3.ensures.cases.0 (λ x y e. sym e.3
    ∙ same_from_all_zip _ _ _ e.4.0 (λ x y e. e) ∙ e.2) in
    let Few : ℕ → Type 0 = λ n. n < 65536 in
    record {
      few_nodes = subst Few (sym c.in_ok-clone.ensures.cases.1) graph.few_nodes;
      few_links = subst Few (sym c.in_ok-clone-2.ensures.cases.1) graph.few_links;
      is_graph = graph-as _ _ _ _ kinds links graph.is_graph;
      has_rows = rows-as _ _ _ _ _ _ kinds links rows graph.has_rows;
    }

pub returns-clause-kinds : goal.returns-clause-kinds
returns-clause-kinds c = same_from_all_zip _ _ _ c.in_ok-clone.ensures.cases.0 (λ x y e. e)

pub returns-clause-links : goal.returns-clause-links
returns-clause-links c = same_from_all_zip _ _ _ c.in_ok-clone-2.ensures.cases.0 (λ x y e. e)

use Rattle.std.proofs.Common.{◌==◌, List, ℕ, [], ap, ◌∙◌}
use Rattle.std.specs.List.{list_any}
use Rattle.tree_topology.proofs.ListReads.{read-at}
use Rattle.tree_topology.proofs.adjacency.has_neighbour.Goals as goal

pub returns : goal.returns
returns c =
    let row = read-at c.args.rows.now c.args.node c.from.result c.index-rows-from.result [] c.from.ensures c.requires c.index-rows-from.is in
    c.is_among.ensures ∙ ap (λ (t : List ℕ). list_any (λ u. u == c.args.neighbour) t) (c.as_slice.ensures ∙ row)

use Rattle.std.proofs.Common.{◌≡◌, ℕ, List, [], None, length, sym, subst, ap, ◌∙◌}
use Rattle.std.proofs.lemmas.List.{length-map}
use Rattle.srp_base.specs.Firsts.{first_where}
use Rattle.tree_topology.specs.declared.graph.Link.{Link}
use Rattle.tree_topology.specs.Refusal.{has_unknown_end}
use Rattle.topology_file.specs.{NodeEntry}
use Rattle.topology_file.proofs.TreeRules.{known-links}
use Rattle.topology_file.proofs.tree.make_tree.Goals as goal

pub tree_of_ends-requires-clause-known : goal.tree_of_ends-requires-clause-known
tree_of_ends-requires-clause-known c =
    let nodes = c.args.nodes.now in
    let size : length c.deref.result.now ≡ length nodes = ap length (c.deref.ensures.value ∙ c.in_ok-kinds.ensures) ∙ length-map nodes (λ (x : NodeEntry). x.kind) in
    let F : ℕ → Type 0 = λ n. first_where (has_unknown_end n) [] c.deref-2.result.now ≡ None in
    let G : List Link → Type 0 = λ es. first_where (has_unknown_end (length nodes)) [] es ≡ None in
    subst F (sym size) (subst G (sym (c.deref-2.ensures.value ∙ c.in_ok-ends.ensures)) (known-links (length nodes) c.args.links.now c.requires.known))

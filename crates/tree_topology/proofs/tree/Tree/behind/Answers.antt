use Rattle.std.proofs.Common.{◌≡◌, subst}
use Rattle.tree_topology.specs.{is_behind, IsAccepted}
use Rattle.tree_topology.specs.Topology.{Topology}
use Rattle.tree_topology.proofs.PortLaws.{behind-answer}
use Rattle.tree_topology.proofs.tree.Tree.behind.Goals as goal

pub returns-clause-walk : goal.returns-clause-walk
returns-clause-walk c =
    let A : Topology → Type 0 = λ t. IsAccepted t.kinds t.links in
    let B : Topology → Type 0 = λ t. c.behind.result ≡ is_behind t.links c.args.at c.args.node.0 in
    let tree = c.args.self.now in
    let h : IsAccepted tree.kinds tree.links = subst A c.self.view_is c.self.invariant in
    behind-answer tree.kinds tree.links h c.args.at c.args.node.0 c.behind.result c.requires.port c.requires.node (subst B c.self.view_is c.behind.ensures)

use Rattle.std.proofs.Common.{List, ap, subst, ◌∙◌}
use Rattle.std.proofs.lemmas.Result.{IfOk-weaker}
use Rattle.srp_base.specs.declared.numbers.EgressPort.{EgressPort}
use Rattle.tree_topology.specs.{IsPortPath, path_between, IsAccepted}
use Rattle.tree_topology.specs.Topology.{Topology}
use Rattle.tree_topology.proofs.PortLaws.{path-answer}
use Rattle.tree_topology.proofs.tree.Tree.path.Goals as goal

pub returns-clause-walk : goal.returns-clause-walk
returns-clause-walk c =
    let A : Topology → Type 0 = λ t. IsAccepted t.kinds t.links in
    let path : Topology → List EgressPort = λ t. path_between t.links c.args.from.0 c.args.to.0 in
    let tree = c.args.self.now in
    let h : IsAccepted tree.kinds tree.links = subst A c.self.view_is c.self.invariant in
    IfOk-weaker c.find_path.result _
    (λ (ports : List EgressPort). IsPortPath tree.links c.args.from.0 c.args.to.0 ports)
    (λ ports e. path-answer tree.kinds tree.links h c.args.from.0 c.args.to.0 ports c.requires.from c.requires.to
    (e ∙ ap path c.self.view_is)) c.find_path.ensures

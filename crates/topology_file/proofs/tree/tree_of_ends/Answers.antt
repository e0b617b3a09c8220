use Rattle.std.proofs.Common.{length, sym}
use Rattle.std.proofs.lemmas.Result.{err_from_is_err_and}
use Rattle.tree_topology.specs.Topology.{Topology}
use Rattle.topology_file.proofs.TreeRules.{ends-refused, ends-passed, links-few}
use Rattle.topology_file.proofs.tree.tree_of_ends.Goals as goal

pub returns-in_err-check_ends : goal.returns-in_err-check_ends
returns-in_err-check_ends c =
    let p = err_from_is_err_and c.from_residual.result c.from_residual.ensures.1 in
    let tree : Topology = record { kinds = c.args.kinds.now; links = c.args.ends.now } in
    rw (p.1, p.2) (ends-refused tree c.args.kinds.now c.args.ends.now c.in_err-check_ends.field-0.0 c.requires.known (sym c.in_err-check_ends.ensures))

pub new-requires-clause-few_links : goal.new-requires-clause-few_links
new-requires-clause-few_links c =
    let passed = ends-passed c.args.ends.now _ (sym c.in_ok-check_ends.ensures) in
    let tree : Topology = record { kinds = c.args.kinds.now; links = c.args.ends.now } in
    let graph = c.refusals.ensures.graph tree c.requires.known passed.0 passed.1 in
    links-few (length c.args.kinds.now) (length c.args.ends.now) c.requires.few (c.few_links.ensures.all (length c.args.kinds.now) c.args.ends.now graph)

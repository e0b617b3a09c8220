use Rattle.std.proofs.Common.{◌≡◌, ◌∙◌, List}
use Rattle.std.proofs.lemmas.Result.{IfOk-weaker}
use Rattle.srp_base.specs.declared.numbers.EgressPort.{EgressPort}
use Rattle.tree_topology.specs.{path_between}
use Rattle.tree_topology.proofs.RouteFacts.{made-end}
use Rattle.tree_topology.proofs.climb.find_path.Goals as goal

pub returns : goal.returns
returns c =
    let done = made-end c.args.routes.now.links c.loop-climb.climb.here c.loop-climb.climb.there c.loop-climb.climb.ups.items c.loop-climb.climb.downs.items
    (path_between c.args.routes.now.links c.args.from.0 c.args.to.0) c.loop-climb.invariant.path c.loop-climb-test.false in
    IfOk-weaker c.finish.result _ (λ (ports : List EgressPort). ports
    ≡ path_between c.args.routes.now.links c.args.from.0 c.args.to.0) (λ ports e. e ∙ done) c.finish.ensures

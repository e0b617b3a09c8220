use Rattle.std.proofs.Common.{◌∙◌}
use Rattle.std.proofs.lemmas.List.Elements.{same_from_all_zip}
use Rattle.tree_topology.proofs.RouteFacts.{routed-as, routed-same}
use Rattle.tree_topology.proofs.routes.Routes.copy.Goals as goal

pub invariant_of-result : goal.invariant_of-result
invariant_of-result c =
    let parents = same_from_all_zip _ _ _ c.in_ok-clone.ensures.cases.0 (λ x y e. e) in
    let depths = same_from_all_zip _ _ _ c.in_ok-clone-2.ensures.cases.0 (λ x y e. e) in
    routed-as _ _ _ _ _ _ _ _ c.in_ok-copy.ensures.kinds c.in_ok-copy.ensures.links parents depths c.self.invariant

pub returns : goal.returns
returns c =
    let parents = same_from_all_zip _ _ _ c.in_ok-clone.ensures.cases.0 (λ x y e. e) in
    let depths = same_from_all_zip _ _ _ c.in_ok-clone-2.ensures.cases.0 (λ x y e. e) in
    routed-same _ _ _ _ _ _ _ _ c.in_ok-copy.ensures.kinds c.in_ok-copy.ensures.links parents depths ∙ c.self.view_is

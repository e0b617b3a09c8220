use Rattle.std.proofs.Common.{List, ℕ, refl, sym, ap, subst, ◌∙◌, arith}
use Rattle.tree_topology.specs.{Joined, index_in, Routed}
use Rattle.tree_topology.proofs.RouteFacts.{port-fits}
use Rattle.tree_topology.proofs.routes.Routes.port_to.Goals as goal

pub neighbours-requires : goal.neighbours-requires
neighbours-requires c =
    let F : Routed → Type 0 = λ r. Joined r.links c.args.node c.args.neighbour in
    (port-fits _ _ _ _ c.args.node c.args.neighbour _ c.self.invariant (subst F (sym c.self.view_is) c.requires) refl).0

pub overflow_add-result : goal.overflow_add-result
overflow_add-result c =
    let F : Routed → Type 0 = λ r. Joined r.links c.args.node c.args.neighbour in
    let fits = port-fits _ _ _ _ c.args.node c.args.neighbour c.place_of-place.result c.self.invariant
    (subst F (sym c.self.view_is) c.requires) (c.place_of-place.ensures
    ∙ ap (λ (t : List ℕ). index_in c.args.neighbour t) c.neighbours.ensures) in
    omega (arith, fits.1)

pub overflow_cast-result : goal.overflow_cast-result
overflow_cast-result c =
    let F : Routed → Type 0 = λ r. Joined r.links c.args.node c.args.neighbour in
    let fits = port-fits _ _ _ _ c.args.node c.args.neighbour c.place_of-place.result c.self.invariant
    (subst F (sym c.self.view_is) c.requires) (c.place_of-place.ensures
    ∙ ap (λ (t : List ℕ). index_in c.args.neighbour t) c.neighbours.ensures) in
    omega (arith, fits.1)

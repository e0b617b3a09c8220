use Rattle.std.proofs.Common.{◌≡◌, ◌≤◌, ◌∙◌, length, sym, ap, subst}
use Rattle.tree_topology.specs.{Link, Joined, port_to, link_at, Routed}
use Rattle.tree_topology.proofs.{Links.joined-sym, RouteFacts.link-ends}
use Rattle.tree_topology.proofs.routes.Routes.ends.Goals as goal

pub port_to-requires : goal.port_to-requires
port_to-requires c =
    let F : Routed → Type 0 = λ r. Joined r.links c.index.result.now.a.0 c.index.result.now.b.0 in
    let L : Routed → Type 0 = λ r. c.args.link.0 ≤ length r.links in
    subst F c.self.view_is
    (link-ends _ _ _ _ c.args.link.0 c.from.result c.index.result.now c.self.invariant c.requires.first
    (subst L (sym c.self.view_is) c.requires.last) c.from.ensures c.index.ensures).0

pub port_to-requires-2 : goal.port_to-requires-2
port_to-requires-2 c =
    let F : Routed → Type 0 = λ r. Joined r.links c.index.result.now.b.0 c.index.result.now.a.0 in
    let L : Routed → Type 0 = λ r. c.args.link.0 ≤ length r.links in
    subst F c.self.view_is (joined-sym _ c.index.result.now.a.0 c.index.result.now.b.0
    (link-ends _ _ _ _ c.args.link.0 c.from.result c.index.result.now c.self.invariant c.requires.first
    (subst L (sym c.self.view_is) c.requires.last) c.from.ensures c.index.ensures).0)

pub returns : goal.returns
returns c =
    let L : Routed → Type 0 = λ r. c.args.link.0 ≤ length r.links in
    let A : Routed → Type 0 = λ r. c.index.result.now ≡ link_at r.links c.args.link.0 in
    let links = c.args.self.now.links in
    let at : c.index.result.now ≡ link_at links c.args.link.0 = subst A c.self.view_is
    (link-ends _ _ _ _ c.args.link.0 c.from.result c.index.result.now c.self.invariant c.requires.first
    (subst L (sym c.self.view_is) c.requires.last) c.from.ensures c.index.ensures).1 in
    let one = c.port_to.ensures ∙ ap (λ (l : Link). port_to links l.a.0 l.b.0) at in
    let two = c.port_to-2.ensures ∙ ap (λ (l : Link). port_to links l.b.0 l.a.0) at in
    cc

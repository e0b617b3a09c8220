use Rattle.std.proofs.Common.{ℕ, false, sym, ap, subst, ◌∙◌}
use Rattle.std.specs.Option.{option_map_or}
use Rattle.tree_topology.specs.Topology.{HasNode}
use Rattle.flat_side.specs.Holding.{SideHolding}
use Rattle.link_net.specs.Net.{seen}
use Rattle.link_node.specs.State.{state_of}
use Rattle.mmrp.specs.{NodeGroups, NetGroups, has_joined, is_joined_at}
use Rattle.mmrp.proofs.Bridges.{joined_is}
use Rattle.mmrp.proofs.net.GroupNet.has_joined.Goals as goal

pub returns : goal.returns
returns c =
    let w : NetGroups = seen (state_of (λ (side : SideHolding ℕ). side.state)) c.self.inside.net in
    let has : HasNode w.tree c.args.node.0 = subst (λ (v : NetGroups). HasNode v.tree c.args.node.0) (sym c.self.view_is) c.requires in
    c.declares.ensures
    ∙ (ap (λ (side : SideHolding ℕ). has_joined c.args.mac side.state) c.app.ensures
    ∙ (sym (joined_is w c.keeps.ensures c.args.mac c.args.node.0 has
    ∙ ap (λ o. option_map_or (λ (s : NodeGroups). has_joined c.args.mac s.app) o false) c.node.ensures)
    ∙ ap (λ (v : NetGroups). is_joined_at v c.args.mac c.args.node.0) c.self.view_is))

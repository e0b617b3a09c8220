use Rattle.std.proofs.Common.{◌≡◌, ℕ, ◌<◌, length, sym, ap, ◌∙◌, subst, rules, []}
use Rattle.std.specs.Prelude.{Option, ◌^◌}
use Rattle.std.specs.Option.{option_map_or}
use Rattle.srp_base.specs.declared.numbers.EgressPort.{EgressPort}
use Rattle.tree_topology.specs.{Topology.Topology, Topology.HasPort, Ports.peer_of}
use Rattle.attribute_propagation.specs.Ports.{place_of}
use Rattle.node_core.specs.State.{NodeState, box_at}
use Rattle.world_core.specs.World.{inbox, outbox}
use Rattle.world_core.proofs.LinkPorts.{link-port}
use Rattle.port_worker.proofs.MarkLemmas.{few_counted}
use Rattle.port_worker.proofs.gather.few_from.Goals as goal

pub node-requires : goal.node-requires
node-requires c =
    let w = c.args.world.now in
    let kept = c.keeps.ensures in
    let is : c.peer-peer.result ≡ peer_of w.tree.links c.args.at = c.peer-peer.ensures ∙ ap (λ (t : Topology). peer_of t.links c.args.at) c.tree.ensures in
    (subst (HasPort w.tree) (sym is) ((c.ports.ensures w.tree kept.tree).peer_port c.args.at c.requires)).0

pub pending_pdus-coming-requires : goal.pending_pdus-coming-requires
pending_pdus-coming-requires c =
    let w = c.args.world.now in
    let kept = c.keeps.ensures in
    let is : c.peer-peer.result ≡ peer_of w.tree.links c.args.at = c.peer-peer.ensures ∙ ap (λ (t : Topology). peer_of t.links c.args.at) c.tree.ensures in
    link-port w kept c.peer-peer.result (subst (HasPort w.tree) (sym is) ((c.ports.ensures w.tree kept.tree).peer_port c.args.at c.requires)) c.node.result.now.state c.node.ensures

pub outgoing_pdus-going-requires : goal.outgoing_pdus-going-requires
outgoing_pdus-going-requires c = link-port c.args.world.now c.keeps.ensures c.args.at c.requires c.node-2.result.now.state c.node-2.ensures

pub returns : goal.returns
returns c = λ app.
    let w = c.args.world.now in
    let kept = c.keeps.ensures in
    let is : c.peer-peer.result ≡ peer_of w.tree.links c.args.at = c.peer-peer.ensures ∙ ap (λ (t : Topology). peer_of t.links c.args.at) c.tree.ensures in
    let q = c.peer-peer.result in
    let few_in : c.pending_pdus-coming.result < 2 ^ 64 = search rules in
    let few_out : c.outgoing_pdus-going.result < 2 ^ 64 = search rules in
    let ins : c.pending_pdus-coming.result ≡ length (inbox (peer_of w.tree.links c.args.at) w) =
    c.pending_pdus-coming.ensures
    ∙ (sym (ap (λ (o : Option NodeState). length (option_map_or (λ s. box_at (place_of q.port) s.inboxes) o [])) c.node.ensures)
    ∙ ap (λ (r : EgressPort). length (inbox r w)) is) in
    let outs : c.outgoing_pdus-going.result ≡ length (outbox c.args.at w) =
    c.outgoing_pdus-going.ensures ∙ sym (ap (λ (o : Option NodeState). length (option_map_or (λ s. box_at (place_of c.args.at.port) s.outboxes) o [])) c.node-2.ensures) in
    few_counted w kept (c.ports.ensures w.tree kept.tree) app c.args.at c.requires
    (subst (λ (n : ℕ). n < 2 ^ 64) ins few_in) (subst (λ (n : ℕ). n < 2 ^ 64) outs few_out)

use Rattle.std.proofs.Common.{◌≡◌, ℕ, ◌+◌, ◌-◌, length, vec_len, ap, sym, ◌∙◌, arith, rules}
use Rattle.tree_topology.specs.Ports.{neighbours}
use Rattle.node_core.specs.State.{ports_of}
use Rattle.world_core.specs.{ComeUpTo}
use Rattle.std.specs.List.{AllByRecursion}
use Rattle.srp_base.proofs.Arithmetic.{on_ok}
use Rattle.world_core.proofs.Histories.{by_port_long, each_read, node_long, node_is_noted}
use Rattle.world_core.proofs.history.note_node.Goals as goal

pub index_mut-requires : goal.index_mut-requires
index_mut-requires c =
    let tree = c.args.world.now.tree in
    let own = c.requires.shape.0 in
    let items = c.args.nodes.now.items in
    let long : length items ≡ length tree.kinds = ap length c.requires.shape.1 ∙ by_port_long tree own in
    let count : vec_len c.args.nodes.now ≡ length items = search rules in
    omega (arith, c.from.ensures, c.requires.node.0, c.requires.node.1, long, count)

pub note-requires-clause-ports : goal.note-requires-clause-ports
note-requires-clause-ports c =
    let w = c.args.world.now in
    let x = c.args.number.0 in
    let some = c.requires.node.0 in
    let ports : ports_of c.node-node.result.now.state ≡ length (neighbours w.tree.links x) =
    (c.keeps.ensures.nodes (x - 1) c.node-node.result.now.state c.node-node.ensures).ports ∙ ap (λ (y : ℕ). length (neighbours w.tree.links y)) (let e : x - 1 + 1 ≡ x = omega arith in e) in
    node_long c.args.tick c.args.number w c.requires.shape.0 w.tree c.args.nodes.now.items c.requires.shape.1 c.requires.node (c.from.result - 1) c.index_mut.result.now
    (ap (λ (i : ℕ). i - 1) c.from.ensures) c.index_mut.ensures.value ∙ sym ports

pub note-requires-clause-upto : goal.note-requires-clause-upto
note-requires-clause-upto c =
    let tree = c.args.world.now.tree in
    let items = c.args.nodes.now.items in
    let long : length items ≡ length tree.kinds = ap length c.requires.shape.1 ∙ by_port_long tree c.requires.shape.0 in
    each_read (AllByRecursion (ComeUpTo c.args.tick)) items (c.from.result - 1) c.index_mut.result.now c.requires.upto
    (omega (arith, c.from.ensures, c.requires.node.0, c.requires.node.1, long)) c.index_mut.ensures.value

pub returns : goal.returns
returns c =
    let w = c.args.world.now in
    on_ok c.note.result
    (λ is own before. node_is_noted c.args.tick c.args.number w own w.tree c.args.nodes.now.items before c.requires.node
    (c.from.result - 1) c.node-node.result.now.state c.index_mut.result.now c.note.new.self
    (ap (λ (i : ℕ). i - 1) c.from.ensures) c.index_mut.ensures.value c.node-node.ensures is) c.note.ensures

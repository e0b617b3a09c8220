use Rattle.std.proofs.Common.{◌≡◌, length, vec_len, arith, rules}
use Rattle.link_net.proofs.Acting.{each_state, each_read, none_ticked, next_as_before, ticked_more, all_ticked}
use Rattle.link_net.proofs.happen.tick_each.Goals as goal

pub loop-i-init : goal.loop-i-init
loop-i-init g c = none_ticked g.N.LinkNode.state (g.N.LinkNode.meaning.ticked c.args.now) c.args.nodes.now.items

pub tick-requires-clause-can : goal.tick-requires-clause-can
tick-requires-clause-can g c =
    let nodes = c.args.nodes.now.items in
    let count : vec_len c.args.nodes.now ≡ length nodes = search rules in
    each_state g.N.LinkNode.state (g.N.LinkNode.meaning.CanTick c.args.now) nodes c.loop-i.i c.index_mut.result.now c.requires.can
    (omega (arith, c.loop-i-test.true, c.len-i-end.ensures, count))
    (next_as_before g.N.LinkNode.state (g.N.LinkNode.meaning.ticked c.args.now) c.loop-i.i nodes c.loop-i.nodes.items c.index_mut.result.now c.loop-i.invariant c.index_mut.ensures.value)

pub tick-requires-clause-ready : goal.tick-requires-clause-ready
tick-requires-clause-ready g c =
    let nodes = c.args.nodes.now.items in
    let count : vec_len c.args.nodes.now ≡ length nodes = search rules in
    each_read g.N.LinkNode.is_ready nodes c.loop-i.i c.index_mut.result.now c.requires.ready
    (omega (arith, c.loop-i-test.true, c.len-i-end.ensures, count))
    (next_as_before g.N.LinkNode.state (g.N.LinkNode.meaning.ticked c.args.now) c.loop-i.i nodes c.loop-i.nodes.items c.index_mut.result.now c.loop-i.invariant c.index_mut.ensures.value)

pub loop-i-preserved : goal.loop-i-preserved
loop-i-preserved g c =
    ticked_more g.N.LinkNode.state (g.N.LinkNode.meaning.ticked c.args.now) c.loop-i.i c.args.nodes.now.items c.loop-i.nodes.items c.index_mut.result.now c.tick.new.self
    c.loop-i.invariant c.index_mut.ensures.value c.tick.ensures

pub returns : goal.returns
returns g c =
    let nodes = c.args.nodes.now.items in
    let count : vec_len c.args.nodes.now ≡ length nodes = search rules in
    all_ticked g.N.LinkNode.state (g.N.LinkNode.meaning.ticked c.args.now) c.loop-i.i nodes c.loop-i.nodes.items
    (omega (arith, c.loop-i-test.false, c.len-i-end.ensures, count)) c.loop-i.invariant

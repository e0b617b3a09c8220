use Rattle.std.proofs.Common.{◌∙◌}
use Rattle.world_core.proofs.Happenings.{readied_more, same_states}
use Rattle.world_core.proofs.happen.make_room.Goals as goal

pub returns-in_err-clock_room-clause-states : goal.returns-in_err-clock_room-clause-states
returns-in_err-clock_room-clause-states c =
    same_states c.loop-i.nodes.items c.loop-i.i c.index_mut.result.now c.clock_room.new.self c.index_mut.ensures.value c.clock_room.ensures.state ∙ c.loop-i.invariant.states

pub loop-i-preserved : goal.loop-i-preserved
loop-i-preserved c =
    readied_more c.args.nodes.now.items c.loop-i.nodes.items c.loop-i.i c.index_mut.result.now c.clock_room.new.self
    c.loop-i.invariant c.index_mut.ensures.value c.clock_room.ensures.state c.in_ok-clock_room.ensures.ready

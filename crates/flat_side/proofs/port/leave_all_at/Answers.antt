use Rattle.mrp_participant.specs.State.{leave_all_state}
use Rattle.flat_side.proofs.Changing.{changed_is}
use Rattle.flat_side.proofs.port.leave_all_at.Goals as goal

pub returns : goal.returns
returns g c = λ sets own.
    changed_is c.args.parts.now.items sets own c.args.at c.index_mut.result.now c.leaveall_due.new.self
    (leave_all_state c.args.now) c.requires.place c.index_mut.ensures.value c.leaveall_due.ensures.after

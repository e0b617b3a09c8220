use Rattle.mrp_participant.specs.State.{leave_all_state}
use Rattle.msrp.proofs.InPlace.{changed_is}
use Rattle.msrp.proofs.in_place.leave_all_at.Goals as goal

pub returns : goal.returns
returns c = λ sets talks listens moment.
    changed_is c.args.ports.now.items sets talks listens moment c.args.at c.index_mut.result.now c.leaveall_due.new.self
    (leave_all_state c.args.now) c.requires.place c.index_mut.ensures.value c.leaveall_due.ensures

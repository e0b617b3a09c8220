use Rattle.mrp_participant.specs.State.{sent_state}
use Rattle.flat_side.proofs.Changing.{changed_is}
use Rattle.flat_side.proofs.port.sent_at.Goals as goal

pub returns : goal.returns
returns g c = λ sets own.
    changed_is c.args.parts.now.items sets own c.args.at c.index_mut.result.now c.sent.new.self
    (sent_state g.A.MrpApp.base g.A.MrpApp.octets g.A.Key.Ord.cmp c.args.now) c.requires.place c.index_mut.ensures.value c.sent.ensures.after

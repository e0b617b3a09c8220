use Rattle.mrp_participant.specs.State.{periodic_state}
use Rattle.flat_side.proofs.Changing.{changed_is}
use Rattle.flat_side.proofs.port.periodic_at.Goals as goal

pub returns : goal.returns
returns g c = λ sets own.
    changed_is c.args.parts.now.items sets own c.args.at c.index_mut.result.now c.periodic_due.new.self (periodic_state) c.requires c.index_mut.ensures.value c.periodic_due.ensures.after

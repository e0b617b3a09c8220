use Rattle.mrp_participant.specs.State.{periodic_state}
use Rattle.msrp.proofs.InPlace.{changed_is}
use Rattle.msrp.proofs.in_place.periodic_at.Goals as goal

pub returns : goal.returns
returns c = λ sets talks listens moment.
    changed_is c.args.ports.now.items sets talks listens moment c.args.at c.index_mut.result.now c.periodic_due.new.self (periodic_state) c.requires c.index_mut.ensures.value c.periodic_due.ensures

use Rattle.msrp.specs.{sent_part}
use Rattle.msrp.proofs.InPlace.{changed_is}
use Rattle.msrp.proofs.in_place.sent_at.Goals as goal

pub returns : goal.returns
returns c = λ sets talks listens moment.
    changed_is c.args.ports.now.items sets talks listens moment c.args.at c.index_mut.result.now c.sent.new.self (sent_part c.args.now) c.requires.place c.index_mut.ensures.value c.sent.ensures

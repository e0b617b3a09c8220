use Rattle.std.proofs.Common.{false}
use Rattle.msrp.specs.Part.{Part}
use Rattle.msrp.proofs.InPlace.{changed_is}
use Rattle.msrp.proofs.in_place.spoil_at.Goals as goal

pub returns : goal.returns
returns c = λ sets talks listens moment.
    changed_is c.args.ports.now.items sets talks listens moment c.args.at c.index_mut.result.now c.spoil.new.self
    (λ (s : Part). record s { sound = false }) c.requires c.index_mut.ensures.value c.spoil.ensures

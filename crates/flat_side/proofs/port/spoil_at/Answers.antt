use Rattle.std.proofs.Common.{false}
use Rattle.flat_side.specs.Part.{Part}
use Rattle.flat_side.proofs.Changing.{changed_is}
use Rattle.flat_side.proofs.port.spoil_at.Goals as goal

pub returns : goal.returns
returns g c = λ sets own.
    changed_is c.args.parts.now.items sets own c.args.at c.index_mut.result.now c.spoil.new.self
    (λ (s : Part g.row.A-Key.Denot). record s { sound = false }) c.requires c.index_mut.ensures.value c.spoil.ensures.after

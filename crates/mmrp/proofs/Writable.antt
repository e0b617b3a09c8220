-- What fits into 1,500 octets can be written.
use Rattle.std.proofs.Common.{ℕ, Bool, List, arith}
use Rattle.srp_base.specs.declared.mrp.MrpEvent.{MrpEvent}
use Rattle.mmrp_codec.specs.Writing.{IsWritable}
use Rattle.attribute_propagation.proofs.Lists.{some_or}
use Rattle.flat_side.specs.Codec.{IsFitting}

pub writable : (leave : Bool) (events : List (MrpEvent × ℕ)) → IsFitting 22 9 leave events → IsWritable (record { leave_all = leave; events = events })
writable leave events fitting =
    record {
      some = some_or leave events fitting.says;
      few = let fits = fitting.fits in omega (arith, fits);
    }

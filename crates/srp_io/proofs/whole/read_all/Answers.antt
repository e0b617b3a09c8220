use Rattle.std.proofs.Common.{◌++◌, take}
use Rattle.std.proofs.KnownBytes.{Consumes-trans}
use Rattle.srp_io.proofs.Moves.{on_err}
use Rattle.srp_io.proofs.whole.read_all.Goals as goal

pub returns-in_err-extend_from_slice-clause-given : goal.returns-in_err-extend_from_slice-clause-given
returns-in_err-extend_from_slice-clause-given g c =
    on_err c.from_residual-in_err-extend_from_slice.result (
      c.loop-chunk.octets.items ++ take c.in_ok-count.count c.read.new.buf,
      Consumes-trans _ _ _ _ _ c.loop-chunk.invariant.consumed c.in_ok-count.ensures.octets.0,
    )

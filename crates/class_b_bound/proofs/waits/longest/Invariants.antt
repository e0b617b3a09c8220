-- The waits up to a bit time, and the pieces that tile the rest.
use Rattle.std.proofs.Common.{◌≤◌, drop}
use Rattle.credit_shaper.specs.Pieces.{ArePieces}
use Rattle.class_b_bound.specs.{IsWaits}
use Rattle.class_b_bound.proofs.waits.longest.Given as goal

abbrev pub invariant-loop-piece : goal.invariant-loop-piece
invariant-loop-piece l =
    record {
      waits : IsWaits l.input l.waits;
      pieces : ArePieces l.input l.waits.bit l.input.end (drop l.piece-index l.pieces);
      now : l.waits.now ≤ l.waits.bit;
    }

-- What the class has up to here, and the pieces that tile the rest.
use Rattle.std.proofs.Common.{◌*◌, ◌^◌, ◌≤◌, drop}
use Rattle.class_service.proofs.ServiceLemmas.{IsServedTo}
use Rattle.class_service.proofs.service.service_over.Given as goal

abbrev pub invariant-loop-piece : goal.invariant-loop-piece
invariant-loop-piece l =
    record {
      served : IsServedTo l.input l.class l.from l.to l.at l.service (drop l.piece-index l.pieces);
      within : l.at ≤ l.to;
      bits : l.service.bits ≤ l.at;
      area : l.service.area ≤ l.at * 2 ^ 34;
    }

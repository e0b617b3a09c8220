use Rattle.std.proofs.Common.{◌≡◌, map, take}
use Rattle.frame_flow.specs.{IsInForce, verdicts_of, arrivals_of}
use Rattle.frame_flow.proofs.verdicts.Verdicts.on.Given as goal

abbrev pub invariant-loop-c : goal.invariant-loop-c
invariant-loop-c l = record {
  all : l.verdicts.all.items ≡ verdicts_of l.rate (map (λ c. c.now) l.changes) (take l.c-index l.copies);
  arrivals : l.verdicts.arrivals.items ≡ arrivals_of l.rate (map (λ c. c.now) l.changes) (take l.c-index l.copies);
  force : IsInForce l.rate l.changes l.force;
}

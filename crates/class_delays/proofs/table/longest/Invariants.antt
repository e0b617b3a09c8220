use Rattle.std.proofs.Common.{◌≡◌, drop, map}
use Rattle.std.specs.Prelude.{max}
use Rattle.class_delays.specs.{longest_of}
use Rattle.class_delays.proofs.table.longest.Given as goal

abbrev pub invariant-loop-f : goal.invariant-loop-f
invariant-loop-f l = max l.most (longest_of (map (λ f. f.stream) (drop l.f-index l.fed))) ≡ longest_of (map (λ f. f.stream) l.fed)

use Rattle.std.proofs.Common.{◌≡◌, drop}
use Rattle.std.specs.Prelude.{find}
use Rattle.class_delays.specs.{is_same}
use Rattle.class_delays.proofs.table.stream_in.Given as goal

abbrev pub invariant-loop-f : goal.invariant-loop-f
invariant-loop-f l = find (λ f. is_same f.stream l.stream) (drop l.f-index l.fed) ≡ find (λ f. is_same f.stream l.stream) l.fed

use Rattle.capture_file.specs.{per_second}
use Rattle.capture_file.proofs.MomentLemmas.{kept_ns}
use Rattle.capture_file.proofs.laws.moments_are_exact.Goals as goal

pub returns : goal.returns
returns c = λ resolution ticks lt. kept_ns (per_second resolution) ticks lt

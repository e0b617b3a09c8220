use Rattle.mrp_participant.proofs.EachKey.{each-mapped}
use Rattle.std.proofs.Common.{refl}
use Rattle.mrp_participant.specs.{periodic_row}
use Rattle.mrp_participant.proofs.laws.each_key_after_periodic.Goals as goal

pub returns : goal.returns
returns g c = λ s k. each-mapped g.met.A.Key.Ord.total periodic_row (λ r. refl) s.rows k

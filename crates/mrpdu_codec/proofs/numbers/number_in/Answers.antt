use Rattle.std.proofs.Common.{arith}
use Rattle.mrpdu_codec.proofs.NumberLemmas.{number_more, below_more, room_for_one}
use Rattle.mrpdu_codec.proofs.numbers.number_in.Goals as goal

pub overflow_mul-number : goal.overflow_mul-number
overflow_mul-number c = omega (arith, room_for_one c.loop-octet.octet-index c.loop-octet.number c.loop-octet.invariant.1 (omega arith))

pub overflow_add-number : goal.overflow_add-number
overflow_add-number c =
    omega (arith, room_for_one c.loop-octet.octet-index c.loop-octet.number c.loop-octet.invariant.1 (omega arith), c.type_inv.octets c.loop-octet.octet-index, c.from.ensures)

pub loop-octet-preserved : goal.loop-octet-preserved
loop-octet-preserved c = (
  number_more c.args.octets.now c.loop-octet.octet-index c.loop-octet.number c.from.result c.loop-octet-test.true c.loop-octet.invariant.0 c.from.ensures,
  below_more c.loop-octet.octet-index c.loop-octet.number c.from.result c.loop-octet.invariant.1 (omega (arith, c.type_inv.octets c.loop-octet.octet-index, c.from.ensures)),
)

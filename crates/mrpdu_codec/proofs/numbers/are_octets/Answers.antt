use Rattle.std.proofs.Common.{arith}
use Rattle.mrpdu_codec.proofs.OctetLemmas.{each-octet}
use Rattle.mrpdu_codec.proofs.numbers.are_octets.Goals as goal

pub returns : goal.returns
returns c = each-octet c.args.octets.now (λ i. omega (arith, c.type_inv.octets i))

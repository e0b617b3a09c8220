use Rattle.std.proofs.Common.{◌≡◌, ◌<◌, ◌^◌, take}
use Rattle.srp_base.specs.Hexadecimal.{number_high_first}
use Rattle.mrpdu_codec.proofs.numbers.number_in.Given as goal

abbrev pub invariant-loop-octet : goal.invariant-loop-octet
invariant-loop-octet l = (l.number ≡ number_high_first (take l.octet-index l.octets)) × (l.number < 256 ^ l.octet-index)

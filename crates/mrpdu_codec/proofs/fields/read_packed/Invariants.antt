use Rattle.std.proofs.Common.{◌≤◌, length, take}
use Rattle.mrpdu_codec.specs.{AllUpTo}
use Rattle.mrpdu_codec.proofs.fields.read_packed.Given as goal

abbrev pub invariant-loop-i : goal.invariant-loop-i
invariant-loop-i l = (l.i ≤ length l.octets) × AllUpTo l.limit (take l.i l.octets)

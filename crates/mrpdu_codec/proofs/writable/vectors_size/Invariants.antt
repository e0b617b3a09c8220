use Rattle.std.proofs.Common.{◌≡◌, ◌-◌, ◌^◌, min, length, take}
use Rattle.mrpdu_codec.specs.{vectors_octets, vectors_for}
use Rattle.mrpdu_codec.proofs.writable.vectors_size.Given as goal

abbrev pub invariant-loop-v : goal.invariant-loop-v
invariant-loop-v l = l.size ≡ min (length (vectors_octets (vectors_for (take l.v-index l.vs)))) (2 ^ 64 - 1)

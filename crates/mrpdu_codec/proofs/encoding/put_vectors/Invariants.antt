use Rattle.std.proofs.Common.{◌≡◌, ◌++◌, take}
use Rattle.mrpdu_codec.specs.{vectors_octets, vectors_for}
use Rattle.mrpdu_codec.proofs.encoding.put_vectors.Given as goal

abbrev pub invariant-loop-v : goal.invariant-loop-v
invariant-loop-v l = l.out.items ≡ l.initial.out.items ++ vectors_octets (vectors_for (take l.v-index l.vs))

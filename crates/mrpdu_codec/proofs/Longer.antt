-- A vector and a Message take two octets or more.
use Rattle.std.proofs.Common.{◌≡◌, ℕ, suc, ◌+◌, ◌≤◌, List, ◌++◌, length, ap, length-append, arith}
use Rattle.mrpdu_codec.specs.{Vector, vector_octets, MessageTree, message_octets, list_octets}

pub vector_longer : (octets : List ℕ) (v : Vector) (rest : List ℕ) → octets ≡ vector_octets v ++ rest → length rest + 2 ≤ length octets
vector_longer octets v rest e = grind (arith, length-append)

pub message_longer : (octets : List ℕ) (b : MessageTree) (rest : List ℕ) → octets ≡ message_octets b ++ rest → length rest + 2 ≤ length octets
message_longer octets b rest e = grind (arith, length-append)

use Rattle.std.proofs.Common.{◌≡◌, true, drop}
use Rattle.replay_words.specs.{cut_from}
use Rattle.replay_words.proofs.cut.cut_place.Given as goal

-- the place is that in the octets that are left
abbrev pub invariant-loop-octet : goal.invariant-loop-octet
invariant-loop-octet l = record {
  place : cut_from l.place l.begins (drop l.octet-index l.octets) ≡ cut_from 0 true l.octets;
  same : l.place ≡ l.octet-index;
}

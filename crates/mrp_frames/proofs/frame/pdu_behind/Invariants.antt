use Rattle.std.proofs.Common.{◌≡◌, length}
use Rattle.mrp_frames.specs.{pdu_behind}
use Rattle.mrp_frames.proofs.frame.pdu_behind.Given as goal

-- what stands behind the tags that were passed is what stands behind all
abbrev pub invariant-more : goal.invariant-more
invariant-more l = pdu_behind l.number l.rest ≡ pdu_behind l.initial.number l.octets

abbrev pub decreases-more : goal.decreases-more
decreases-more l = length l.rest

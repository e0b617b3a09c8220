use Rattle.std.proofs.Common.{◌≡◌, drop}
use Rattle.capture_file.specs.Packets.{packets_in}
use Rattle.replay_words.specs.{first_but}
use Rattle.replay_words.proofs.ends.first_but.Given as goal

-- the first of all is the first of the frames that are left
abbrev pub invariant-loop-record : goal.invariant-loop-record
invariant-loop-record l =
    first_but l.known (packets_in (drop l.record-index l.records)) ≡ first_but l.known (packets_in l.records)

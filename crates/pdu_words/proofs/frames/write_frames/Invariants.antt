use Rattle.std.proofs.Common.{◌≡◌, ◌+◌, ◌^◌, ◌<◌, ◌≤◌, ◌++◌, length, drop, string_bytes}
use Rattle.std.specs.List.{AllByRecursion}
use Rattle.capture_file.specs.Packets.{packets_in}
use Rattle.pdu_words.specs.{frames_said, mrp_count}
use Rattle.pdu_words.proofs.frames.write_frames.Given as goal

-- the text so far with what the frames that are left say is the whole, and so it is with how many are MRP's
abbrev pub invariant-loop-record : goal.invariant-loop-record
invariant-loop-record l = record {
  said : string_bytes l.out ++ frames_said l.number (packets_in (drop l.record-index l.records))
      ≡ string_bytes l.initial.out ++ frames_said 1 (packets_in l.records);
  count : l.mrp + mrp_count (packets_in (drop l.record-index l.records)) ≡ mrp_count (packets_in l.records);
  number : l.number ≡ l.record-index + 1;
  few : l.mrp ≤ l.record-index;
  short : AllByRecursion (λ r. length r.octets.now < 2 ^ 32) (drop l.record-index l.records);
}

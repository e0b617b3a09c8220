use Rattle.std.proofs.Common.{◌≡◌, ◌++◌, drop}
use Rattle.link_capture.specs.{sent_by, records_of}
use Rattle.link_capture.proofs.frames.put_pdus.Given as goal

abbrev pub invariant-loop-wire : goal.invariant-loop-wire
invariant-loop-wire l =
    l.out.items ++ records_of (sent_by l.t l.from (drop l.wire-index l.wires)) ≡ l.initial.out.items ++ records_of (sent_by l.t l.from l.wires)

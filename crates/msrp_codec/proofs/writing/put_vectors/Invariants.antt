use Rattle.std.proofs.Common.{◌≡◌, ◌++◌, drop}
use Rattle.msrp_codec.proofs.WritingLemmas.{type_octets}
use Rattle.msrp_codec.proofs.writing.put_vectors.Given as goal

abbrev pub invariant-loop-event : goal.invariant-loop-event
invariant-loop-event l =
    l.out.items ++ type_octets l.leave l.t (drop l.event-index l.events) ≡ l.initial.out.items ++ type_octets l.leave_all l.t l.events

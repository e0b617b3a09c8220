use Rattle.std.proofs.Common.{◌≡◌, ◌++◌, take, drop}
use Rattle.mmrp_codec.specs.{AreMacs}
use Rattle.mmrp_codec.proofs.WritingLemmas.{octets_of}
use Rattle.mmrp_codec.proofs.writing.put_events.Given as goal

abbrev pub invariant-loop-event : goal.invariant-loop-event
invariant-loop-event l = record {
  octets : l.out.items ++ octets_of l.leave (drop l.event-index l.events) ≡ l.initial.out.items ++ octets_of l.leave_all l.events;
  macs : AreMacs (take l.event-index l.events);
}

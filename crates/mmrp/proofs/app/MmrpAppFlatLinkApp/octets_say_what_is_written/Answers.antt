use Rattle.std.proofs.Common.{refl}
use Rattle.mmrp.proofs.Writable.{writable}
use Rattle.mmrp.proofs.app.MmrpAppFlatLinkApp.octets_say_what_is_written.Goals as goal

pub returns-clause-written : goal.returns-clause-written
returns-clause-written c = λ leave_all events fitting macs.
    record {
      spelled = refl;
      reads = c.what_is_written_is_read.ensures.reads (record { leave_all = leave_all; events = events }) (writable leave_all events fitting) macs;
      short = c.what_is_written_is_read.ensures.few (record { leave_all = leave_all; events = events }) (writable leave_all events fitting);
    }

use Rattle.std.proofs.Common.{sym}
use Rattle.port_ledger.proofs.Finding.{found_is, missing_is}
use Rattle.port_ledger.proofs.entries.find_entry.Goals as goal

pub returns-in-Ok : goal.returns-in-Ok
returns-in-Ok c = sym (found_is _ _ _ _ c.requires c.in-Ok.ensures.found.0 (c.in-Ok.ensures.found.1 _))

pub returns-in-Err : goal.returns-in-Err
returns-in-Err c = sym (missing_is _ _ _ c.in-Err.ensures.missing.1 c.in-Err.ensures.missing.2)

use Rattle.journal_audit.proofs.LeftLemmas.{some_left}
use Rattle.journal_audit.proofs.left.next_port.Goals as goal

pub unreachable-requires : goal.unreachable-requires
unreachable-requires c = let found = some_left c.args.ports.now c.requires in c.in-None-first_left.ensures.none found.0 found.1 found.2 found.3

use Rattle.std.proofs.Common.{ap}
use Rattle.srpnet.specs.{or_not_toml}
use Rattle.srpnet.proofs.Documents.{document_found, document_refused, ruled_out}
use Rattle.srpnet.proofs.document.table_of.Goals as goal

pub returns-in-Ok-clause-table : goal.returns-in-Ok-clause-table
returns-in-Ok-clause-table c =
    ap or_not_toml (document_found c.args.octets.now _ c.in-Ok.ensures.ok.0 c.in-Ok.ensures.ok.1)

pub returns-else-is_memory-clause-table : goal.returns-else-is_memory-clause-table
returns-else-is_memory-clause-table c =
    ap or_not_toml (document_refused c.args.octets.now
    (c.in-Err.ensures.refused (ruled_out _ _ c.if-is_memory.false c.is_memory.ensures)))

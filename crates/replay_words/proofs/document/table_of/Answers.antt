use Rattle.std.proofs.Common.{ap}
use Rattle.replay_words.specs.{or_not_toml}
use Rattle.replay_words.proofs.Documents.{document_found, document_refused, ruled_out}
use Rattle.replay_words.proofs.document.table_of.Goals as goal

pub returns-in-Ok : goal.returns-in-Ok
returns-in-Ok c =
    ap or_not_toml (document_found c.args.octets.now _ c.in-Ok.ensures.ok.0 c.in-Ok.ensures.ok.1)

pub returns-else-is_memory : goal.returns-else-is_memory
returns-else-is_memory c =
    ap or_not_toml (document_refused c.args.octets.now
    (c.in-Err.ensures.refused (ruled_out _ _ c.if-is_memory.false c.is_memory.ensures)))

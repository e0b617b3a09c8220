use Rattle.std.proofs.Common.{◌≡◌, false, Option, IfOk, sym, ap, subst}
use Rattle.std.specs.Option.{option_map_or}
use Rattle.toml.specs.Data.{Members}
use Rattle.file_places.specs.{is_there}
use Rattle.file_places.proofs.DocumentLemmas.{document_found, document_refused, ruled_out}
use Rattle.file_places.proofs.entries.is_in.Goals as goal

pub returns-in-Ok : goal.returns-in-Ok
returns-in-Ok c =
    subst (λ (o : Option Members). IfOk c.is_there.result (λ has. has ≡ option_map_or (is_there c.args.sought c.args.word.now) o false))
    (sym (document_found c.args.octets.now _ c.in-Ok.ensures.ok.0 c.in-Ok.ensures.ok.1)) c.is_there.ensures

pub returns-else-is_memory : goal.returns-else-is_memory
returns-else-is_memory c =
    sym
    (ap (λ (o : Option Members). option_map_or (is_there c.args.sought c.args.word.now) o false)
    (document_refused c.args.octets.now (c.in-Err.ensures.refused (ruled_out _ _ c.if-is_memory.false c.is_memory.ensures))))

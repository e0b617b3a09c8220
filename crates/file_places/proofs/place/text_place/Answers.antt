use Rattle.std.proofs.Common.{Option, ◌∙◌, refl, sym, ap, subst}
use Rattle.std.specs.Prelude.{IsSome}
use Rattle.toml.specs.Data.{Members}
use Rattle.toml.specs.Parse.{parse_document}
use Rattle.file_places.proofs.DocumentLemmas.{document_found}
use Rattle.file_places.proofs.place.text_place.Goals as goal

pub returns-in-Ok-clause-none : goal.returns-in-Ok-clause-none
returns-in-Ok-clause-none c =
    subst (λ (o : Option Members). IsSome o)
    (sym (document_found c.args.octets.now _ c.requires.utf8 (ap parse_document (sym c.requires.text) ∙ c.in-Ok.ensures.ok))) refl

use Rattle.std.proofs.Common.{◌≡◌, [], sym, ap, ◌∙◌}
use Rattle.std.proofs.lemmas.{Bool.eqb-true, List.nil_from_length}
use Rattle.world_core.specs.{changes_among}
use Rattle.world_core.proofs.PortOrder.{merged_nothing}
use Rattle.world_core.proofs.merging.put_among.Goals as goal

pub returns-then-is_empty-clause-ok : goal.returns-then-is_empty-clause-ok
returns-then-is_empty-clause-ok c =
    let long = c.args.lacking.ok.0 in
    let short = eqb-true c.args.lacking.len 0 (sym c.if-is_empty.ensures) in
    let none : c.args.lacking.items ≡ [] = nil_from_length c.args.lacking.items (sym long ∙ short) in
    sym (ap (changes_among c.args.changes.now) none ∙ merged_nothing c.args.changes.now)

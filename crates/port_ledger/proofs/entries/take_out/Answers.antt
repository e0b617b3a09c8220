use Rattle.std.proofs.Common.{◌∙◌}
use Rattle.port_ledger.proofs.{Changing.none_found, Finding.blank, Finding.missing_is, Marking.different_from_ascending, TakingOut.without-at, TakingOut.without-others}
use Rattle.port_ledger.proofs.entries.take_out.Goals as goal

pub returns-in-Ok-clause-items : goal.returns-in-Ok-clause-items
returns-in-Ok-clause-items c =
    let found = rw c.deref.ensures.value at c.in-Ok.ensures.found in
    c.remove.ensures.items ∙ without-at c.args.entries.now.items c.args.stream c.in-Ok.place blank (different_from_ascending _ c.requires) found.0 (found.1 blank)

pub returns-in_default-clause-items : goal.returns-in_default-clause-items
returns-in_default-clause-items c =
    let missing = rw c.deref.ensures.value at c.in_default.ensures.missing in
    without-others c.args.stream c.args.entries.now.items (none_found c.args.stream c.args.entries.now.items (missing_is _ _ _ missing.1 missing.2))

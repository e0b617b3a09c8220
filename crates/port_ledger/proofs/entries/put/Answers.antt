use Rattle.std.proofs.Common.{◌∙◌, ap, is_some, set, sym, true≢false}
use Rattle.port_ledger.specs.{entry_with}
use Rattle.port_ledger.proofs.Finding.{missing_is, with_want-found, with_want-missing}
use Rattle.port_ledger.proofs.entries.put.Goals as goal

pub returns-in-Ok-clause-items : goal.returns-in-Ok-clause-items
returns-in-Ok-clause-items c =
    let found = rw c.deref.ensures.value at c.in-Ok.ensures.found in
    ap (set c.args.entries.now.items c.in-Ok.place) (c.entry_with.ensures ∙ ap (λ e. entry_with e c.args.want) c.index.ensures)
    ∙ with_want-found _ _ _ _ c.requires.ascending found.0 (found.1 c.index.result.now)

pub insert_reserved-requires-clause-place : goal.insert_reserved-requires-clause-place
insert_reserved-requires-clause-place c =
    let missing = rw c.deref.ensures.value at c.in-Err.ensures.missing in
    missing.0

pub insert_reserved-requires-clause-room : goal.insert_reserved-requires-clause-room
insert_reserved-requires-clause-room c =
    let missing = rw c.deref.ensures.value at c.in-Err.ensures.missing in
    c.requires.room (missing_is _ _ _ missing.1 missing.2)

pub returns-in-Err-clause-items : goal.returns-in-Err-clause-items
returns-in-Err-clause-items c =
    let missing = rw c.deref.ensures.value at c.in-Err.ensures.missing in
    c.insert_reserved.ensures.items ∙ with_want-missing _ _ _ missing.0 missing.1 missing.2

pub returns-in-Err-clause-stays : goal.returns-in-Err-clause-stays
returns-in-Err-clause-stays c = λ some.
    let missing = rw c.deref.ensures.value at c.in-Err.ensures.missing in
    absurd (true≢false (sym some ∙ ap is_some (missing_is _ _ _ missing.1 missing.2)))

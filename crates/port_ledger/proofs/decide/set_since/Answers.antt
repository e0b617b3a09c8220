use Rattle.std.proofs.Common.{◌∙◌, sym}
use Rattle.port_ledger.proofs.{Passing.with_since-found, Passing.with_since-missing, Passing.with_since-own, PerStream.same_since-is}
use Rattle.port_ledger.proofs.decide.set_since.Goals as goal

pub returns-then-same_since : goal.returns-then-same_since
returns-then-same_since c =
    with_since-own _ _ _ (same_since-is _ _ (sym c.same_since.ensures ∙ c.if-same_since.true)) c.requires.only

pub returns-in-Ok : goal.returns-in-Ok
returns-in-Ok c =
    with_since-found c.args.entries.now c.args.x.now c.args.since _ _ c.requires.ascending c.in-Ok.ensures.found.0 (c.in-Ok.ensures.found.1 _)

pub returns-in_default : goal.returns-in_default
returns-in_default c =
    with_since-missing c.args.entries.now c.args.x.now c.args.since _ c.in_default.ensures.missing.1 c.in_default.ensures.missing.2

use Rattle.std.proofs.Common.{sym, ◌∙◌}
use Rattle.port_ledger.proofs.Among.{among-found, among-none}
use Rattle.port_ledger.proofs.changed.is_among.Goals as goal

pub returns-in-Some : goal.returns-in-Some
returns-in-Some c = c.same_entry.ensures ∙ among-found _ _ _ c.requires (sym c.find_entry.ensures ∙ c.in-Some.is)

pub returns-in-None : goal.returns-in-None
returns-in-None c = among-none _ _ c.requires (sym c.find_entry.ensures ∙ c.in-None.is)

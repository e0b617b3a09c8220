use Rattle.std.proofs.Common.{ℕ, List}
use Rattle.mrpdu_codec.specs.declared.form.AppForm.TheVariants.{Mvrp}
use Rattle.journal_audit.proofs.PlaceLemmas.{broken_within, malformed_within}
use Rattle.journal_audit.proofs.laws.what_is_malformed_lies_within.Goals as goal

pub returns-clause-vlans : goal.returns-clause-vlans
returns-clause-vlans c octets place e = broken_within Mvrp octets place ((c.reading_is_the_grammar.ensures.broken octets place).0 e)

pub returns-clause-streams : goal.returns-clause-streams
returns-clause-streams c octets place e = malformed_within octets place ((c.reading_is_the_grammar-2.ensures.broken octets place).0 e)

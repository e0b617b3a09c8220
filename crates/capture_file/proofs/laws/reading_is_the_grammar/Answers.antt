use Rattle.std.proofs.Common.{subst}
use Rattle.capture_file.specs.{Outcome, IsReading}
use Rattle.capture_file.proofs.{Holds.reading_holds, Spelled.is_read}
use Rattle.capture_file.proofs.laws.reading_is_the_grammar.Goals as goal

pub returns : goal.returns
returns c = λ octets outcome. (λ e. subst (λ (o : Outcome). IsReading octets o) e (reading_holds octets), is_read octets outcome)

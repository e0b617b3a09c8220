use Rattle.std.proofs.Common.{sym, ◌∙◌}
use Rattle.capture_file.specs.{reading}
use Rattle.capture_file.proofs.{Holds.reading_holds, Spelled.is_read}
use Rattle.capture_file.proofs.laws.one_reading.Goals as goal

pub returns-clause-some : goal.returns-clause-some
returns-clause-some c = λ octets. (reading octets, reading_holds octets)

pub returns-clause-one : goal.returns-clause-one
returns-clause-one c = λ octets a b h k. sym (is_read octets a h) ∙ is_read octets b k

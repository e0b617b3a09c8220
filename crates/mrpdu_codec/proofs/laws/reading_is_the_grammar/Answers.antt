use Rattle.mrpdu_codec.proofs.ErrorLemmas.{reading_spells, spells_reading, reading_breaks, breaks_reading}
use Rattle.mrpdu_codec.proofs.laws.reading_is_the_grammar.Goals as goal

pub returns-clause-spelled : goal.returns-clause-spelled
returns-clause-spelled c = λ form octets pdu. (reading_spells form octets pdu, spells_reading form octets pdu)

pub returns-clause-broken : goal.returns-clause-broken
returns-clause-broken c = λ form octets place. (reading_breaks form octets place, breaks_reading form octets place)

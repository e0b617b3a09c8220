-- What is written reads as the PDU.
use Rattle.std.proofs.Common.{◌≡◌, true, Ok}
use Rattle.mrpdu_codec.specs.{AppForm, Pdu, spelling, well_formed, reading}
use Rattle.mrpdu_codec.proofs.{RoundTrip.spells_again, ErrorLemmas.spells_reading}

pub reread : (form : AppForm) (pdu : Pdu) → well_formed form pdu ≡ true → reading form (spelling form pdu) ≡ Ok pdu
reread form pdu fits = spells_reading form (spelling form pdu) pdu (spells_again form pdu fits)

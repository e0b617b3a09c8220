use Rattle.std.proofs.Common.{◌≡◌, sym, subst, ◌∙◌}
use Rattle.mrpdu_codec.specs.{Malformed, RawPdu, Spells, pdu_in}
use Rattle.mrpdu_codec.proofs.{ErrorLemmas.pdu_within, ErrorLemmas.pdu_spelled, ErrorLemmas.pdu_broken, ErrorLemmas.reading_ok, ErrorLemmas.answers_err, Formed.pdu_formed}
use Rattle.mrpdu_codec.proofs.decoding.decode_in_place.Goals as goal

pub placed-requires-clause-within : goal.placed-requires-clause-within
placed-requires-clause-within c = pdu_within c.in-Err.error c.args.form c.args.octets.now c.in-Err.ensures

pub returns-in-Ok-clause-spelled : goal.returns-in-Ok-clause-spelled
returns-in-Ok-clause-spelled c = λ raw e.
    let same : c.in-Ok.raw ≡ raw = cc in
    subst (λ (r : RawPdu). Spells c.args.form c.args.octets.now (pdu_in r)) same (pdu_spelled c.args.form c.args.octets.now (pdu_in c.in-Ok.raw) c.in-Ok.ensures)

pub returns-in-Err-clause-broken : goal.returns-in-Err-clause-broken
returns-in-Err-clause-broken c = λ place e.
    let same : c.placed.result ≡ Malformed place = cc in
    pdu_broken c.in-Err.error c.args.form c.args.octets.now place c.in-Err.ensures (sym c.placed.ensures ∙ same)

pub returns-in-Ok-clause-exact : goal.returns-in-Ok-clause-exact
returns-in-Ok-clause-exact c = reading_ok c.args.form c.args.octets.now (pdu_in c.in-Ok.raw) c.in-Ok.ensures

pub returns-in-Err-clause-exact : goal.returns-in-Err-clause-exact
returns-in-Err-clause-exact c = answers_err c.in-Err.error c.args.form c.args.octets.now c.placed.result c.in-Err.ensures c.placed.ensures

pub returns-in-Ok-clause-formed : goal.returns-in-Ok-clause-formed
returns-in-Ok-clause-formed c =
    pdu_formed c.args.form c.args.octets.now (pdu_in c.in-Ok.raw) (pdu_spelled c.args.form c.args.octets.now (pdu_in c.in-Ok.raw) c.in-Ok.ensures)

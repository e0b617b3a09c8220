use Rattle.std.proofs.Common.{◌≡◌, ℕ, refl, sym, subst, ◌∙◌}
use Rattle.mrpdu_codec.specs.Raw.{pdu_in}
use Rattle.mmrp_codec.specs.{PassesEnd}
use Rattle.mmrp_codec.specs.Meaning.MmrpBreaks.{value}
use Rattle.mmrp_codec.proofs.PastLemmas.{past_none, passes_end}
use Rattle.mmrp_codec.proofs.reading.decode.Goals as goal

pub returns-in-Some-clause-broken : goal.returns-in-Some-clause-broken
returns-in-Some-clause-broken c = λ place e.
    let same : c.place_in.result ≡ place = cc in
    let spelled = c.in_ok-raw.ensures.spelled c.in_ok-raw.raw refl in
    let found = sym c.in_ok-events.ensures.past ∙ c.in-Some.is in
    value (subst (λ (p : ℕ). PassesEnd c.args.octets.now p) (sym c.place_in.ensures ∙ same)
    (passes_end c.args.octets.now (pdu_in c.in_ok-raw.raw) c.in-Some.vector spelled (c.first_values_have_places.ensures.one_each _ _ _ spelled) found))

pub returns-clause-reads : goal.returns-clause-reads
returns-clause-reads c = λ read e.
    let same : c.meaning.result ≡ read = cc in
    record {
      pdu = pdu_in c.in_ok-raw.raw;
      spelled = c.in_ok-raw.ensures.spelled c.in_ok-raw.raw refl;
      in_range = past_none 0 (pdu_in c.in_ok-raw.raw).messages (sym c.in_ok-events.ensures.past ∙ c.in_default.is);
      meant = sym same ∙ c.meaning.ensures;
    }

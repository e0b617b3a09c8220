use Rattle.std.proofs.Common.{◌≡◌, ℕ, List, Option, Some, None, Result, Ok, Err, refl, sym, ap, subst, ◌∙◌, arith}
use Rattle.std.specs.Option.{unwrap_or}
use Rattle.mrpdu_codec.specs.declared.{form.AppForm.TheVariants.Msrp, pdu.Pdu.Pdu}
use Rattle.mrpdu_codec.specs.{Grammar.Spells, Grammar.Breaks, Reading.reading, Places.first_places, Places.AllStandAt}
use Rattle.msrp_codec.specs.{MsrpPdu, meaning, first_past, place_in, meaning_or_place, read_as, PassesEnd, MsrpBreaks}
use Rattle.msrp_codec.specs.Meaning.MsrpBreaks.{grammar, value}
use Rattle.msrp_codec.proofs.PastLemmas.{past_none, past_all, past_at, passes_end}
use Rattle.msrp_codec.proofs.laws.reading_is_the_grammar.Goals as goal

judged_ok : (octets : List ℕ) (pdu : Pdu) (x : Option (ℕ × ℕ)) (m : MsrpPdu) → meaning_or_place octets pdu x ≡ Ok m → (x ≡ None) × (m ≡ meaning pdu)
judged_ok octets pdu None m h = (refl, cc)
judged_ok octets pdu (Some x) m h = absurd cc

judged_err : (octets : List ℕ) (pdu : Pdu) (x : Option (ℕ × ℕ)) (place : ℕ) → meaning_or_place octets pdu x ≡ Err place → (y : ℕ × ℕ) × (x ≡ Some y) × (place_in octets y ≡ place)
judged_err octets pdu None place h = absurd cc
judged_err octets pdu (Some x) place h = (x, refl, cc)

means : (octets : List ℕ) (r : Result Pdu ℕ) (m : MsrpPdu) → read_as octets r ≡ Ok m → (pdu : Pdu) × (r ≡ Ok pdu) × (first_past 0 pdu.messages ≡ None) × (m ≡ meaning pdu)
means octets (Ok pdu) m h = let j = judged_ok octets pdu (first_past 0 pdu.messages) m h in (pdu, refl, j.0, j.1)
means octets (Err place) m h = absurd cc

module _ (octets : List ℕ) (spells : (pdu : Pdu) → reading Msrp octets ≡ Ok pdu → Spells Msrp octets pdu) (breaks : (place : ℕ) → reading Msrp octets ≡ Err place → Breaks Msrp octets place)
    (stand : (pdu : Pdu) → Spells Msrp octets pdu → AllStandAt octets (first_places Msrp octets) pdu.messages) where
  malformed : (r : Result Pdu ℕ) (place : ℕ) → reading Msrp octets ≡ r → read_as octets r ≡ Err place → MsrpBreaks octets place
  malformed (Ok pdu) place e h =
      let j = judged_err octets pdu (first_past 0 pdu.messages) place h in
      let spelled = spells pdu e in
      value (subst (λ (p : ℕ). PassesEnd octets p) j.2 (passes_end octets pdu j.0 spelled (stand pdu spelled) j.1))
  malformed (Err n) place e h =
      let same : n ≡ place = cc in
      grammar (subst (λ (p : ℕ). Breaks Msrp octets p) same (breaks n e))

passed : (octets : List ℕ) (place : ℕ) (p : PassesEnd octets place) → first_past 0 p.pdu.messages ≡ Some (p.message, p.vector)
passed octets place p =
    past_at 0 p.pdu.messages p.message p.vector p.m p.t p.v p.is_message p.is_type p.is_vector p.passes p.earlier_messages p.earlier_vectors
    ∙ ap (λ (k : ℕ). let x : Option (ℕ × ℕ) = Some (k, p.vector) in x) (omega arith)

pub returns-clause-reads : goal.returns-clause-reads
returns-clause-reads c = λ octets read. (
  λ h. let m = means octets (reading Msrp octets) read h in record {
    pdu = m.0;
    spelled = (c.reading_is_the_grammar.ensures.spelled Msrp octets m.0).0 m.1;
    in_range = past_none 0 m.0.messages m.2;
    meant = m.3;
  },
  λ r. ap (read_as octets) ((c.reading_is_the_grammar.ensures.spelled Msrp octets r.pdu).1 r.spelled)
      ∙ ap (meaning_or_place octets r.pdu) (past_all 0 r.pdu.messages r.in_range)
      ∙ ap (λ (m : MsrpPdu). let x : Result MsrpPdu ℕ = Ok m in x) (sym r.meant),
)

pub returns-clause-broken : goal.returns-clause-broken
returns-clause-broken c = λ octets place. (
  λ h. malformed octets
      (λ pdu. (c.reading_is_the_grammar.ensures.spelled Msrp octets pdu).0)
      (λ p. (c.reading_is_the_grammar.ensures.broken Msrp octets p).0)
      (λ pdu. c.first_values_have_places.ensures.one_each Msrp octets pdu)
      (reading Msrp octets) place refl h,
  λ b. elim b [
    | grammar broken ↦ ap (read_as octets) ((c.reading_is_the_grammar.ensures.broken Msrp octets place).1 broken)
    | value p ↦
        ap (read_as octets) ((c.reading_is_the_grammar.ensures.spelled Msrp octets p.pdu).1 p.spelled)
        ∙ ap (meaning_or_place octets p.pdu) (passed octets place p)
        ∙ ap (λ (o : Option ℕ). let x : Result MsrpPdu ℕ = Err (unwrap_or o 0) in x) p.stands
  ],
)

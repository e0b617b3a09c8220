use Rattle.std.proofs.Common.{◌≡◌, ℕ, Result, Ok, Err, refl, sym, ap, ◌∙◌}
use Rattle.mrpdu_codec.specs.declared.{form.AppForm.TheVariants.Mvrp, pdu.Pdu.Pdu}
use Rattle.mrpdu_codec.specs.Reading.{reading}
use Rattle.mvrp_codec.specs.{MvrpPdu, meaning, read_as}
use Rattle.mvrp_codec.proofs.laws.reading_is_the_grammar.Goals as goal

means : (read : Result Pdu ℕ) (m : MvrpPdu) → read_as read ≡ Ok m → (pdu : Pdu) × (read ≡ Ok pdu) × (m ≡ meaning pdu)
means (Ok pdu) m h = (pdu, refl, cc)
means (Err place) m h = absurd cc

breaks : (read : Result Pdu ℕ) (place : ℕ) → read_as read ≡ Err place → read ≡ Err place
breaks (Ok pdu) place h = absurd cc
breaks (Err n) place h = let k : n ≡ place = cc in ap (λ (i : ℕ). let r : Result Pdu ℕ = Err i in r) k

pub returns-clause-reads : goal.returns-clause-reads
returns-clause-reads c = λ octets read. (
  λ h. let m = means (reading Mvrp octets) read h in record { pdu = m.0; spelled = (c.reading_is_the_grammar.ensures.spelled Mvrp octets m.0).0 m.1; meant = m.2 },
  λ r. ap read_as ((c.reading_is_the_grammar.ensures.spelled Mvrp octets r.pdu).1 r.spelled) ∙ ap (λ (m : MvrpPdu). let x : Result MvrpPdu ℕ = Ok m in x) (sym r.meant),
)

pub returns-clause-broken : goal.returns-clause-broken
returns-clause-broken c = λ octets place. (
  λ h. (c.reading_is_the_grammar.ensures.broken Mvrp octets place).0 (breaks (reading Mvrp octets) place h),
  λ b. ap read_as ((c.reading_is_the_grammar.ensures.broken Mvrp octets place).1 b),
)

use Rattle.std.proofs.Common.{◌≡◌, ℕ, ◌-◌, ◌≤◌, List, length, Result, Ok, Err, MatchResult, ◌⊎◌, inl, inr, arith}
use Rattle.mrpdu_codec.specs.{AppForm, Pdu, Spells, Breaks, pdu_at}
use Rattle.mrpdu_codec.proofs.{ReadMessages.reading_holds, SpelledMessages.spells_reads, SpelledMessages.breaks_reads}
use Rattle.mrpdu_codec.proofs.laws.one_reading.Goals as goal

either : (form : AppForm) (octets : List ℕ) (read : Result Pdu ℕ) → MatchResult read (λ pdu. Spells form octets pdu) (λ left. (left ≤ length octets) × Breaks form octets (length octets - left))
    → ((pdu : Pdu) × Spells form octets pdu) ⊎ ((place : ℕ) × Breaks form octets place)
either form octets (Ok pdu) h = inl (pdu, h)
either form octets (Err left) h = inr (length octets - left, h.1)

same_ok : (p q : Pdu) (read : Result Pdu ℕ) → read ≡ Ok p → read ≡ Ok q → p ≡ q
same_ok p q read h k = cc

same_err : (m n : ℕ) (read : Result Pdu ℕ) → read ≡ Err m → read ≡ Err n → m ≡ n
same_err m n read h k = cc

not_both : (p : Pdu) (n : ℕ) (read : Result Pdu ℕ) → read ≡ Ok p → read ≡ Err n → ⊥
not_both p n read h k = absurd cc

pub returns-clause-some : goal.returns-clause-some
returns-clause-some c = λ form octets. either form octets (pdu_at form octets) (reading_holds form octets)

pub returns-clause-one_pdu : goal.returns-clause-one_pdu
returns-clause-one_pdu c = λ form octets p q h k. same_ok p q (pdu_at form octets) (spells_reads form octets p h) (spells_reads form octets q k)

pub returns-clause-one_place : goal.returns-clause-one_place
returns-clause-one_place c = λ form octets m n h k.
    let a = breaks_reads form octets m h in
    let b = breaks_reads form octets n k in
    omega (arith, a.2, b.2, same_err a.0 b.0 (pdu_at form octets) a.1 b.1)

pub returns-clause-never_both : goal.returns-clause-never_both
returns-clause-never_both c = λ form octets pdu place h k.
    let b = breaks_reads form octets place k in
    not_both pdu b.0 (pdu_at form octets) (spells_reads form octets pdu h) b.1

-- What a reader's error says, and what `decode` makes of it.
use Rattle.std.proofs.Common.{◌≡◌, ℕ, ◌-◌, ◌≤◌, List, length, take, Option, Result, Ok, Err, refl, ap, subst, ◌∙◌, arith}
use Rattle.std.proofs.lemmas.Result.{MatchResult-at_ok, MatchResult-at_err}
use Rattle.mrpdu_codec.specs.{DecodeErr, AppForm, TypeForm, Pdu, pdu_in, IsWithin, decode_err_of, Spells, Breaks, Fails, region_at, pdu_at, placed_in, reading, place_told}
use Rattle.mrpdu_codec.specs.declared.error.DecodeErr.TheVariants as decode_errors
use Rattle.mrpdu_codec.specs.declared.error.ReadErr.{ReadErr}
use Rattle.mrpdu_codec.specs.declared.error.ReadErr.TheVariants as errors
use Rattle.srp_base.specs.Results.{Gives}
use Rattle.mrpdu_codec.proofs.{ReadRegions.region_left, ReadMessages.reading_holds, SpelledMessages.spells_reads, SpelledMessages.breaks_reads}

pub region_within : (e : ReadErr) (row : Option TypeForm) (len size : ℕ) (octets : List ℕ) → Fails e (region_at row len size (take size octets)) → IsWithin e (length (take size octets))
region_within e row len size octets h1 = grind (arith, region_left)

-- ---- decode

pub pdu_within : (e : ReadErr) (form : AppForm) (octets : List ℕ) → Fails e (pdu_at form octets) → IsWithin e (length octets)
pdu_within errors.NoMemory form octets h = tt
pdu_within (errors.Left left) form octets h = (MatchResult-at_err _ (λ n. (n ≤ length octets) × Breaks form octets (length octets - n)) left h (reading_holds form octets)).0

pub pdu_spelled : (form : AppForm) (octets : List ℕ) (pdu : Pdu) → pdu_at form octets ≡ Ok pdu → Spells form octets pdu
pdu_spelled form octets pdu h = MatchResult-at_ok (λ p. Spells form octets p) _ pdu h (reading_holds form octets)

pub pdu_broken : (e : ReadErr) (form : AppForm) (octets : List ℕ) (place : ℕ) → Fails e (pdu_at form octets)
    → decode_err_of e (length octets) ≡ decode_errors.Malformed place → Breaks form octets place
pdu_broken errors.NoMemory form octets place h k = absurd cc
pdu_broken (errors.Left left) form octets place h k =
    let b = MatchResult-at_err _ (λ n. (n ≤ length octets) × Breaks form octets (length octets - n)) left h (reading_holds form octets) in
    let e : length octets - left ≡ place = cc in
    subst (λ (n : ℕ). Breaks form octets n) e b.1

-- ---- the reading as a function

pub reading_ok : (form : AppForm) (octets : List ℕ) (pdu : Pdu) → pdu_at form octets ≡ Ok pdu → reading form octets ≡ Ok pdu
unfolding reading
reading_ok form octets pdu h = ap (placed_in (length octets)) h

reading_err : (form : AppForm) (octets : List ℕ) (left : ℕ) → pdu_at form octets ≡ Err left → reading form octets ≡ Err (length octets - left)
unfolding reading
reading_err form octets left h = ap (placed_in (length octets)) h

answered : (read : Result Pdu ℕ) (all : ℕ) (pdu : Pdu) → placed_in all read ≡ Ok pdu → read ≡ Ok pdu
answered read all pdu h1 = grind arith

answered_err : (read : Result Pdu ℕ) (all place : ℕ) → placed_in all read ≡ Err place → (left : ℕ) × (read ≡ Err left) × (all - left ≡ place)
answered_err (Ok p) all place h = absurd cc
answered_err (Err left) all place h = (left, refl, cc)

pub reading_spells : (form : AppForm) (octets : List ℕ) (pdu : Pdu) → reading form octets ≡ Ok pdu → Spells form octets pdu
unfolding reading
reading_spells form octets pdu h = pdu_spelled form octets pdu (answered (pdu_at form octets) (length octets) pdu h)

pub spells_reading : (form : AppForm) (octets : List ℕ) (pdu : Pdu) → Spells form octets pdu → reading form octets ≡ Ok pdu
spells_reading form octets pdu s = reading_ok form octets pdu (spells_reads form octets pdu s)

pub reading_breaks : (form : AppForm) (octets : List ℕ) (place : ℕ) → reading form octets ≡ Err place → Breaks form octets place
unfolding reading
reading_breaks form octets place h =
    let a = answered_err (pdu_at form octets) (length octets) place h in
    subst (λ (n : ℕ). Breaks form octets n) a.2 (MatchResult-at_err _ (λ n. (n ≤ length octets) × Breaks form octets (length octets - n)) a.0 a.1 (reading_holds form octets)).1

pub breaks_reading : (form : AppForm) (octets : List ℕ) (place : ℕ) → Breaks form octets place → reading form octets ≡ Err place
breaks_reading form octets place b =
    let r = breaks_reads form octets place b in
    let k : length octets - r.0 ≡ place = omega (arith, r.2) in
    reading_err form octets r.0 r.1 ∙ ap (λ (n : ℕ). let e : Result Pdu ℕ = Err n in e) k

-- ---- what `decode_in_place` answers

pub answers_err : (e : ReadErr) (form : AppForm) (octets : List ℕ) (answer : DecodeErr) → Fails e (pdu_at form octets) → answer ≡ decode_err_of e (length octets)
    → Gives pdu_in place_told (Err answer) (reading form octets)
answers_err errors.NoMemory form octets answer h k = rw k tt
answers_err (errors.Left left) form octets answer h k = rw k (reading_err form octets left h)

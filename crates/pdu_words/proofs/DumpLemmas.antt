-- The lines of a dump, one after another.
use Rattle.std.proofs.Common.{◌≡◌, ℕ, zero, suc, ◌+◌, ◌-◌, ◌<◌, ◌≤◌, Bool, true, false, nat_eq, List, [], ◌∷◌, ◌++◌, length, take, drop, refl, ap, sym, ◌∙◌, append-nil, arith}
use Rattle.std.specs.Prelude.{slice_index, ◌&&◌, if◌then◌else◌, Option, Some}
use Rattle.std.specs.List.{starts_with}
use Rattle.std.proofs.lemmas.List.{length-drop}
use Rattle.mrpdu_codec.specs.declared.form.AppForm.{AppForm}
use Rattle.mrpdu_codec.specs.declared.form.AppForm.TheVariants.{Mvrp, Msrp, Mmrp}
use Rattle.mrp_frames.specs.Frames.{Seen, frame_in}
use Rattle.pdu_words.specs.{is_blank, column, is_same_app, group_front, frame_of_octets, pdu_seen, pdu_of_dump, ended_said, left_said}
use Rattle.pdu_words.proofs.CaptureLemmas.{rest_is}

-- a character that doesn't begin two blanks stands in the column
passed : (text : List ℕ) (i : ℕ) → suc i < length text
    → (is_blank (slice_index (drop i text) 0) && is_blank (slice_index (drop i text) 1)) ≡ false
    → take (suc i) text ++ column (drop (suc i) text) ≡ take i text ++ column (drop i text)
passed [] i lt other = absurd (omega (arith, lt))
passed (c ∷ []) i lt other = absurd (omega (arith, lt))
passed (c ∷ d ∷ cs) zero lt other = rw other refl
passed (c ∷ d ∷ cs) (suc i) lt other = ap (λ (rest : List ℕ). c ∷ rest) (passed (d ∷ cs) i (omega (arith, lt)) other)

-- two characters are left behind a place
pub more_stands : (text : List ℕ) (i : ℕ) → 2 ≤ length (take (length text - i) (drop i text)) → i + 1 < length text
more_stands text i least =
    let same : length (take (length text - i) (drop i text)) ≡ length (drop i text) = ap length (rest_is text i) in
    let size = length-drop i text in
    omega (arith, least, same, size)

pub column_goes_on : (text : List ℕ) (i : ℕ) → i + 1 < length text → (rest : List ℕ) → rest ≡ drop i text
    → (is_blank (slice_index rest 0) && is_blank (slice_index rest 1)) ≡ false
    → take (i + 1) text ++ column (drop (i + 1) text) ≡ take i text ++ column (drop i text)
column_goes_on text i lt rest same other =
    ap (λ (n : ℕ). take n text ++ column (drop n text)) (let next : i + 1 ≡ suc i = omega arith in next)
    ∙ passed text i (omega (arith, lt)) (ap (λ (xs : List ℕ). is_blank (slice_index xs 0) && is_blank (slice_index xs 1)) (sym same) ∙ other)

-- at the end of a text
pub left_at_end : (form : AppForm) (first : Option ℕ) (octets : List ℕ) (n : ℕ) → left_said form first octets n [] ≡ ended_said form first octets
left_at_end form first octets n = append-nil (ended_said form first (octets ++ [])) ∙ ap (ended_said form first) (append-nil octets)

same_app : (app : AppForm) → is_same_app app app ≡ true
same_app Mvrp = refl
same_app Msrp = refl
same_app Mmrp = refl

-- the PDU of a frame stands behind its EtherType
pub frame_pdu : (octets : List ℕ) (seen : Seen) → starts_with nat_eq octets group_front ≡ true
    → frame_in (frame_of_octets octets) ≡ Some seen → pdu_of_dump seen.app octets ≡ seen.pdu
frame_pdu octets seen begins is =
    ap (λ (t : Bool). if t then pdu_seen seen.app octets (frame_in (frame_of_octets octets)) else octets) begins
    ∙ (ap (pdu_seen seen.app octets) is ∙ ap (λ (t : Bool). if t then seen.pdu else octets) (same_app seen.app))

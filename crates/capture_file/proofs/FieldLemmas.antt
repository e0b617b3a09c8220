-- Numbers in the front of some octets.
use Rattle.std.proofs.Common.{◌≡◌, ℕ, ◌+◌, ◌≤◌, List, [], ◌∷◌, ◌++◌, length, take, drop, refl, sym, ap, ◌∙◌, arith}
use Rattle.std.proofs.lemmas.List.{length-drop, length-take-le, drop-append-le, take-append-drop}
use Rattle.capture_file.specs.{ByteOrder, first_four, field}

first_four_front : (order : ByteOrder) (octets more : List ℕ) → 4 ≤ length octets → first_four order (octets ++ more) ≡ first_four order octets
unfolding first_four
first_four_front order [] more le = absurd (omega (arith, le))
first_four_front order (a ∷ []) more le = absurd (omega (arith, le))
first_four_front order (a ∷ b ∷ []) more le = absurd (omega (arith, le))
first_four_front order (a ∷ b ∷ c ∷ []) more le = absurd (omega (arith, le))
first_four_front order (a ∷ b ∷ c ∷ d ∷ octets) more le = refl

-- a number in a text is that in what begins with the text
pub field_front : (order : ByteOrder) (at : ℕ) (text more : List ℕ) → at + 4 ≤ length text → field order at (text ++ more) ≡ field order at text
field_front order at text more le =
    let front : drop at (text ++ more) ≡ drop at text ++ more = drop-append-le at text more (omega (arith, le)) in
    rw front (first_four_front order (drop at text) more (omega (arith, le, length-drop at text)))

-- and the other way round
pub field_take : (order : ByteOrder) (at n : ℕ) (octets : List ℕ) → n ≤ length octets → at + 4 ≤ n → field order at (take n octets) ≡ field order at octets
field_take order at n octets within le =
    sym (field_front order at (take n octets) (drop n octets) (omega (arith, le, length-take-le n octets within)))
    ∙ ap (λ (o : List ℕ). field order at o) (take-append-drop n octets)

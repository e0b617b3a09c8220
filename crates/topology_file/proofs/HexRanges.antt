-- The numbers that hexadecimal digits spell fit in their octets.
use Rattle.std.proofs.Common.{◌≡◌, ℕ, ◌<◌, ◌^◌, ◌*◌, Bool, true, false, if◌then◌else◌, List, [], ◌∷◌, length, Result, Ok, Err, refl, arith, IfSome}
use Rattle.std.specs.Int.{w64, from_be_bytes}
use Rattle.hex.specs.Hex.{decode_sized, decode_pairs, IsBytes}
use Rattle.hex.specs.declared.error.FromHexError.{FromHexError}
use Rattle.hex.specs.declared.error.FromHexError.TheVariants.{OddLength, InvalidStringLength}
use Rattle.hex.proofs.HexLemmas.{decode_pairs-ok, decode_sized-ok}
use Rattle.srp_base.specs.Hexadecimal.{hex12, hex16, number_high_first, number_of_octets, number_of_decoded}

-- what is decoded are octets
sized-bytes : (text : List ℕ) (b c : Bool) (bytes : List ℕ) → (if b then Err OddLength else if c then decode_pairs 0 text else Err InvalidStringLength) ≡ Ok bytes
    → (length text ≡ 2 * length bytes) × IsBytes bytes
sized-bytes text true c bytes e = cc
sized-bytes text false true bytes e = let h = decode_pairs-ok 0 text bytes e in (h.1, h.2)
sized-bytes text false false bytes e = cc

eight-octets : (bytes : List ℕ) → IsBytes bytes → from_be_bytes w64 bytes < 2 ^ 64
eight-octets bytes each =
    let a = each 0 in
    let b = each 1 in
    let c = each 2 in
    let d = each 3 in
    let e = each 4 in
    let f = each 5 in
    let g = each 6 in
    let h = each 7 in
    omega (arith, a, b, c, d, e, f, g, h)

six-octets : (bytes : List ℕ) → length bytes ≡ 6 → IsBytes bytes → number_high_first bytes < 2 ^ 48
six-octets (a ∷ b ∷ c ∷ d ∷ e ∷ f ∷ []) six each = omega (arith, each 0, each 1, each 2, each 3, each 4, each 5)
six-octets [] six each = absurd (omega arith)
six-octets (a ∷ []) six each = absurd (omega arith)
six-octets (a ∷ b ∷ []) six each = absurd (omega arith)
six-octets (a ∷ b ∷ c ∷ []) six each = absurd (omega arith)
six-octets (a ∷ b ∷ c ∷ d ∷ []) six each = absurd (omega arith)
six-octets (a ∷ b ∷ c ∷ d ∷ e ∷ []) six each = absurd (omega arith)
six-octets (a ∷ b ∷ c ∷ d ∷ e ∷ f ∷ g ∷ more) six each = absurd (omega arith)

-- sixteen digits spell a number of 64 bits, and twelve one of 48
pub hex16-range : (text : List ℕ) → IfSome (hex16 text) (λ n. n < 2 ^ 64)
unfolding hex16
hex16-range text = by (decode_sized text 8) refl
  where
    by : (r : Result (List ℕ) FromHexError) → decode_sized text 8 ≡ r → IfSome (number_of_octets r) (λ n. n < 2 ^ 64)
    by (Ok bytes) e = eight-octets bytes (sized-bytes text _ _ bytes e).1
    by (Err x) e = tt

pub hex12-range : (text : List ℕ) → IfSome (hex12 text) (λ n. n < 2 ^ 48)
unfolding hex12
hex12-range text = by (decode_sized text 6) refl
  where
    by : (r : Result (List ℕ) FromHexError) → decode_sized text 6 ≡ r → IfSome (number_of_decoded r) (λ n. n < 2 ^ 48)
    by (Ok bytes) e =
        let digits = decode_sized-ok text 6 bytes e in
        let both = sized-bytes text _ _ bytes e in
        six-octets bytes (omega (arith, digits, both.0)) both.1
    by (Err x) e = tt

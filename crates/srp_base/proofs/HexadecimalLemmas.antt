-- What a padded hexadecimal hole writes, and which texts spell a number.
use Rattle.std.proofs.Common.{◌≡◌, ℕ, ◌+◌, ◌-◌, ◌^◌, List, [], ◌++◌, length, false, refl, append-nil, ap, ◌↔◌, Option, Result, Ok, Err}
use Rattle.std.proofs.Math.Nat.{sub-zero}
use Rattle.std.specs.Prelude.{replicate, IsOk, IsSome, IfSome, Some, None}
use Rattle.std.specs.{List.AllPass, Fmt.padded_integral, Fmt.format_spec, Fmt.char_count}
use Rattle.hex.specs.Hex.{decode_sized, is_hex_digit}
use Rattle.hex.specs.declared.error.FromHexError.{FromHexError}
use Rattle.hex.proofs.HexLemmas.{IsOk-decode_sized}
use Rattle.srp_base.specs.{hex12, hex16, number_of_decoded, number_of_octets}

-- what `{:016x}` writes of a number
pub padded_hex16 : (ds : List ℕ)
    → padded_integral (format_spec 32 0 4 16 (2 ^ 64 - 1)) false [] ds ≡ replicate (16 - length ds) 48 ++ ds
unfolding padded_integral char_count
padded_hex16 ds = simp (append-nil, sub-zero)

-- what `{:012x}` writes of a number
pub padded_hex12 : (ds : List ℕ)
    → padded_integral (format_spec 32 0 4 12 (2 ^ 64 - 1)) false [] ds ≡ replicate (12 - length ds) 48 ++ ds
unfolding padded_integral char_count
padded_hex12 ds = simp (append-nil, sub-zero)

-- what sixteen digits decode to is the number
pub hex16-decoded : (text : List ℕ) (r : Result (List ℕ) FromHexError) → r ≡ decode_sized text 8
    → number_of_octets r ≡ hex16 text
unfolding hex16
hex16-decoded text r e = ap number_of_octets e

is_some-number : (r : Result (List ℕ) FromHexError) → IsSome (number_of_octets r) ↔ IsOk r
is_some-number (Ok octets) = (λ _. refl, λ _. refl)
is_some-number (Err e) = (λ h. h, λ h. h)

-- the texts that spell a number
pub IsSome-hex16 : (text : List ℕ) → IsSome (hex16 text) ↔ ((length text ≡ 16) × AllPass is_hex_digit text)
unfolding hex16
IsSome-hex16 text =
    let some = is_some-number (decode_sized text 8) in
    let ok = IsOk-decode_sized text 8 in
    (λ h. ok.0 (some.0 h), λ h. some.1 (ok.1 h))

pub IsSome-as_hex16 : (text : List ℕ) (o : Option ℕ) → o ≡ hex16 text
    → IsSome o ↔ ((length text ≡ 16) × AllPass is_hex_digit text)
IsSome-as_hex16 text o e = rw e (IsSome-hex16 text)

-- what twelve digits decode to is the number
pub hex12-decoded : (text : List ℕ) (r : Result (List ℕ) FromHexError) → r ≡ decode_sized text 6
    → number_of_decoded r ≡ hex12 text
unfolding hex12
hex12-decoded text r e = ap number_of_decoded e

is_some-decoded : (r : Result (List ℕ) FromHexError) → IsSome (number_of_decoded r) ↔ IsOk r
is_some-decoded (Ok octets) = (λ _. refl, λ _. refl)
is_some-decoded (Err e) = (λ h. h, λ h. h)

-- the texts that spell an address
pub IsSome-hex12 : (text : List ℕ) → IsSome (hex12 text) ↔ ((length text ≡ 12) × AllPass is_hex_digit text)
unfolding hex12
IsSome-hex12 text =
    let some = is_some-decoded (decode_sized text 6) in
    let ok = IsOk-decode_sized text 6 in
    (λ h. ok.0 (some.0 h), λ h. some.1 (ok.1 h))

pub IsSome-as_hex12 : (text : List ℕ) (o : Option ℕ) → o ≡ hex12 text
    → IsSome o ↔ ((length text ≡ 12) × AllPass is_hex_digit text)
IsSome-as_hex12 text o e = rw e (IsSome-hex12 text)

-- an option that has a value, and has none but this one
pub some-known : (o : Option ℕ) (n : ℕ) → IsSome o → IfSome o (λ m. m ≡ n) → o ≡ Some n
some-known (Some m) n is_some known = ap Some known
some-known None n is_some known = cc

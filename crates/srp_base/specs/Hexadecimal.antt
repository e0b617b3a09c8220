-- Identifiers as hexadecimal digits: StreamIDs and BridgeIDs have sixteen, addresses twelve.
use Rattle.std.specs.Prelude.{ℕ, false, ◌+◌, ◌-◌, ◌*◌, List, ◌++◌, length, fold, Option, Some, None, Result, Ok, Err, replicate}
use Rattle.std.specs.{Fmt.digits, Int.w64, Int.from_be_bytes}
use Rattle.hex.specs.Hex.{decode_sized}
use Rattle.hex.specs.declared.error.FromHexError.{FromHexError}

-- the number of eight octets, the first of them the highest
abbrev pub number_of_octets : Result (List ℕ) FromHexError → Option ℕ
number_of_octets (Ok octets) = Some (from_be_bytes w64 octets)
number_of_octets (Err e) = None

-- the number that sixteen hexadecimal digits of either case spell, the highest digit first; no
-- other text spells one
unfoldable pub hex16 : List ℕ → Option ℕ
hex16 text = number_of_octets (decode_sized text 8)

-- the number of some octets, the first of them the highest
abbrev pub number_high_first : List ℕ → ℕ
number_high_first octets = fold (λ n octet. n * 256 + octet) 0 octets

-- the number of the octets that digits spell, if they spell some
abbrev pub number_of_decoded : Result (List ℕ) FromHexError → Option ℕ
number_of_decoded (Ok octets) = Some (number_high_first octets)
number_of_decoded (Err e) = None

-- the number that twelve hexadecimal digits of either case spell, the highest digit first; no other
-- text spells one
unfoldable pub hex12 : List ℕ → Option ℕ
hex12 text = number_of_decoded (decode_sized text 6)

-- a number below 2 ^ 64 as sixteen hexadecimal digits in lower case: its digits, with zeros before
-- them
unfoldable pub hex16_text : ℕ → List ℕ
hex16_text n = let ds = digits 16 false n in replicate (16 - length ds) 48 ++ ds

-- a number below 2 ^ 48 as twelve hexadecimal digits in lower case: its digits, with zeros before
-- them
unfoldable pub hex12_text : ℕ → List ℕ
hex12_text n = let ds = digits 16 false n in replicate (12 - length ds) 48 ++ ds

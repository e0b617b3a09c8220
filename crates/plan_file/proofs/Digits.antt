-- Identifiers, addresses and names that are written as texts are read back.
use Rattle.std.proofs.Common.{◌≡◌, ◌∙◌, ℕ, zero, suc, ◌+◌, ◌-◌, ◌*◌, ◌/◌, ◌%◌, ◌^◌, ◌<◌, ◌≤◌, Bool, true, false, ◌&&◌, ◌||◌, nat_le, ◌==◌, List, [], ◌∷◌, length, drop, slice_index, Option, Some, None, Result, Ok, refl, sym, ap, IsAscii, IsUtf8, arith}
use native.Mathlib.Nat as nat
use Rattle.std.proofs.lemmas.{Bool.and_parts, Bool.Decides.nat_tests, Nat.from_be_bytes-to_be_bytes_8, Str.IsUtf8-from_ascii, Str.utf8_lossy-IsUtf8}
use Rattle.std.specs.{Int.w64, Int.to_be_bytes, List.list_all, Str.Lossy.utf8_lossy}
use Rattle.hex.specs.Hex.{IsBytes, decode_sized, encode_lower}
use Rattle.hex.proofs.HexLemmas.{decode_sized-encode_lower}
use Rattle.srp_base.specs.Hexadecimal.{hex12, hex16, number_of_decoded, number_of_octets}
use Rattle.topology_file.specs.{Entries.is_name, Entries.is_name_char, Entries.name_of_text}
use Rattle.plan_file.proofs.Readings.{when-true}

-- ---- identifiers and addresses

octets-8 : (n : ℕ) → IsBytes (to_be_bytes w64 n)
octets-8 n zero = omega arith
octets-8 n (suc zero) = omega arith
octets-8 n (suc (suc zero)) = omega arith
octets-8 n (suc (suc (suc zero))) = omega arith
octets-8 n (suc (suc (suc (suc zero)))) = omega arith
octets-8 n (suc (suc (suc (suc (suc zero))))) = omega arith
octets-8 n (suc (suc (suc (suc (suc (suc zero)))))) = omega arith
octets-8 n (suc (suc (suc (suc (suc (suc (suc zero))))))) = omega arith
octets-8 n (suc (suc (suc (suc (suc (suc (suc (suc i)))))))) = omega arith

-- sixteen digits of a number spell it
pub id-back : (n : ℕ) → n < 2 ^ 64 → hex16 (encode_lower (to_be_bytes w64 n)) ≡ Some n
unfolding hex16
id-back n fits =
    ap number_of_octets (decode_sized-encode_lower (to_be_bytes w64 n) 8 refl (octets-8 n)) ∙ ap Some (from_be_bytes-to_be_bytes_8 n fits)

octets-6 : (n : ℕ) → IsBytes (drop 2 (to_be_bytes w64 n))
octets-6 n i = octets-8 n (suc (suc i))

rest-of : (n p : ℕ) → n / p ≡ n / p % 256 + n / (p * 256) * 256
rest-of n p = omega (arith, nat.div-div-eq-div-mul n p 256)

joined-6 : (a b c d e f n p q r s t : ℕ) → n ≡ a + p * 256 → p ≡ b + q * 256 → q ≡ c + r * 256 → r ≡ d + s * 256 → s ≡ e + t * 256 → t ≡ f
    → (((((0 * 256 + f) * 256 + e) * 256 + d) * 256 + c) * 256 + b) * 256 + a ≡ n
joined-6 a b c d e f n p q r s t at_0 at_1 at_2 at_3 at_4 at_5 = omega arith

-- twelve digits of a number spell it
pub dest-back : (n : ℕ) → n < 2 ^ 48 → hex12 (encode_lower (drop 2 (to_be_bytes w64 n))) ≡ Some n
unfolding hex12
dest-back n fits =
    let low : n ≡ n % 256 + n / 256 * 256 = omega arith in
    let high : n / 1099511627776 ≡ n / 1099511627776 % 256 = omega (arith, fits) in
    ap number_of_decoded (decode_sized-encode_lower (drop 2 (to_be_bytes w64 n)) 6 refl (octets-6 n))
    ∙ ap Some (joined-6 _ _ _ _ _ _ n _ _ _ _ _ low (rest-of n 256) (rest-of n 65536) (rest-of n 16777216) (rest-of n 4294967296) high)

-- ---- names

-- a name's characters are ASCII
char-ascii : (c : ℕ) → is_name_char c ≡ true → c < 128
char-ascii c e = grind (arith, nat_tests)

chars-ascii : (name : List ℕ) → list_all is_name_char name ≡ true → IsAscii name
chars-ascii [] e i = omega arith
chars-ascii (c ∷ cs) e zero = char-ascii c (and_parts (is_name_char c) (list_all is_name_char cs) e).0
chars-ascii (c ∷ cs) e (suc i) = chars-ascii cs (and_parts (is_name_char c) (list_all is_name_char cs) e).1 i

-- a name's text is the name
pub name-text : (name : List ℕ) → is_name name ≡ true → utf8_lossy name ≡ name
name-text name e =
    let chars = (and_parts (nat_le 1 (length name) && nat_le (length name) 32) (list_all is_name_char name) e).1 in
    utf8_lossy-IsUtf8 name (IsUtf8-from_ascii name (chars-ascii name chars))

pub name-back : (name : List ℕ) → is_name name ≡ true → name_of_text (utf8_lossy name) ≡ Some name
name-back name e = ap name_of_text (name-text name e) ∙ when-true (is_name name) (Some name) None e

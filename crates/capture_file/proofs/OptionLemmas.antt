-- Options, one after another.
use Rattle.std.proofs.lemmas.{Bool.Decides.nat_tests, List.length-drop, List.drop_at}
use Rattle.std.proofs.Common.{◌≢◌, ◌≡◌, ℕ, zero, suc, ◌<◌, ◌≤◌, false, ◌==◌, List, [], ◌∷◌, ◌++◌, length, length-append, drop, Option, Some, None, if◌then◌else◌, nat_le, refl, ap, ◌∙◌, arith}
use Rattle.capture_file.specs.{ByteOrder, padded, option_at, octet_value, resolution_in, IsOtherOption}

-- octets that are to be passed first and are there
pub passes : (order : ByteOrder) (n : ℕ) (octets : List ℕ) → n ≤ length octets → resolution_in order n octets ≡ resolution_in order 0 (drop n octets)
unfolding resolution_in
passes order zero octets le = refl
passes order (suc n) [] le = absurd (omega (arith, le))
passes order (suc n) (o ∷ octets) le = passes order n octets (omega (arith, le))

-- octets that are to be passed first and are too few
pub too_few : (order : ByteOrder) (n : ℕ) (octets : List ℕ) → length octets < n → resolution_in order n octets ≡ None
unfolding resolution_in
too_few order zero octets lt = absurd (omega (arith, lt))
too_few order (suc n) [] lt = refl
too_few order (suc n) (o ∷ octets) lt = too_few order n octets (omega (arith, lt))

pub breaks : (order : ByteOrder) (octets : List ℕ) → option_at order octets ≡ None → resolution_in order 0 octets ≡ None
unfolding option_at resolution_in
breaks order [] e = absurd cc
breaks order (a ∷ []) e = refl
breaks order (a ∷ b ∷ []) e = refl
breaks order (a ∷ b ∷ c ∷ []) e = refl
breaks order (a ∷ b ∷ c ∷ d ∷ octets) e = grind arith

pub ends : (order : ByteOrder) (octets : List ℕ) → option_at order octets ≡ Some None → resolution_in order 0 octets ≡ Some 6
unfolding option_at resolution_in
ends order [] e = refl
ends order (a ∷ []) e = absurd cc
ends order (a ∷ b ∷ []) e = absurd cc
ends order (a ∷ b ∷ c ∷ []) e = absurd cc
ends order (a ∷ b ∷ c ∷ d ∷ octets) e = grind arith

-- an option, whose code isn't 0
pub goes_on : (order : ByteOrder) (octets : List ℕ) (code len : ℕ) (rest : List ℕ) → option_at order octets ≡ Some (Some (code, len, rest))
    → resolution_in order 0 octets ≡ (if code == 9 then octet_value len rest else resolution_in order (padded len) rest)
unfolding option_at resolution_in
goes_on order [] code len rest e = absurd cc
goes_on order (a ∷ []) code len rest e = absurd cc
goes_on order (a ∷ b ∷ []) code len rest e = absurd cc
goes_on order (a ∷ b ∷ c ∷ []) code len rest e = absurd cc
goes_on order (a ∷ b ∷ c ∷ d ∷ octets) code len rest e = grind arith

-- an option takes four octets
shorter : (order : ByteOrder) (octets : List ℕ) (code len : ℕ) (rest : List ℕ) → option_at order octets ≡ Some (Some (code, len, rest)) → length rest < length octets
unfolding option_at
shorter order [] code len rest e = absurd cc
shorter order (a ∷ []) code len rest e = absurd cc
shorter order (a ∷ b ∷ []) code len rest e = absurd cc
shorter order (a ∷ b ∷ c ∷ []) code len rest e = absurd cc
shorter order (a ∷ b ∷ c ∷ d ∷ octets) code len rest e = grind arith

-- so many octets are there, or not
abbrev pub dropped : ℕ → List ℕ → Option (List ℕ)
dropped n octets = if nat_le n (length octets) then Some (drop n octets) else None

dropped_some : (n : ℕ) (octets rest : List ℕ) → dropped n octets ≡ Some rest → (n ≤ length octets) × (drop n octets ≡ rest)
dropped_some n octets rest e = grind (arith, nat_tests)

dropped_none : (n : ℕ) (octets : List ℕ) → dropped n octets ≡ None → length octets < n
dropped_none n octets e = grind (arith, nat_tests)

not_nine : (code : ℕ) → code ≢ 9 → (code == 9) ≡ false
not_nine code n = grind (arith, nat_tests)

module _ (order : ByteOrder) (octets : List ℕ) (code len : ℕ) (rest : List ℕ) (begins : option_at order octets ≡ Some (Some (code, len, rest))) where
  pub finds : code ≡ 9 → resolution_in order 0 octets ≡ octet_value len rest
  finds e = goes_on order octets code len rest begins ∙ rw e refl

  other : code ≢ 9 → resolution_in order 0 octets ≡ resolution_in order (padded len) rest
  other n = goes_on order octets code len rest begins ∙ rw (not_nine code n) refl

  pub fails : code ≢ 9 → dropped (padded len) rest ≡ None → resolution_in order 0 octets ≡ None
  fails n e = other n ∙ too_few order (padded len) rest (dropped_none (padded len) rest e)

  pub steps : (behind : List ℕ) → code ≢ 9 → dropped (padded len) rest ≡ Some behind → resolution_in order 0 octets ≡ resolution_in order 0 behind
  steps behind n e =
      let d = dropped_some (padded len) rest behind e in
      other n ∙ passes order (padded len) rest d.0 ∙ ap (λ (o : List ℕ). resolution_in order 0 o) d.1

  pub falls : (behind : List ℕ) → dropped (padded len) rest ≡ Some behind → length behind < length octets
  falls behind e =
      let d = dropped_some (padded len) rest behind e in
      let s = shorter order octets code len rest begins in
      omega (arith, s, ap length d.1, length-drop (padded len) rest)

-- ---- the law of options

-- an option, whatever stands behind it
with_more : (order : ByteOrder) (text more : List ℕ) (code len : ℕ) (value : List ℕ) → option_at order text ≡ Some (Some (code, len, value))
    → option_at order (text ++ more) ≡ Some (Some (code, len, value ++ more))
unfolding option_at
with_more order [] more code len value e = absurd cc
with_more order (a ∷ []) more code len value e = absurd cc
with_more order (a ∷ b ∷ []) more code len value e = absurd cc
with_more order (a ∷ b ∷ c ∷ []) more code len value e = absurd cc
with_more order (a ∷ b ∷ c ∷ d ∷ octets) more code len value e = grind arith

pub other_passes : (order : ByteOrder) (text more : List ℕ) → IsOtherOption order text → resolution_in order 0 (text ++ more) ≡ resolution_in order 0 more
other_passes order text more is =
    let there : padded is.len ≤ length (is.value ++ more) = omega (arith, is.whole, length-append is.value more) in
    other order (text ++ more) is.code is.len (is.value ++ more) (with_more order text more is.code is.len is.value is.begins) is.other
    ∙ passes order (padded is.len) (is.value ++ more) there
    ∙ ap (λ (o : List ℕ). resolution_in order 0 o) (drop_at is.value more (padded is.len) is.whole)

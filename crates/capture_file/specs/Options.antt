-- The options of a block of pcapng: of each its code and its length in two octets, and its value
-- with padding up to a multiple of 4 octets. They end with a code of 0, or with the octets.
use Rattle.std.specs.Prelude.{◌≡◌, ◌≢◌, ℕ, zero, suc, ◌+◌, ◌*◌, ◌/◌, ◌==◌, if◌then◌else◌, List, [], ◌∷◌, length, slice_get, Option, Some, None}
use Rattle.capture_file.specs.declared.setting.ByteOrder.{ByteOrder}
use Rattle.capture_file.specs.Fields.{two}

-- so many octets with their padding
abbrev pub padded : ℕ → ℕ
padded n = (n + 3) / 4 * 4

-- the code and the length of the option that begins here, and the octets behind them; none where
-- the options end. Fewer octets than a code and a length take break.
unfoldable pub option_at : ByteOrder → List ℕ → Option (Option (ℕ × ℕ × List ℕ))
option_at order [] = Some None
option_at order (a ∷ b ∷ c ∷ d ∷ octets) =
    if two order a b == 0 then Some None else Some (Some (two order a b, two order c d, octets))
option_at order _ = None

-- the value of an option of one octet; of another length it breaks
abbrev pub octet_value : ℕ → List ℕ → Option ℕ
octet_value len octets = if len == 1 then slice_get octets 0 else None

-- the octet of the resolution that options give, behind so many octets that are to be passed first:
-- the value of the first option of code 9, or 6, which is µs, where there is none. An option that
-- the octets are too short for breaks.
unfoldable pub resolution_in : ByteOrder → ℕ → List ℕ → Option ℕ
resolution_in order (suc n) [] = None
resolution_in order (suc n) (o ∷ octets) = resolution_in order n octets
resolution_in order zero [] = Some 6
resolution_in order zero (a ∷ b ∷ c ∷ d ∷ octets) =
    if two order a b == 0 then Some 6
    else (if two order a b == 9 then octet_value (two order c d) octets
    else resolution_in order (padded (two order c d)) octets)
resolution_in order zero _ = None

-- a whole option of another code than 9
pub record IsOtherOption (order : ByteOrder) (text : List ℕ) : Type 0 where
  pub code : ℕ
  pub len : ℕ
  pub value : List ℕ
  pub begins : option_at order text ≡ Some (Some (code, len, value))
  pub other : code ≢ 9
  pub whole : length value ≡ padded len

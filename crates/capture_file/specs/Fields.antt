-- Numbers in the octets of a capture file, in either byte order. Where the octets end too early, a
-- number counts as 0: each rule asks for the octets that it needs.
use Rattle.std.specs.Prelude.{ℕ, ◌+◌, ◌*◌, List, ◌∷◌, drop}
use Rattle.capture_file.specs.declared.{setting.ByteOrder.ByteOrder, setting.ByteOrder.TheVariants.Little, setting.ByteOrder.TheVariants.Big}

-- the number in four octets
abbrev pub four : ByteOrder → ℕ → ℕ → ℕ → ℕ → ℕ
four Big a b c d = ((a * 256 + b) * 256 + c) * 256 + d
four Little a b c d = ((d * 256 + c) * 256 + b) * 256 + a

-- the number in two octets
abbrev pub two : ByteOrder → ℕ → ℕ → ℕ
two Big a b = a * 256 + b
two Little a b = b * 256 + a

-- the number in the first four octets
unfoldable pub first_four : ByteOrder → List ℕ → ℕ
first_four order (a ∷ b ∷ c ∷ d ∷ octets) = four order a b c d
first_four order _ = 0

-- the number in the first two octets
unfoldable pub first_two : ByteOrder → List ℕ → ℕ
first_two order (a ∷ b ∷ octets) = two order a b
first_two order _ = 0

-- the number in the four octets from an offset on
abbrev pub field : ByteOrder → ℕ → List ℕ → ℕ
field order at octets = first_four order (drop at octets)

-- the number in the two octets from an offset on
abbrev pub half : ByteOrder → ℕ → List ℕ → ℕ
half order at octets = first_two order (drop at octets)

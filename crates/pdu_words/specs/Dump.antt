-- A hex dump, as tcpdump, tshark, Wireshark and xxd print it: in each line an offset, octets, and a
-- column of characters that isn't read.
use Rattle.std.specs.Prelude.{ℕ, ◌+◌, ◌-◌, ◌==◌, Bool, true, false, not, ◌&&◌, ◌||◌, nat_le, if◌then◌else◌, List, [], ◌∷◌, ◌++◌, length, take, drop, replicate, position, Option, Some, None, option_map, option_and_then}
use Rattle.std.specs.{Int.w32, Int.from_be_bytes, List.list_any, Result.result_ok}
use Rattle.hex.specs.Hex.{decode_sized}
use Rattle.pdu_words.specs.declared.dump.Part.{Part}
use Rattle.pdu_words.specs.declared.dump.Part.TheVariants as parts
use Rattle.pdu_words.specs.Capture.{octets_in, is_passed_over}

-- the ? of the logic: the second step, if the first gave a value
infixl 10 ◌>>=◌
abbrev pub ◌>>=◌ : {A B : Type 0} → Option A → (A → Option B) → Option B
(Some x) >>= f = f x
None >>= f = None

-- ---- a line

-- a blank or a tab
abbrev pub is_blank : ℕ → Bool
is_blank c = c == 32 || c == 9

-- what stands behind the blanks at the front
abbrev pub behind_blanks : List ℕ → List ℕ
behind_blanks [] = []
behind_blanks (c ∷ cs) = if is_blank c then behind_blanks cs else c ∷ cs

-- what stands behind `0x`, if a text begins with it
abbrev pub behind_prefix : List ℕ → List ℕ
behind_prefix [] = []
behind_prefix (a ∷ []) = a ∷ []
behind_prefix (a ∷ b ∷ cs) = if a == 48 && b == 120 then cs else a ∷ b ∷ cs

-- a blank, or a colon
abbrev pub is_offset_end : ℕ → Bool
is_offset_end c = is_blank c || c == 58

-- the number that eight hexadecimal digits of either case spell; no other text spells one
abbrev pub eight_digits : List ℕ → Option ℕ
eight_digits digits = option_map (from_be_bytes w32) (result_ok (decode_sized digits 4))

-- the number that four to eight of them spell
abbrev pub offset_of : List ℕ → Option ℕ
offset_of digits =
    if nat_le 4 (length digits) && nat_le (length digits) 8 then eight_digits (replicate (8 - length digits) 48 ++ digits)
    else None

-- what stands behind a colon and blanks, or behind two blanks and more
abbrev pub behind_gap : List ℕ → Option (List ℕ)
behind_gap [] = None
behind_gap (a ∷ []) = None
behind_gap (a ∷ b ∷ cs) = if is_offset_end a && is_blank b then Some (behind_blanks cs) else None

-- what stands before the first two blanks in a row
abbrev pub column : List ℕ → List ℕ
column [] = []
column (c ∷ []) = c ∷ []
column (c ∷ d ∷ cs) = if is_blank c && is_blank d then [] else c ∷ column (d ∷ cs)

-- a colon, or a hyphen
abbrev pub is_mark : ℕ → Bool
is_mark c = c == 58 || c == 45

-- the octets of a column, one at least, between which blanks alone stand
abbrev pub column_octets : List ℕ → Option (List ℕ)
column_octets text = if list_any is_mark text || is_passed_over text then None else octets_in text

-- the same of the column behind a gap
abbrev pub octets_behind : List ℕ → Option (List ℕ)
octets_behind text = option_and_then (λ rest. column_octets (column rest)) (behind_gap text)

-- an offset, and the octets of its column
abbrev pub numbered : List ℕ → Option (ℕ × List ℕ)
numbered text = do
  end ← position is_offset_end text
  offset ← offset_of (take end text)
  octets ← octets_behind (drop end text)
  Some (offset, octets)

-- A line of a dump: its offset and its octets. Blanks and `0x` may stand before the offset.
abbrev pub dump_line : List ℕ → Option (ℕ × List ℕ)
dump_line line = numbered (behind_prefix (behind_blanks line))

-- ---- a dump

-- What a line is to the lines before it: it begins a dump with these octets, it goes on with one by
-- these, or it stands apart.
pub data DumpPart : Type 0 where
  First : List ℕ → DumpPart
  Next : List ℕ → DumpPart
  Apart : DumpPart

-- a part in place
abbrev pub part_in : Part → DumpPart
part_in (parts.First octets) = DumpPart.First octets.items
part_in (parts.Next octets) = DumpPart.Next octets.items
part_in parts.Apart = DumpPart.Apart

-- the octets that a line adds to a dump
abbrev pub octets_added : DumpPart → List ℕ
octets_added (DumpPart.First octets) = octets
octets_added (DumpPart.Next octets) = octets
octets_added DumpPart.Apart = []

-- of a line behind a dump's octets, so many, or 0 where no dump stands before it: a dump begins with
-- the offset 0, and goes on with the number of its octets so far
abbrev pub part_of : ℕ → Option (ℕ × List ℕ) → DumpPart
part_of due None = DumpPart.Apart
part_of due (Some x) =
    if x.0 == 0 then DumpPart.First x.1
    else (if x.0 == due then DumpPart.Next x.1
    else DumpPart.Apart)

abbrev pub part_at : ℕ → List ℕ → DumpPart
part_at due line = part_of due (dump_line line)

-- whether a line begins a dump
abbrev pub is_first : DumpPart → Bool
is_first (DumpPart.First octets) = true
is_first _ = false

-- how many octets the dump has with a line, 0 where the line is of none
abbrev pub due_behind : ℕ → DumpPart → ℕ
due_behind due (DumpPart.First octets) = length octets
due_behind due (DumpPart.Next octets) = due + length octets
due_behind due DumpPart.Apart = 0

-- the octets with which a line goes on with a dump, and those that follow it
abbrev pub further : DumpPart → List ℕ → List ℕ
further (DumpPart.Next octets) rest = octets ++ rest
further _ rest = []

-- the octets by which some lines go on with a dump of so many octets
abbrev pub gathered : ℕ → List (List ℕ) → List ℕ
gathered due [] = []
gathered due (line ∷ lines) = further (part_at due line) (gathered (due_behind due (part_at due line)) lines)

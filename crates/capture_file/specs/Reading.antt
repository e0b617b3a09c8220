-- Reading a capture file from left to right. That this is the grammar is the law
-- `reading_is_the_grammar`.
use Rattle.std.specs.Prelude.{◌≡◌, IfSome, ℕ, zero, suc, ◌+◌, ◌-◌, ◌%◌, ◌&&◌, nat_le, nat_lt, ◌==◌, if◌then◌else◌, List, [], ◌∷◌, ◌++◌, length, take, drop, Option, Some, None, option_map, option_and_then, Result, Ok, Err}
use Rattle.srp_base.specs.Results.{Gives}
use Rattle.capture_file.specs.declared.{capture.Capture.Capture, error.CaptureErr.CaptureErr, said.Said.Said, setting.ByteOrder.ByteOrder, setting.FileForm.FileForm, setting.FileForm.TheVariants.Pcap, setting.FileForm.TheVariants.Pcapng, setting.Magic.Magic, setting.Setting.Setting}
use Rattle.capture_file.specs.declared.error.CaptureErr.TheVariants as errors
use Rattle.capture_file.specs.declared.said.Said.TheVariants as said
use Rattle.capture_file.specs.{Fields.field, Packets.packet_in, Packets.capture_in, Pieces.order_in, Pieces.Meant, Pieces.meaning, Pieces.after, Pieces.packets_meant, Pieces.Meant.Frame, Pieces.Meant.Section, Pieces.Meant.Described, Pieces.Meant.OtherLink, Pieces.Meant.PassedOver, Grammar.magic_of, Grammar.head_size, Grammar.setting_in, Grammar.Outcome}

-- ---- a piece

-- how many octets the record takes that begins here, if it is whole
unfoldable pub record_size : ByteOrder → List ℕ → Option ℕ
record_size order octets =
    if nat_le (field order 8 octets) (field order 12 octets) && nat_le (16 + field order 8 octets) (length octets) then Some (16 + field order 8 octets)
    else None

-- how many octets the block takes that begins here, if it is whole
unfoldable pub block_size : ByteOrder → List ℕ → Option ℕ
block_size order octets =
    let size = field order 4 octets in
    if nat_le 12 size && size % 4 == 0 && nat_le size (length octets) && field order (size - 4) octets == size then Some size
    else None

-- the same of a piece of this form
abbrev pub size_of : FileForm → Setting → List ℕ → Option ℕ
size_of Pcap s octets = record_size s.order octets
size_of Pcapng s octets = block_size (order_in s octets) octets

-- what the piece means that begins here, and how many octets it takes
unfoldable pub piece_at : Setting → List ℕ → Option (Meant × ℕ)
piece_at s octets =
    option_and_then (λ n. option_map (λ m. (m, n)) (meaning s (take n octets))) (size_of s.form s octets)

-- ---- pieces

-- a piece, and what is read behind it
abbrev pub with_meant : Meant → Outcome → Outcome
with_meant (OtherLink number) outcome = Err (errors.OtherLink number)
with_meant meant (Ok x) = Ok (packets_meant meant ++ x.0, x.1)
with_meant meant (Err e) = Err e

-- what is read behind a piece, or how many octets are left where none begins
abbrev pub told : ℕ → Option (Meant × ℕ) → (Meant × ℕ → Outcome) → Outcome
told left None behind = Ok ([], Some left)
told left (Some x) behind = behind x

-- Pieces in a setting, behind so many octets that are to be passed first. Where none begins, how
-- many octets are left.
unfoldable pub pieces_in : ℕ → Setting → List ℕ → Outcome
pieces_in n s [] = Ok ([], None)
pieces_in (suc n) s (o ∷ octets) = pieces_in n s octets
pieces_in zero s (o ∷ octets) =
    told (suc (length octets)) (piece_at s (o ∷ octets)) (λ x. with_meant x.0 (pieces_in (x.1 - 1) (after s x.0) octets))

-- ---- a file

-- the pieces behind a head
abbrev pub behind_head : Result Setting CaptureErr → List ℕ → Outcome
behind_head (Ok s) octets = pieces_in 0 s octets
behind_head (Err e) octets = Err e

-- a file of a form, if it is one
abbrev pub read_as : Option Magic → List ℕ → Outcome
read_as None octets = Err errors.NotCapture
read_as (Some magic) octets =
    if nat_lt (length octets) (head_size magic.form) then Ok ([], Some (length octets))
    else behind_head (setting_in magic octets) (drop (head_size magic.form) octets)

-- with the place where it breaks off, of so many octets
abbrev pub placed_in : ℕ → Outcome → Outcome
placed_in all (Ok x) = Ok (x.0, option_map (λ left. all - left) x.1)
placed_in all (Err e) = Err e

-- The frames of a capture file, and the place where it breaks off, if it does; or why it has none.
unfoldable pub reading : List ℕ → Outcome
reading octets = placed_in (length octets) (read_as (magic_of octets) octets)

-- ---- what the calls answer

-- the cause that a failure tells, which want of memory doesn't
abbrev pub cause_told : CaptureErr → Option CaptureErr
cause_told errors.NotCapture = Some errors.NotCapture
cause_told (errors.OtherLink number) = Some (errors.OtherLink number)
cause_told errors.NoMemory = None

-- the file has this failure where a piece is read that means this, whatever stands behind it
abbrev pub Refuses : CaptureErr → Meant → Type 0
Refuses e meant = IfSome (cause_told e) (λ cause. (outcome : Outcome) → with_meant meant outcome ≡ Err cause)

-- what a piece says in place
abbrev pub meant_in : Said → Meant
meant_in (said.Frame r) = Frame (packet_in r)
meant_in (said.Section order) = Section order
meant_in (said.Described i) = Described i
meant_in (said.OtherLink number) = OtherLink number
meant_in said.PassedOver = PassedOver

-- What `read_capture` answered is what the octets say, unless memory ran out.
abbrev pub Answers : Result Capture CaptureErr → Outcome → Type 0
Answers answer read = Gives capture_in cause_told answer read

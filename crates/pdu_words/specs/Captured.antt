-- A capture file to what its frames of MRP say, by the reading of capture files, of frames, and of
-- PDUs.
use Rattle.std.specs.Prelude.{ℕ, ◌+◌, ◌-◌, ◌/◌, ◌%◌, ◌^◌, nat_lt, if◌then◌else◌, List, [], ◌∷◌, ◌++◌, length, codes, replicate, Option, Some, None, Ok, Err}
use Rattle.std.specs.Fmt.{decimal}
use Rattle.srp_base.specs.{Hexadecimal.hex12_text, Text.whole_of}
use Rattle.capture_file.specs.declared.error.CaptureErr.{CaptureErr}
use Rattle.capture_file.specs.declared.error.CaptureErr.TheVariants as errors
use Rattle.capture_file.specs.{Grammar.Outcome, Packets.Packet, Reading.reading}
use Rattle.mrp_frames.specs.Frames.{Seen, frame_in}
use Rattle.pdu_words.specs.{Decoded.octets_said, Events.app_name}

-- ---- a frame

-- a number below 10 ^ 9 as nine digits
unfoldable pub nine_digits : ℕ → List ℕ
nine_digits n = let ds = decimal n in replicate (9 - length ds) 48 ++ ds

-- a moment of so many ns, in seconds: `S.NNNNNNNNN`
abbrev pub moment_text : ℕ → List ℕ
moment_text ns = whole_of (decimal (ns / 1000000000) ∷ codes "." ∷ nine_digits (ns % 1000000000) ∷ [])

-- `frame N at S.NNNNNNNNN ADDRESS APP`: where the PDU was found in a capture file
abbrev pub frame_front : ℕ → ℕ → Seen → List ℕ
frame_front n ns seen = whole_of (
    codes "frame " ∷ decimal n ∷ codes " at " ∷ moment_text ns ∷ codes " " ∷ hex12_text seen.address ∷ codes " " ∷ app_name seen.app ∷ [])

-- ` cut GOT of ALL`: so many octets of the frame were captured, of so many
abbrev pub cut_text : ℕ → ℕ → List ℕ
cut_text got whole = whole_of (codes " cut " ∷ decimal got ∷ codes " of " ∷ decimal whole ∷ codes "\n" ∷ [])

-- what the PDU of a frame says, or that the capture has cut the frame
abbrev pub pdu_said : Packet → Seen → List ℕ
pdu_said p seen = if nat_lt (length p.octets) p.whole then cut_text (length p.octets) p.whole else octets_said seen.app seen.pdu

-- what a frame of this number says, if it is one of MRP
abbrev pub frame_said : ℕ → Packet → Option Seen → List ℕ
frame_said n p None = []
frame_said n p (Some seen) = frame_front n p.at_ns seen ++ pdu_said p seen

-- ---- frames

-- the same of some frames, of which the first has number n
abbrev pub frames_said : ℕ → List Packet → List ℕ
frames_said n [] = []
frames_said n (p ∷ ps) = frame_said n p (frame_in p) ++ frames_said (n + 1) ps

-- how many frames one is, of those of MRP
abbrev pub counted : Option Seen → ℕ
counted None = 0
counted (Some seen) = 1

-- how many of them are MRP's
abbrev pub mrp_count : List Packet → ℕ
mrp_count [] = 0
mrp_count (p ∷ ps) = counted (frame_in p) + mrp_count ps

-- `frames N other M`: so many frames of MRP, and so many others
abbrev pub counts_line : ℕ → ℕ → List ℕ
counts_line mrp all = whole_of (codes "frames " ∷ decimal mrp ∷ codes " other " ∷ decimal (all - mrp) ∷ codes "\n" ∷ [])

-- ---- a file

-- `broken at P`, where the file breaks off at an offset in octets, from 0
abbrev pub broken_line : Option ℕ → List ℕ
broken_line None = []
broken_line (Some place) = whole_of (codes "broken at " ∷ decimal place ∷ codes "\n" ∷ [])

-- `not a capture` or `link type T`
abbrev pub cause_line : CaptureErr → List ℕ
cause_line errors.NotCapture = codes "not a capture\n"
cause_line (errors.OtherLink number) = whole_of (codes "link type " ∷ decimal number ∷ codes "\n" ∷ [])
cause_line errors.NoMemory = []

-- what is read of a file
abbrev pub outcome_said : Outcome → List ℕ
outcome_said (Ok x) = whole_of (frames_said 1 x.0 ∷ broken_line x.1 ∷ counts_line (mrp_count x.0) (length x.0) ∷ [])
outcome_said (Err cause) = cause_line cause

-- what a capture file says
abbrev pub captured_text : List ℕ → List ℕ
captured_text octets = outcome_said (reading octets)

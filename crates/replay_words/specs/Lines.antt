-- The lines of a replay that aren't link_replay's. A line ends with a line feed.
use Rattle.std.specs.Prelude.{ℕ, List, [], ◌∷◌, codes}
use Rattle.srp_base.specs.{Hexadecimal.hex12_text, Text.whole_of, declared.numbers.Cs.Cs}
use Rattle.link_replay.specs.declared.lines.End.{End}
use Rattle.link_replay.specs.{Moments.moment_text, Lines.end_front}
use Rattle.mrpdu_codec.specs.declared.form.AppForm.{AppForm}
use Rattle.msrp_codec.specs.declared.pdu.MsrpKey.{MsrpKey}
use Rattle.pdu_words.specs.{Captured.cut_text, Events.app_name, Events.key_text, Events.malformed_text}

-- `T other ADDRESS`: a frame of MRP is of none of the ends
abbrev pub other_line : Cs → ℕ → List ℕ
other_line at address = whole_of (moment_text at ∷ codes " other " ∷ hex12_text address ∷ codes "\n" ∷ [])

-- `T a msrp malformed P`: the end a sent a PDU that breaks at its octet P
abbrev pub malformed_line : Cs → End → AppForm → ℕ → List ℕ
malformed_line at who app place = whole_of (end_front at who ∷ app_name app ∷ malformed_text place ∷ [])

-- `T a msrp cut GOT of ALL`: the capture has so many octets of its frame, of so many
abbrev pub cut_line : Cs → End → AppForm → ℕ → ℕ → List ℕ
cut_line at who app got all = whole_of (end_front at who ∷ app_name app ∷ cut_text got all ∷ [])

-- `T a says talker ID advertise and failed`, in one PDU
abbrev pub double_line : Cs → End → MsrpKey → List ℕ
double_line at who key = whole_of (end_front at who ∷ codes "says " ∷ key_text key ∷ codes " advertise and failed\n" ∷ [])

-- The line of a group, beside the lines that every report has. A line ends with a line feed.
use Rattle.std.specs.Prelude.{ℕ, List, [], ◌∷◌, codes}
use Rattle.srp_base.specs.{Hexadecimal.hex12_text, Text.whole_of}
use Rattle.registrar.specs.declared.Registrar.{Registrar}
use Rattle.report_words.specs.Words.{state_name}

-- `group P MAC S`, the MAC address as twelve hexadecimal digits
abbrev pub group_line : List ℕ → ℕ → Registrar → List ℕ
group_line port mac state = whole_of (
    codes "group " ∷ port ∷ codes " " ∷ hex12_text mac ∷ codes " " ∷ state_name state ∷ codes "\n" ∷ [])

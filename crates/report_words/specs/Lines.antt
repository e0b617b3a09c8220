-- The lines that every report has, each by what it tells. A line ends with a line feed.
use Rattle.std.specs.Prelude.{ℕ, Bool, List, [], ◌∷◌, codes}
use Rattle.std.specs.Fmt.{decimal}
use Rattle.srp_base.specs.Text.{whole_of}
use Rattle.report_words.specs.declared.tally.Tally.{Tally}
use Rattle.report_words.specs.Words.{yes_or_no}

-- `ticks T`
abbrev pub ticks_line : ℕ → List ℕ
ticks_line ticks = whole_of (codes "ticks " ∷ decimal ticks ∷ codes "\n" ∷ [])

-- `port P sent N octets O discarded D`
abbrev pub port_line : List ℕ → Tally → List ℕ
port_line port tally = whole_of (
    codes "port " ∷ port ∷ codes " sent " ∷ decimal tally.sent ∷ codes " octets " ∷ decimal tally.octets
    ∷ codes " discarded " ∷ decimal tally.discarded ∷ codes "\n" ∷ [])

-- `quiet yes` or `quiet no`, then `in step yes` or `in step no`
abbrev pub end_lines : Bool → Bool → List ℕ
end_lines quiet in_step = whole_of (
    codes "quiet " ∷ yes_or_no quiet ∷ codes "\nin step " ∷ yes_or_no in_step ∷ codes "\n" ∷ [])

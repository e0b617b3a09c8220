-- What is said of a line at which the answer is no.
use Rattle.std.specs.Prelude.{ℕ, List, [], ◌∷◌, codes, Option, Some, None}
use Rattle.std.specs.Fmt.{decimal}
use Rattle.srp_base.specs.Text.{whole_of}
use Rattle.audit_words.specs.Shown.{shown_line}

-- the place of a line in the input and behind its cut, and why the answer is no there
abbrev pub place_words : ℕ → ℕ → List ℕ → List ℕ
place_words line behind why = whole_of (
    codes "audit no\nline " ∷ decimal line ∷ codes " of the input, line " ∷ decimal behind ∷ codes " behind the cut: "
    ∷ why ∷ codes "\n" ∷ [])

-- a line, or what is said where there is none
abbrev pub line_or : List ℕ → Option (List ℕ) → List ℕ
line_or none None = none
line_or none (Some line) = shown_line line

-- `stands: ..`
abbrev pub stands_line : Option (List ℕ) → List ℕ
stands_line stands = whole_of (codes "stands: " ∷ line_or (codes "nothing") stands ∷ codes "\n" ∷ [])

-- `legal: ..`
abbrev pub legal_line : Option (List ℕ) → List ℕ → List ℕ
legal_line legal ends = whole_of (codes "legal: " ∷ line_or ends legal ∷ codes "\n" ∷ [])

-- the form of a journal's lines
abbrev pub form_words : List ℕ
form_words = whole_of (
    codes "form: TICK event ENTRY done, or missed in place of done\n"
    ∷ codes "form: TICK PORT STEP ANSWER, where STEP is work, due, settle, send mvrp or send msrp, and ANSWER is nothing, silent, or discarded, received, fired, settled or sent with a number\n"
    ∷ codes "form: no tick is below that of the line before, tick, port and entry are the plan's, one space stands between words, and a line feed alone ends the line\n" ∷ [])

-- of a line that isn't of the form of a journal's lines
abbrev pub unformed_text : ℕ → ℕ → Option (List ℕ) → List ℕ
unformed_text line behind stands = whole_of (
    place_words line behind (codes "why 2, it isn't of the form of a journal's lines") ∷ stands_line stands ∷ form_words ∷ [])

-- of a line that no legal run has there, where one has this, or ends
abbrev pub illegal_text : ℕ → ℕ → Option (List ℕ) → Option (List ℕ) → List ℕ
illegal_text line behind stands legal = whole_of (
    place_words line behind (codes "why 3, no legal run has it there") ∷ stands_line stands
    ∷ legal_line legal (codes "nothing, the run ends here") ∷ [])

-- of a line that the report of the journal's run hasn't there, where it has this, or ends
abbrev pub differing_text : ℕ → ℕ → Option (List ℕ) → Option (List ℕ) → List ℕ
differing_text line behind stands legal = whole_of (
    place_words line behind (codes "why 4, the report of the journal's run hasn't it there") ∷ stands_line stands
    ∷ legal_line legal (codes "nothing, the report ends here") ∷ [])

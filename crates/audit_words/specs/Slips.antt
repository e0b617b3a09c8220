-- Why an input lacks the lines that part it: no line is the cut `=== output`, or none behind it is
-- `journal`.
use Rattle.std.specs.Prelude.{ℕ, nat_eq, ◌==◌, ◌||◌, if◌then◌else◌, Bool, List, codes, length, Option, Some, None}
use Rattle.std.specs.{List.starts_with, List.ends_with, List.list_any, Cmp.Lexicographic.pointwise}
use Rattle.journal_audit.specs.Texts.{lines_of}
use Rattle.audit_words.specs.declared.{slips.Slip.Slip, slips.Sought.Sought}
use Rattle.audit_words.specs.declared.slips.Slip.TheVariants.{Empty, Returns, Joined, NoCut, NoOutput, Refused, NoJournal}
use Rattle.audit_words.specs.declared.slips.Sought.TheVariants.{JoinedCut, CutWithReturn, JournalWithReturn, ErrorLine}

-- whether a line is what is sought
abbrev pub is_sought : Sought → List ℕ → Bool
is_sought JoinedCut line = ends_with nat_eq line (codes "=== output\n") || ends_with nat_eq line (codes "=== output\r\n") || ends_with nat_eq line (codes "=== output")
is_sought CutWithReturn line = pointwise nat_eq line (codes "=== output\r\n")
is_sought JournalWithReturn line = pointwise nat_eq line (codes "journal\r\n")
is_sought ErrorLine line = starts_with nat_eq line (codes "srpnet: rule ") || starts_with nat_eq line (codes "srpnet: not TOML")

-- whether a text has such a line
abbrev pub has_sought : Sought → List ℕ → Bool
has_sought sought text = list_any (is_sought sought) (lines_of text)

-- of an input that has no cut
abbrev pub slip_without_cut : List ℕ → Slip
slip_without_cut octets =
    if length octets == 0 then Empty
    else if has_sought CutWithReturn octets then Returns
    else if has_sought JoinedCut octets then Joined
    else NoCut

-- of one behind whose cut this stands, without a line `journal`
abbrev pub slip_behind : List ℕ → Slip
slip_behind behind =
    if length behind == 0 then NoOutput
    else if has_sought JournalWithReturn behind then Returns
    else if has_sought ErrorLine behind then Refused
    else NoJournal

-- of an input, with what stands behind its cut, if it has one
abbrev pub slip_of : List ℕ → Option (List ℕ) → Slip
slip_of octets None = slip_without_cut octets
slip_of octets (Some behind) = slip_behind behind

-- what is said of a slip, with its cure
abbrev pub slip_words : Slip → List ℕ
slip_words Empty = codes "audit no\nwhy 1: the input is empty\ncure: give the plan, a line that is `=== output`, and what `run journal` or `ports journal` printed of the plan\n"
slip_words Returns = codes "audit no\nwhy 1: the line `=== output` or `journal` ends with a carriage return (CRLF)\ncure: take the carriage returns out, as `tr -d '\\r'` does\n"
slip_words Joined = codes "audit no\nwhy 1: `=== output` stands behind other words in its line: the plan's last line has no line feed\ncure: end the plan with a line feed\n"
slip_words NoCut = codes "audit no\nwhy 1: no line is `=== output`\ncure: put that line between the plan and what was printed of it\n"
slip_words NoOutput = codes "audit no\nwhy 1: nothing stands behind `=== output`: the run printed nothing\ncure: see with `explain` whether the plan is refused, and run it again\n"
slip_words Refused = codes "audit no\nwhy 1: a line behind `=== output` is what a refused run says: the plan breaks a rule, or is no TOML\ncure: see with `explain` of the plan why it is refused, and run it again\n"
slip_words NoJournal = codes "audit no\nwhy 1: no line behind `=== output` is `journal`: `run` and `ports` print the report alone\ncure: print it by `run journal` or `ports journal`\n"

-- The lines of a port's margins, each by what it tells. A line ends with a line feed.
use Rattle.std.specs.Prelude.{ℕ, ◌-◌, Bool, List, [], ◌∷◌, ◌++◌, codes}
use Rattle.std.specs.Fmt.{decimal}
use Rattle.srp_base.specs.{Hexadecimal.hex16_text, Text.whole_of}
use Rattle.stream_importance.specs.declared.entry.Want.{Want}
use Rattle.report_words.specs.Words.{class_name, yes_or_no}
use Rattle.port_margins.specs.declared.cbs.Cbs.{Cbs}

-- how the line of some classes at a port begins: `margin P A`, `cbs P A`
abbrev pub line_start : List ℕ → List ℕ → List ℕ → List ℕ
line_start word port classes = whole_of (word ∷ port ∷ codes " " ∷ classes ∷ [])

-- ` booked S cap C left L`, in bit/s
abbrev pub margin_end : ℕ → ℕ → List ℕ
margin_end booked cap = whole_of (
    codes " booked " ∷ decimal booked ∷ codes " cap " ∷ decimal cap ∷ codes " left " ∷ decimal (cap - booked)
    ∷ codes "\n" ∷ [])

-- `margin P A booked S cap C left L`
abbrev pub margin_line : List ℕ → List ℕ → ℕ → ℕ → List ℕ
margin_line port classes booked cap =
    line_start (codes "margin ") port classes ++ margin_end booked cap

-- by how much a slope passes what more important bookings leave of a cap
abbrev pub shortfall : ℕ → ℕ → ℕ → ℕ
shortfall slope more cap = slope - (cap - more)

-- which stream a port refuses, with its name behind its StreamID: `refused P ID NAME C slope S`
abbrev pub refused_start : List ℕ → List ℕ → Want → List ℕ
refused_start port name want = whole_of (
    codes "refused " ∷ port ∷ codes " " ∷ hex16_text want.stream.0 ∷ codes " " ∷ name ∷ codes " " ∷ class_name want.class
    ∷ codes " slope " ∷ decimal want.slope ∷ [])

-- why: ` more M cap C short N code K listeners yes`
abbrev pub refused_end : ℕ → ℕ → ℕ → ℕ → Bool → List ℕ
refused_end slope more cap code heard = whole_of (
    codes " more " ∷ decimal more ∷ codes " cap " ∷ decimal cap ∷ codes " short " ∷ decimal (shortfall slope more cap)
    ∷ codes " code " ∷ decimal code ∷ codes " listeners " ∷ yes_or_no heard ∷ codes "\n" ∷ [])

-- both
abbrev pub refused_line : List ℕ → List ℕ → Want → ℕ → ℕ → ℕ → Bool → List ℕ
refused_line port name want more cap code heard =
    refused_start port name want ++ refused_end want.slope more cap code heard

-- what a port has booked and refuses together, beside the caps: `short at P A S of C A+B S of C`
abbrev pub short_line : List ℕ → ℕ → ℕ → ℕ → ℕ → List ℕ
short_line port class_a cap_a both cap_both = whole_of (
    codes "short at " ∷ port ∷ codes " A " ∷ decimal class_a ∷ codes " of " ∷ decimal cap_a
    ∷ codes " A+B " ∷ decimal both ∷ codes " of " ∷ decimal cap_both ∷ codes "\n" ∷ [])

-- the slopes of a class's shaper, in the words of tc-cbs(8), up to its credits:
-- ` idleslope I sendslope -S hicredit `
abbrev pub cbs_slopes : Cbs → List ℕ
cbs_slopes cbs = whole_of (
    codes " idleslope " ∷ decimal cbs.idle_slope ∷ codes " sendslope -" ∷ decimal cbs.send_slope ∷ codes " hicredit " ∷ [])

-- these: `H locredit -L`
abbrev pub cbs_credits : Cbs → List ℕ
cbs_credits cbs = whole_of (
    decimal cbs.hi_credit ∷ codes " locredit -" ∷ decimal cbs.lo_credit ∷ codes "\n" ∷ [])

-- both
abbrev pub cbs_end : Cbs → List ℕ
cbs_end cbs = cbs_slopes cbs ++ cbs_credits cbs

-- `cbs P A idleslope I sendslope -S hicredit H locredit -L`
abbrev pub cbs_line : List ℕ → List ℕ → Cbs → List ℕ
cbs_line port class cbs = line_start (codes "cbs ") port class ++ cbs_end cbs

-- how long class B waits at a port: `wait P B bits W us U`
abbrev pub wait_line : List ℕ → ℕ → ℕ → List ℕ
wait_line port bits micros =
    line_start (codes "wait ") port (codes "B")
    ++ whole_of (codes " bits " ∷ decimal bits ∷ codes " us " ∷ decimal micros ∷ codes "\n" ∷ [])

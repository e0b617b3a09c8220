-- What is printed of wishes: how many there are, and what came of each.
use Rattle.std.specs.Prelude.{ℕ, Bool, not, List, [], ◌∷◌, codes, length, flat_map, count_by, Option, Some, None, option_map, slice_get}
use Rattle.std.specs.{Option.option_map_or, Fmt.decimal}
use Rattle.srp_base.specs.Text.{whole_of}
use Rattle.topology_file.specs.declared.entries.StreamEntry.{StreamEntry}
use Rattle.topology_file.specs.Plan.{Plan}
use Rattle.scenario_delays.specs.declared.facts.DelayFacts.{DelayFacts}
use Rattle.report_words.specs.{Names.name_of, Names.port_name, Words.yes_or_no}
use Rattle.wishes.specs.declared.wish.{Answer.Answer, Wish.Wish}
use Rattle.wishes.specs.declared.wish.Answer.TheVariants.{Granted, Refused, Silent}
use Rattle.wishes.specs.{Wishes.grants, Wishes.is_silent, Wishes.refuses, Within.within_of}

-- ---- the lines

-- `wishes W granted G refused R silent S`
abbrev pub wishes_line : ℕ → ℕ → ℕ → ℕ → List ℕ
wishes_line all granted refused silent = whole_of (
    codes "wishes " ∷ decimal all ∷ codes " granted " ∷ decimal granted ∷ codes " refused " ∷ decimal refused
    ∷ codes " silent " ∷ decimal silent ∷ codes "\n" ∷ [])

-- whose wish it is: `NAME STATION`
abbrev pub wish_words : List ℕ → List ℕ → List ℕ
wish_words stream station = whole_of (stream ∷ codes " " ∷ station ∷ [])

-- ` at P`, where a port is known
abbrev pub at_words : Option (List ℕ) → List ℕ
at_words None = []
at_words (Some port) = whole_of (codes " at " ∷ port ∷ [])

-- ` code K`
abbrev pub code_words : ℕ → List ℕ
code_words code = whole_of (codes " code " ∷ decimal code ∷ [])

-- ` short N` in bit/s, where bandwidth is missing
abbrev pub short_words : Option ℕ → List ℕ
short_words None = []
short_words (Some bits) = whole_of (codes " short " ∷ decimal bits ∷ [])

-- `refused NAME STATION at P code K short N`
abbrev pub refused_line : List ℕ → Option (List ℕ) → ℕ → Option ℕ → List ℕ
refused_line wish at code short = whole_of (
    codes "refused " ∷ wish ∷ at_words at ∷ code_words code ∷ short_words short ∷ codes "\n" ∷ [])

-- `silent NAME STATION`
abbrev pub silent_line : List ℕ → List ℕ
silent_line wish = whole_of (codes "silent " ∷ wish ∷ codes "\n" ∷ [])

-- ` within T` in ns, where the delay of the stream's frames to the station has a bound
abbrev pub within_words : Option ℕ → List ℕ
within_words None = []
within_words (Some ns) = whole_of (codes " within " ∷ decimal ns ∷ [])

-- ` ports N vlan yes within T`
abbrev pub granted_end : ℕ → Bool → Option ℕ → List ℕ
granted_end ports vlan within = whole_of (
    codes " ports " ∷ decimal ports ∷ codes " vlan " ∷ yes_or_no vlan ∷ within_words within ∷ codes "\n" ∷ [])

-- `granted NAME STATION ports N vlan yes within T`
abbrev pub granted_line : List ℕ → ℕ → Bool → Option ℕ → List ℕ
granted_line wish ports vlan within = whole_of (codes "granted " ∷ wish ∷ granted_end ports vlan within ∷ [])

-- ---- the wishes

-- the name of the stream at a place of the file; empty where there is none
abbrev pub stream_name : List StreamEntry → ℕ → List ℕ
stream_name streams place = option_map_or (λ (e : StreamEntry). e.name) (slice_get streams place) []

-- whose wish it is, by its names in the file
abbrev pub named_wish : Plan → Wish → List ℕ
named_wish plan wish = wish_words (stream_name plan.streams wish.stream) (name_of plan.nodes wish.station)

-- the line of a wish with this answer, where it is refused
abbrev pub refused_by : Plan → Wish → Answer → List ℕ
refused_by plan wish (Granted ports vlan) = []
refused_by plan wish (Refused at code short) =
    refused_line (named_wish plan wish) (option_map (port_name plan.nodes plan.tree.links) at) code short
refused_by plan wish Silent = []

-- where nothing came of it
abbrev pub silent_by : Plan → Wish → Answer → List ℕ
silent_by plan wish (Granted ports vlan) = []
silent_by plan wish (Refused at code short) = []
silent_by plan wish Silent = silent_line (named_wish plan wish)

-- where it is granted
abbrev pub granted_by : Plan → DelayFacts → Wish → Answer → List ℕ
granted_by plan facts wish (Granted ports vlan) =
    granted_line (named_wish plan wish) ports vlan (within_of plan facts wish)
granted_by plan facts wish (Refused at code short) = []
granted_by plan facts wish Silent = []

-- the lines of some wishes that are refused
abbrev pub refused_lines : Plan → List Wish → List ℕ
refused_lines plan wishes = flat_map (λ (wish : Wish). refused_by plan wish wish.answer) wishes

-- of those of which nothing came
abbrev pub silent_lines : Plan → List Wish → List ℕ
silent_lines plan wishes = flat_map (λ (wish : Wish). silent_by plan wish wish.answer) wishes

-- of those that are granted
abbrev pub granted_lines : Plan → DelayFacts → List Wish → List ℕ
granted_lines plan facts wishes = flat_map (λ (wish : Wish). granted_by plan facts wish wish.answer) wishes

-- how many of some wishes have an answer that passes a test
abbrev pub count_that : (Answer → Bool) → List Wish → ℕ
count_that test wishes = count_by (λ (wish : Wish). test wish.answer) wishes

-- how many there are, and how many of each kind
abbrev pub counts_of : List Wish → List ℕ
counts_of wishes =
    wishes_line (length wishes) (count_that grants wishes) (count_that refuses wishes) (count_that is_silent wishes)

-- the lines of some wishes, by what is known of the run's delays: how many there are, those that are
-- refused, those of which nothing came, and those that are granted
abbrev pub lines_of : Plan → DelayFacts → List Wish → List ℕ
lines_of plan facts wishes = whole_of (
    counts_of wishes ∷ refused_lines plan wishes ∷ silent_lines plan wishes ∷ granted_lines plan facts wishes ∷ [])

-- how many of some wishes aren't granted
abbrev pub ungranted_in : List Wish → ℕ
ungranted_in wishes = count_that (λ answer. not (grants answer)) wishes

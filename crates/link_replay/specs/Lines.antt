-- The lines of what goes over a link, one fact each. A line ends with a line feed.
use Rattle.std.specs.Prelude.{Bool, if◌then◌else◌, List, [], ◌∷◌, codes, ℕ}
use Rattle.srp_base.specs.{Text.whole_of, declared.numbers.Cs.Cs, declared.mrp.MrpEvent.MrpEvent}
use Rattle.srp_base.specs.declared.mrp.MrpEvent.TheVariants.{New, JoinIn, OnlyIn, JoinMt, OnlyMt, Lv}
use Rattle.link_replay.specs.declared.lines.End.{End}
use Rattle.link_replay.specs.declared.lines.End.TheVariants.{A, B}
use Rattle.link_replay.specs.Moments.{moment_text}

-- the other end of the link
abbrev pub other_end : End → End
other_end A = B
other_end B = A

-- an end by its name
abbrev pub end_name : End → List ℕ
end_name A = codes "a"
end_name B = codes "b"

-- an attribute event by its name
abbrev pub event_name : MrpEvent → List ℕ
event_name New = codes "new"
event_name JoinIn = codes "joinin"
event_name OnlyIn = codes "in"
event_name JoinMt = codes "joinmt"
event_name OnlyMt = codes "mt"
event_name Lv = codes "lv"

-- `T a>b KEY`: what the end a declares, as it stands at b
abbrev pub way_front : Cs → End → List ℕ → List ℕ
way_front at speaker key = whole_of (
    moment_text at ∷ codes " " ∷ end_name speaker ∷ codes ">" ∷ end_name (other_end speaker) ∷ codes " " ∷ key ∷ [])

-- `T a`: what the end a does
abbrev pub end_front : Cs → End → List ℕ
end_front at who = whole_of (moment_text at ∷ codes " " ∷ end_name who ∷ codes " " ∷ [])

-- `T a>b KEY IN CONTENT`: the attribute stands
abbrev pub stands_line : Cs → End → List ℕ → List ℕ → List ℕ
stands_line at speaker key content = whole_of (way_front at speaker key ∷ codes " IN" ∷ content ∷ codes "\n" ∷ [])

-- `T a>b KEY LV until U`: its leave timer runs until U
abbrev pub leaves_line : Cs → End → List ℕ → Cs → List ℕ
leaves_line at speaker key until = whole_of (way_front at speaker key ∷ codes " LV until " ∷ moment_text until ∷ codes "\n" ∷ [])

-- `T a>b KEY MT`: it stands no more
abbrev pub gone_line : Cs → End → List ℕ → List ℕ
gone_line at speaker key = whole_of (way_front at speaker key ∷ codes " MT\n" ∷ [])

-- `T a owes KEY until U`: after a LeaveAll the end a has to say the attribute anew until U
abbrev pub owes_line : Cs → End → List ℕ → Cs → List ℕ
owes_line at who key until = whole_of (
    end_front at who ∷ codes "owes " ∷ key ∷ codes " until " ∷ moment_text until ∷ codes "\n" ∷ [])

-- `T a let KEY go`: it hasn't, and hasn't said Lv either
abbrev pub let_go_line : Cs → End → List ℕ → List ℕ
let_go_line at who key = whole_of (end_front at who ∷ codes "let " ∷ key ∷ codes " go\n" ∷ [])

-- what the observer holds
abbrev pub word_end : Bool → List ℕ
word_end held = if held then codes ", it stands\n" else codes ", none stands\n"

-- `T b says joinmt KEY, it stands` or `T b says joinin KEY, none stands`: what the end b says of
-- its registrar isn't what its observer holds
abbrev pub word_line : Cs → End → MrpEvent → List ℕ → Bool → List ℕ
word_line at who event key held = whole_of (
    end_front at who ∷ codes "says " ∷ event_name event ∷ codes " " ∷ key ∷ word_end held ∷ [])

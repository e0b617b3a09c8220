-- The Registrar's table, after IEEE Std 802.1Q-2018, 10.7.8 (Table 10-4).
use Rattle.std.specs.Prelude.{Bool, true, false}
use Rattle.registrar.specs.declared.{Registrar.Registrar, RegEvent.RegEvent, Tell.Tell}
use Rattle.registrar.specs.declared.Registrar.TheVariants.{Held, Leaving, Empty}
use Rattle.registrar.specs.declared.RegEvent.TheVariants.{RxNew, RxJoin, RxLv, RxLeaveAll, TxLeaveAll, LeaveTimer}
use Rattle.registrar.specs.declared.Tell.TheVariants.{Nothing, Joined, Left}

-- what stands in a cell: from the state of its column to the new state and what the user is told
abbrev pub Cell : Type 0
Cell = Registrar → Registrar × Tell

-- a blank cell: no change, and nothing told
abbrev pub nothing : Cell
nothing state = (state, Nothing)

-- a new state, with nothing told
abbrev pub to : Registrar → Cell
to next _ = (next, Nothing)

-- a new state, with what the user is told
abbrev pub tell : Registrar → Tell → Cell
tell next tell_of _ = (next, tell_of)

-- the cells of one event, in the order of the states IN, LV, MT
abbrev pub row : (held leaving empty : Cell) → Cell
row held leaving empty Held = held Held
row held leaving empty Leaving = leaving Leaving
row held leaving empty Empty = empty Empty

-- the table, whose columns are the states
abbrev pub table : RegEvent → Cell
-- IN, LV, MT
table RxNew =
    row (to Held) (to Held) (tell Held Joined)
table RxJoin =
    row (to Held) (to Held) (tell Held Joined)
table RxLv =
    row (to Leaving) nothing nothing
table RxLeaveAll =
    row (to Leaving) nothing nothing
table TxLeaveAll =
    row (to Leaving) nothing nothing
table LeaveTimer =
    row nothing (tell Empty Left) nothing

-- the state after an event
abbrev pub next : RegEvent → Registrar → Registrar
next event state = (table event state).0

-- what the user is told at an event
abbrev pub tell_of : RegEvent → Registrar → Tell
tell_of event state = (table event state).1

-- whether an event starts the leave timer: where it takes IN to LV
abbrev pub starts_leave_timer : RegEvent → Registrar → Bool
starts_leave_timer RxLv Held = true
starts_leave_timer RxLeaveAll Held = true
starts_leave_timer TxLeaveAll Held = true
starts_leave_timer _ _ = false

-- whether the attribute is registered: IN or LV
abbrev pub is_registered_in : Registrar → Bool
is_registered_in Held = true
is_registered_in Leaving = true
is_registered_in Empty = false

-- whether a registrar is IN
abbrev pub is_in : Registrar → Bool
is_in Held = true
is_in Leaving = false
is_in Empty = false

-- whether a registrar is LV
abbrev pub is_leaving : Registrar → Bool
is_leaving Held = false
is_leaving Leaving = true
is_leaving Empty = false

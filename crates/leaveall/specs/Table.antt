-- The LeaveAll machine's table, after IEEE Std 802.1Q-2018, 10.7.9 (Table 10-5), and the moments of
-- the periodic machine, after 10.7.10 (Table 10-6).
use Rattle.std.specs.Prelude.{ℕ, ◌+◌, ◌*◌, ◌/◌, Bool, true, false, ◌&&◌, nat_le}
use Rattle.leaveall.specs.declared.{LeaveAll.LeaveAll, LeaveAll.TheVariants.Active, LeaveAll.TheVariants.Passive, Periodic.Periodic, LaEvent.LaEvent}
use Rattle.leaveall.specs.declared.LaEvent.TheVariants.{Timer, Rx, Tx}

-- the table: the timer of LeaveAll makes the machine Active, what is sent or received makes it
-- Passive
abbrev pub table : LaEvent → LeaveAll → LeaveAll
table Timer _ = Active
table Rx _ = Passive
table Tx _ = Passive

-- whether the timer of LeaveAll starts anew: at its own end and at a received LeaveAll
abbrev pub restarts : LaEvent → Bool
restarts Timer = true
restarts Rx = true
restarts Tx = false

-- whether the periodic machine is on and its next moment is at or before `now`
abbrev pub is_due : ℕ → Periodic → Bool
is_due now p = p.on && nat_le p.next.0 now

-- the first moment above `now` that is divisible by 100, in centiseconds
abbrev pub hundred_after : ℕ → ℕ
hundred_after now = (now / 100 + 1) * 100

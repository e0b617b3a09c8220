-- What happens to the row of one key, by each call of a participant: the machines of the key, and
-- the contents and the leave moment that stand beside them (IEEE Std 802.1Q-2018, 10.7).
use Rattle.std.specs.Prelude.{ℕ, Bool, true, false, ◌&&◌, ◌||◌, not, if◌then◌else◌, nat_le, List, fold, option_map}
use Rattle.std.specs.{declared.cmp.Ordering.Ordering, declared.option.Option.Option, declared.option.Option.TheVariants.None, declared.option.Option.TheVariants.Some}
use Rattle.srp_base.specs.declared.{numbers.Cs.Cs, mrp.MrpEvent.MrpEvent}
use Rattle.srp_base.specs.declared.mrp.MrpEvent.TheVariants.{New, JoinIn, OnlyIn, JoinMt, OnlyMt, Lv}
use Rattle.applicant.specs.declared.{Applicant.Applicant, Applicant.TheVariants.Vo, AppEvent.AppEvent}
use Rattle.applicant.specs.declared.AppEvent.TheVariants.{RxIn, RxMt, RxLv as AppRxLv, RxLeaveAll as AppRxLeaveAll, Periodic}
use Rattle.applicant.specs.Table as applicant
use Rattle.registrar.specs.declared.{Registrar.Registrar, Registrar.TheVariants.Empty, RegEvent.RegEvent}
use Rattle.registrar.specs.declared.RegEvent.TheVariants.{RxNew, RxJoin, RxLv, RxLeaveAll, LeaveTimer}
use Rattle.registrar.specs.Table as registrar
use Rattle.registrar.specs.Table.{is_in, is_leaving}
use Rattle.applicant.specs.Table.{is_observer, is_quiet}
use Rattle.mrp_participant.specs.declared.row.Row.{Row}
use Rattle.mrp_participant.specs.Lookup.{same}

-- whether anything is kept of a key: its applicant isn't VO, or its registrar isn't MT
abbrev pub is_live : {K C : Type 0} → Row K C → Bool
is_live r = not (is_observer r.applicant) || registrar.is_registered_in r.registrar

-- the row, or none where nothing is kept of the key
abbrev pub kept_row : {K C : Type 0} → Row K C → Option (Row K C)
kept_row r = if is_live r then Some r else None

-- a row with a new applicant
abbrev pub with_applicant : {K C : Type 0} → Applicant → Row K C → Row K C
with_applicant a r = record r { applicant = a }

-- the applicant of a row takes an event
abbrev pub applicant_takes : {K C : Type 0} → AppEvent → Row K C → Row K C
applicant_takes event r = with_applicant (applicant.next event (is_in r.registrar) r.applicant) r

-- the registrar of a row takes an event; where that starts the leave timer, it ends at the moment
-- `leave`
abbrev pub registrar_takes : {K C : Type 0} → RegEvent → Cs → Row K C → Row K C
registrar_takes event leave r =
    record r {
      registrar = registrar.next event r.registrar;
      leave = if registrar.starts_leave_timer event r.registrar then leave else r.leave;
    }

-- a row of a key of which nothing was kept; what is not stated and not heard stands for nothing
abbrev pub fresh_row : {K C : Type 0} → K → C → Row K C
fresh_row k c = record { key = k; applicant = Vo; content = c; registrar = Empty; heard = c; leave = record { 0 = 0 } }

-- the user declares a content: the same again changes nothing, another is declared anew
abbrev pub declared_row : {K C : Type 0} → (C → C → Bool) → C → Row K C → Row K C
declared_row eq c r =
    if applicant.is_declared_in r.applicant
    then (if eq r.content c then r else record r { applicant = applicant.redeclare_of r.applicant; content = c })
    else record r { applicant = applicant.declare_of r.applicant; content = c }

-- the row of a key after its declaration
abbrev pub after_declare : {K C : Type 0} → (C → C → Bool) → K → C → Option (Row K C) → Option (Row K C)
after_declare eq k c None = Some (declared_row eq c (fresh_row k c))
after_declare eq k c (Some r) = Some (declared_row eq c r)

-- the row of a key after its withdrawal
abbrev pub after_withdraw : {K C : Type 0} → Option (Row K C) → Option (Row K C)
after_withdraw None = None
after_withdraw (Some r) = Some (with_applicant (applicant.withdraw_of r.applicant) r)

-- the row after its leave timer has fired: LV becomes MT
abbrev pub left_row : {K C : Type 0} → Row K C → Option (Row K C)
left_row r = kept_row (record r { registrar = registrar.next LeaveTimer r.registrar })

-- the row of a key after its leave timer has fired
abbrev pub after_leave : {K C : Type 0} → Option (Row K C) → Option (Row K C)
after_leave None = None
after_leave (Some r) = left_row r

-- whether the registrar of a key is LV
abbrev pub is_leaving_in : {K C : Type 0} → Option (Row K C) → Bool
is_leaving_in None = false
is_leaving_in (Some r) = is_leaving r.registrar

-- a LeaveAll was received: RxLeaveAll goes to both machines
abbrev pub leave_all_row : {K C : Type 0} → Cs → Row K C → Row K C
leave_all_row leave r = applicant_takes AppRxLeaveAll (registrar_takes RxLeaveAll leave r)

-- the row with what the neighbour has declared
abbrev pub with_heard : {K C : Type 0} → C → Row K C → Row K C
with_heard c r = record r { heard = c }

-- an attribute event was received; New and the two Joins store the content
abbrev pub heard_row : {K C : Type 0} → MrpEvent → C → Cs → Row K C → Row K C
heard_row New c leave r = with_heard c (registrar_takes RxNew leave r)
heard_row JoinIn c leave r = applicant_takes RxIn (with_heard c (registrar_takes RxJoin leave r))
heard_row OnlyIn c leave r = applicant_takes RxIn r
heard_row JoinMt c leave r = applicant_takes RxMt (with_heard c (registrar_takes RxJoin leave r))
heard_row OnlyMt c leave r = applicant_takes RxMt r
heard_row Lv c leave r = applicant_takes AppRxLv (registrar_takes RxLv leave r)

-- whether an event makes a row where there is none: New and the two Joins do
abbrev pub makes_row : MrpEvent → Bool
makes_row New = true
makes_row JoinIn = true
makes_row OnlyIn = false
makes_row JoinMt = true
makes_row OnlyMt = false
makes_row Lv = false

-- the row of a key after an attribute event of it
abbrev pub after_hear : {K C : Type 0} → MrpEvent → K → C → Cs → Option (Row K C) → Option (Row K C)
after_hear event k c leave None = if makes_row event then Some (heard_row event c leave (fresh_row k c)) else None
after_hear event k c leave (Some r) = Some (heard_row event c leave r)

-- the row of a key after one received event, of this key or of another
abbrev pub row_hearing : {K C : Type 0} → (K → K → Ordering) → Cs → K → Option (Row K C) → MrpEvent × K × C → Option (Row K C)
row_hearing cmp leave k r e = if same cmp e.1 k then after_hear e.0 e.1 e.2 leave r else r

-- the row of a key after what was received: LeaveAll first, then the events of this key in order
abbrev pub row_after_receive : {K C : Type 0} → (K → K → Ordering) → Cs → Bool → List (MrpEvent × K × C) → K → Option (Row K C) → Option (Row K C)
row_after_receive cmp leave leave_all events k r =
    fold (row_hearing cmp leave k) (if leave_all then option_map (leave_all_row leave) r else r) events

-- what is registered of a key: the content that was heard last, in IN and LV
abbrev pub registered_in : {K C : Type 0} → Option (Row K C) → Option C
registered_in None = None
registered_in (Some r) = if registrar.is_registered_in r.registrar then Some r.heard else None

-- what is declared of a key: the content that was declared last, in each state but VO and LA
abbrev pub declared_in : {K C : Type 0} → Option (Row K C) → Option C
declared_in None = None
declared_in (Some r) = if applicant.is_declared_in r.applicant then Some r.content else None

-- the state of a key's applicant: VO where nothing is kept
abbrev pub applicant_of : {K C : Type 0} → Option (Row K C) → Applicant
applicant_of None = Vo
applicant_of (Some r) = r.applicant

-- the state of a key's registrar: MT where nothing is kept
abbrev pub registrar_of : {K C : Type 0} → Option (Row K C) → Registrar
registrar_of None = Empty
registrar_of (Some r) = r.registrar

-- whether the row's leave timer has its end at or before a moment
abbrev pub leave_is_due : {K C : Type 0} → ℕ → Row K C → Bool
leave_is_due now r = is_leaving r.registrar && nat_le r.leave.0 now

-- the row once the leave timers that are due have fired
abbrev pub after_leave_due : {K C : Type 0} → ℕ → Row K C → Option (Row K C)
after_leave_due now r = if leave_is_due now r then left_row r else Some r

-- the periodic event
abbrev pub periodic_row : {K C : Type 0} → Row K C → Row K C
periodic_row r = applicant_takes Periodic r

-- whether a row's machines are at rest: the applicant is VO or QA, the registrar IN or MT
abbrev pub is_settled : {K C : Type 0} → Row K C → Bool
is_settled r = is_quiet r.applicant && not (is_leaving r.registrar)

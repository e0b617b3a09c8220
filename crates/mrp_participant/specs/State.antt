-- A participant as contracts see it, and the participant after each call (IEEE Std 802.1Q-2018,
-- 10.7).
use Rattle.std.specs.Prelude.{◌≡◌, ℕ, ◌+◌, ◌≤◌, Bool, true, false, ◌&&◌, ◌||◌, not, if◌then◌else◌, nat_le, List, [], map, filter, length, fold}
use Rattle.std.specs.{declared.option.Option.Option, declared.option.Option.TheVariants.Some, declared.cmp.Ordering.Ordering, List.filter_map, List.list_any, List.list_all, List.AllByRecursion, Option.option_eq}
use Rattle.srp_base.specs.declared.{numbers.Cs.Cs, mrp.MrpEvent.MrpEvent}
use Rattle.leaveall.specs.declared.{LeaveAll.LeaveAll, LeaveAll.TheVariants.Active, LeaveAll.TheVariants.Passive, LaEvent.LaEvent, Periodic.Periodic}
use Rattle.leaveall.specs.declared.LaEvent.TheVariants.{Timer, Rx, Tx}
use Rattle.leaveall.specs.Table as leaveall
use Rattle.mrp_participant.specs.declared.row.Row.{Row}
use Rattle.mrp_participant.specs.{Lookup.Ascends, Lookup.key_of, Lookup.find, Lookup.put, Row.is_live, Row.after_declare, Row.after_withdraw, Row.after_leave, Row.after_hear, Row.leave_all_row, Row.declared_in, Row.registered_in, Row.leave_is_due, Row.after_leave_due, Row.periodic_row, Row.is_settled, Sending.is_taken, Sending.is_tried, Sending.sent_row, Sending.sent_event}

-- the rows ascending by key, the LeaveAll machine with the moment of its timer and its period, the
-- time of a leave timer, the periodic machine, and the mark of soundness
pub record State (K C : Type 0) : Type 0 where
  pub rows : List (Row K C)
  pub leave_all : LeaveAll
  pub next_leave_all : Cs
  pub period : Cs
  pub leave_time : Cs
  pub periodic : Periodic
  pub sound : Bool

-- what a participant holds, as contracts see it: its state; its spare, so many rows more find room
-- without memory being taken; and whether it is ready, so that its timers fire without memory being
-- taken. What a participant does is said of its state alone.
pub record Holding (K C : Type 0) : Type 0 where
  pub state : State K C
  pub spare : ℕ
  pub ready : Bool

-- a list of messages of an application: whether it has LeaveAll, and the attribute events with
-- their keys and contents, in order (10.8)
pub record Messages (K C : Type 0) : Type 0 where
  pub leave_all : Bool
  pub events : List (MrpEvent × K × C)

-- a time after a moment
abbrev pub after : Cs → Cs → Cs
after now time = record { 0 = now.0 + time.0 }

-- the rows of a participant ascend strictly by key, and each keeps something
abbrev pub AreRows : {K C : Type 0} → (K → K → Ordering) → List (Row K C) → Type 0
AreRows cmp rows = Ascends cmp key_of rows × AllByRecursion (λ r. is_live r ≡ true) rows

-- a time that a participant may be given, in cs
abbrev pub IsTime : Cs → Type 0
IsTime t = (1 ≤ t.0) × (t.0 ≤ 10000)

-- whether a LeaveAll machine is Active
abbrev pub is_active : LeaveAll → Bool
is_active Active = true
is_active Passive = false

-- the periodic machine after it has fired
abbrev pub after_firing : Cs → Periodic → Periodic
after_firing now p = record p { next = record { 0 = leaveall.hundred_after now.0 } }

module _ {K C : Type 0} where
  -- the same participant with other rows
  abbrev pub with_rows : List (Row K C) → State K C → State K C
  with_rows rows s = record s { rows = rows }

  -- a new participant
  abbrev pub new_state : Cs → Cs → Bool → State K C
  new_state period leave_time periodic =
      record {
        rows = [];
        leave_all = Passive;
        next_leave_all = period;
        period = period;
        leave_time = leave_time;
        periodic = record { on = periodic; next = record { 0 = 100 } };
        sound = true;
      }

  -- after a declaration of a key
  abbrev pub declared_state : (K → K → Ordering) → (C → C → Bool) → K → C → State K C → State K C
  declared_state cmp eq k c s = with_rows (put cmp k (after_declare eq k c (find cmp k s.rows)) s.rows) s

  -- after a withdrawal of a key
  abbrev pub withdrawn_state : (K → K → Ordering) → K → State K C → State K C
  withdrawn_state cmp k s = with_rows (put cmp k (after_withdraw (find cmp k s.rows)) s.rows) s

  -- after the end of a key's leave timer
  abbrev pub left_state : (K → K → Ordering) → K → State K C → State K C
  left_state cmp k s = with_rows (put cmp k (after_leave (find cmp k s.rows)) s.rows) s

  -- the content that is declared of a key
  abbrev pub declared_at : (K → K → Ordering) → K → State K C → Option C
  declared_at cmp k s = declared_in (find cmp k s.rows)

  -- the content that is registered of a key
  abbrev pub registered_at : (K → K → Ordering) → K → State K C → Option C
  registered_at cmp k s = registered_in (find cmp k s.rows)

  -- the rows after one received event
  abbrev pub rows_hearing : (K → K → Ordering) → Cs → List (Row K C) → MrpEvent × K × C → List (Row K C)
  rows_hearing cmp leave rows e = put cmp e.1 (after_hear e.0 e.1 e.2 leave (find cmp e.1 rows)) rows

  -- the rows after what was received: LeaveAll first, then the events in order
  abbrev pub rows_after_receive : (K → K → Ordering) → Cs → Bool → List (MrpEvent × K × C) → List (Row K C) → List (Row K C)
  rows_after_receive cmp leave leave_all events rows =
      fold (rows_hearing cmp leave) (if leave_all then map (leave_all_row leave) rows else rows) events

  -- the moment of the LeaveAll timer after an event of its machine
  abbrev pub timer_after : LaEvent → Cs → State K C → Cs
  timer_after event now s = if leaveall.restarts event then after now s.period else s.next_leave_all

  -- after a PDU was received: with LeaveAll the LeaveAll machine gets Rx, and its timer restarts
  abbrev pub received_state : (K → K → Ordering) → Cs → Bool → List (MrpEvent × K × C) → State K C → State K C
  received_state cmp now leave_all events s =
      record s {
        rows = rows_after_receive cmp (after now s.leave_time) leave_all events s.rows;
        leave_all = if leave_all then leaveall.table Rx s.leave_all else s.leave_all;
        next_leave_all = if leave_all then timer_after Rx now s else s.next_leave_all;
      }

  -- the keys whose registration or registered content differs between two lists of rows, ascending;
  -- a received PDU takes no row away, so all of them have a row afterwards
  abbrev pub changed_keys : (K → K → Ordering) → (C → C → Bool) → List (Row K C) → List (Row K C) → List K
  changed_keys cmp eq old new =
      map key_of (filter (λ r. not (option_eq eq (registered_in (find cmp r.key old)) (registered_in (Some r)))) new)

  -- after the leave timers that are due have fired
  abbrev pub leave_timers_state : Cs → State K C → State K C
  leave_timers_state now s = with_rows (filter_map (after_leave_due now.0) s.rows) s

  -- the keys whose leave timers are due, ascending
  abbrev pub left_keys : Cs → State K C → List K
  left_keys now s = map key_of (filter (leave_is_due now.0) s.rows)

  -- whether the timer of LeaveAll has its end at or before a moment
  abbrev pub is_leave_all_due : Cs → State K C → Bool
  is_leave_all_due now s = nat_le s.next_leave_all.0 now.0

  -- after the timer of LeaveAll has fired
  abbrev pub leave_all_state : Cs → State K C → State K C
  leave_all_state now s = record s { leave_all = leaveall.table Timer s.leave_all; next_leave_all = timer_after Timer now s }

  -- whether the periodic machine is on and due
  abbrev pub is_periodic_due : Cs → State K C → Bool
  is_periodic_due now s = leaveall.is_due now.0 s.periodic

  -- after the event periodic! at every row
  abbrev pub periodic_state : State K C → State K C
  periodic_state s = with_rows (map periodic_row s.rows) s

  -- after the periodic machine has fired
  abbrev pub periodic_fired_state : Cs → State K C → State K C
  periodic_fired_state now s = record s { rows = map periodic_row s.rows; periodic = after_firing now s.periodic }

  -- whether any timer's moment is at or before a moment
  abbrev pub is_any_due : Cs → State K C → Bool
  is_any_due now s = list_any (leave_is_due now.0) s.rows || (is_leave_all_due now s || is_periodic_due now s)

  -- after the timer of LeaveAll has fired, where it is due
  abbrev pub due_leave_all_state : Cs → State K C → State K C
  due_leave_all_state now s = if is_leave_all_due now s then leave_all_state now s else s

  -- after the periodic machine has fired, where it is due
  abbrev pub due_periodic_state : Cs → State K C → State K C
  due_periodic_state now s = if is_periodic_due now s then periodic_fired_state now s else s

  -- after all timers that are due have fired: the leave timers, then LeaveAll, then periodic
  abbrev pub due_state : Cs → State K C → State K C
  due_state now s = due_periodic_state now (due_leave_all_state now (leave_timers_state now s))

  -- how many timers are due
  abbrev pub due_count : Cs → State K C → ℕ
  due_count now s = length (left_keys now s) + ((if is_leave_all_due now s then 1 else 0) + (if is_periodic_due now s then 1 else 0))

  -- whether no row is VP, VN, AN, AA or LA
  abbrev pub none_tried : List (Row K C) → Bool
  none_tried rows = list_all (λ r. not (is_tried false r)) rows

  -- whether nothing is to be said: no row is tried, and LeaveAll is Passive
  abbrev pub is_silent : State K C → Bool
  is_silent s = not (is_active s.leave_all) && none_tried s.rows

  -- which rows are taken into the PDU
  abbrev pub takes : ℕ → (C → ℕ) → (K → K → Ordering) → State K C → Row K C → Bool
  takes base octets cmp s = is_taken base octets cmp (is_active s.leave_all) s.rows

  -- what a row says in the PDU
  abbrev pub event_sent : ℕ → (C → ℕ) → (K → K → Ordering) → Cs → State K C → Row K C → Option (MrpEvent × K × C)
  event_sent base octets cmp now s r =
      sent_event (is_active s.leave_all) (takes base octets cmp s r) (after now s.leave_time) r

  -- a row after sending
  abbrev pub row_sent : ℕ → (C → ℕ) → (K → K → Ordering) → Cs → State K C → Row K C → Option (Row K C)
  row_sent base octets cmp now s r =
      sent_row (is_active s.leave_all) (takes base octets cmp s r) (after now s.leave_time) r

  -- the events of the PDU, ascending by key
  abbrev pub sent_events : ℕ → (C → ℕ) → (K → K → Ordering) → Cs → State K C → List (MrpEvent × K × C)
  sent_events base octets cmp now s = filter_map (λ r. event_sent base octets cmp now s r) s.rows

  -- the list of messages that is sent, where something is to be said
  abbrev pub sent_messages : ℕ → (C → ℕ) → (K → K → Ordering) → Cs → State K C → Messages K C
  sent_messages base octets cmp now s = record { leave_all = is_active s.leave_all; events = sent_events base octets cmp now s }

  -- the rows after sending
  abbrev pub sent_rows : ℕ → (C → ℕ) → (K → K → Ordering) → Cs → State K C → List (Row K C)
  sent_rows base octets cmp now s = filter_map (λ r. row_sent base octets cmp now s r) s.rows

  -- after sending: the LeaveAll machine gets Tx, and a LeaveAll makes the participant sound
  abbrev pub sent_state : ℕ → (C → ℕ) → (K → K → Ordering) → Cs → State K C → State K C
  sent_state base octets cmp now s =
      record s {
        rows = sent_rows base octets cmp now s;
        leave_all = leaveall.table Tx s.leave_all;
        sound = is_active s.leave_all || s.sound;
      }

  -- whether every row's machines are at rest
  abbrev pub all_settled : List (Row K C) → Bool
  all_settled rows = list_all is_settled rows

  -- whether nothing is pending: every applicant is VO or QA, every registrar IN or MT, and LeaveAll
  -- is Passive
  abbrev pub is_still : State K C → Bool
  is_still s = not (is_active s.leave_all) && all_settled s.rows

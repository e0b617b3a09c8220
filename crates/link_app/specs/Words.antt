-- What an application at the link ports of a node is: what it shows, and its state after each call.
-- A place is that of a link port in the order of the ports, counted from 0. A moment is in cs.
use Rattle.std.specs.Prelude.{◌≡◌, ℕ, Bool, List, Option, Some, None, Result, Ok, Err}
use Rattle.srp_base.specs.declared.numbers.Cs.{Cs}
use Rattle.mrpdu_codec.specs.declared.error.DecodeErr.{DecodeErr}
use Rattle.mrpdu_codec.specs.declared.error.DecodeErr.TheVariants as errors
use Rattle.link_app.specs.Wires.{NamedOctets}

-- of applications that are told apart by a name, of their attributes' keys, and of what is asked
-- for
pub record AppWords (Name Key Request : Type 0) : Type 1 where
  -- what is kept of a side, and of the participant of an application at one link port
  pub State : Type 0
  pub Part : Name → Type 0
  -- ---- what it shows

  -- the number of link ports, and the participant of an application at a place
  pub ports_of : State → ℕ
  pub part_at : (n : Name) → ℕ → State → Option (Part n)
  -- whether nothing is pending at any port; whether at some port a timer is due at a moment or an
  -- attribute awaits; and whether every participant is sound
  pub is_still : State → Bool
  pub is_busy : Cs → State → Bool
  pub are_sound : State → Bool
  -- ---- the state after each call

  -- what octets of an application read as, the number of their events or the place where they are
  -- malformed; and the state after they came in at a place, which malformed ones leave as it was
  pub reading : Name → List ℕ → Result ℕ ℕ
  pub after_receipt : Name → Cs → ℕ → List ℕ → State → State
  -- how many timers are due at a place, and the state after they fired
  pub due_count : Cs → ℕ → State → ℕ
  pub after_due : Cs → ℕ → State → State
  -- how many attributes await settling at a place, and the state after they settled
  pub awaiting_count : ℕ → State → ℕ
  pub after_settling : ℕ → State → State
  -- whether the registrar of an attribute at a place is LV, and the state after its leave timer
  -- ended there
  pub is_leaving : Key → ℕ → State → Bool
  pub after_leave : Key → ℕ → State → State
  -- after the LeaveAll timer or the periodic timer of an application fired at a place
  pub after_leave_all : Name → Cs → ℕ → State → State
  pub after_periodic : Name → ℕ → State → State
  -- the octets that an application has to say at a place, if any, and the state after it said them;
  -- where there are none the state stays as it was
  pub octets_to_say : Name → Cs → ℕ → State → Option (List ℕ)
  pub after_sending : Name → Cs → ℕ → State → State
  -- after what the application of the station asked for
  pub after_request : Request → State → State
  -- after the soundness of an application's participant at a place ended
  pub after_spoiling : Name → ℕ → State → State
  -- after the clock went on to a moment
  pub after_clock : Cs → State → State
  -- ---- what is said of a state

  -- octets that a neighbour may send, and what may be asked for
  pub IsFit : Name → List ℕ → Type 0
  pub IsAskable : Request → Type 0
  -- the side's own moment is this one, and the clock may go on to this one
  pub IsAt : Cs → State → Type 0
  pub CanClock : Cs → State → Type 0
  -- the application of the station has asked for nothing
  pub IsIdle : State → Type 0
  -- a state of a side that was just made, and what every state keeps from then on
  pub IsNew : State → Type 0
  pub IsKept : State → Type 0
  -- the duties of the two participants of an application at the ends of a link, with the PDUs on
  -- their way from the first to the second, and from the second to the first
  pub AreDutiesMet :
      (n : Name) → Part n → Part n → List (NamedOctets Name) → List (NamedOctets Name) → Type 0

-- the state after an application said what it had to say, or, where it had nothing, as it was
abbrev pub after_saying : {State : Type 0} → Option (List ℕ) → State → State → State
after_saying None after before = before
after_saying (Some octets) after before = after

-- the state after octets came in, unless memory ran out
abbrev pub IsAfterReceipt : {A State : Type 0} → Result A DecodeErr → State → State → State → Type 0
IsAfterReceipt (Ok count) after before new = new ≡ after
IsAfterReceipt (Err (errors.Malformed place)) after before new = new ≡ after
IsAfterReceipt (Err errors.NoMemory) after before new = new ≡ before

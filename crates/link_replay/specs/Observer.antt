-- An observer of one end of a link: a participant that declares nothing, and that takes what the
-- end's own participant takes (IEEE Std 802.1Q-2018, 10.7). Registrars don't look at applicants, so
-- it holds what the end's registrars hold. The observer is this project's.
use Rattle.std.specs.Prelude.{true, false, if◌then◌else◌, List, [], fold}
use Rattle.std.specs.declared.cmp.Ordering.{Ordering}
use Rattle.srp_base.specs.declared.numbers.Cs.{Cs}
use Rattle.mrp_participant.specs.State.{State, Messages, new_state, left_state, received_state, due_state}

-- what is seen at an end
pub data Sight (K C : Type 0) : Type 0 where
  -- at a moment a list of messages comes from the other end
  Comes : Cs → Messages K C → Sight K C
  -- at a moment one goes out from this end
  Goes : Cs → Messages K C → Sight K C
  -- it is a moment, and all leave timers that are due have fired
  Passes : Cs → Sight K C
  -- the leave timer of a key has fired
  Ends : K → Sight K C

-- an observer that has seen nothing yet; it sends no LeaveAll, so its own period doesn't matter
abbrev pub new_observer : {K C : Type 0} → Cs → State K C
new_observer leave_time = new_state (record { 0 = 10000 }) leave_time false

-- after a LeaveAll of its own end: it takes registrars out of IN as a received one does
abbrev pub own_leave_all_state : {K C : Type 0} → (K → K → Ordering) → Cs → State K C → State K C
own_leave_all_state cmp now s = received_state cmp now true [] s

-- an observer after what is seen at its end; of what its own end says only a LeaveAll matters
abbrev pub seen_state : {K C : Type 0} → (K → K → Ordering) → State K C → Sight K C → State K C
seen_state cmp s (Comes now m) = received_state cmp now m.leave_all m.events s
seen_state cmp s (Goes now m) = if m.leave_all then own_leave_all_state cmp now s else s
seen_state cmp s (Passes now) = due_state now s
seen_state cmp s (Ends k) = left_state cmp k s

-- after all that is seen, in order
abbrev pub all_seen : {K C : Type 0} → (K → K → Ordering) → State K C → List (Sight K C) → State K C
all_seen cmp s sights = fold (seen_state cmp) s sights

-- A link between two participants as contracts see it, and everything that can happen on it, so
-- that the duty stands for every history of a link (IEEE Std 802.1Q-2018, 10.7). The list of events
-- is this project's.
use Rattle.std.specs.Prelude.{ℕ, zero, suc, Bool, true, false, if◌then◌else◌, List, [], ◌∷◌, ◌++◌, take, drop, fold}
use Rattle.std.specs.declared.cmp.Ordering.{Ordering}
use Rattle.srp_base.specs.declared.numbers.Cs.{Cs}
use Rattle.mrp_participant.specs.{Duty.IsDutyMet, State.State, State.Messages, State.AreRows, State.is_silent, State.new_state, State.declared_state, State.withdrawn_state, State.left_state, State.received_state, State.leave_all_state, State.periodic_state, State.due_state, State.sent_state, State.sent_messages}

-- the participants at the two ends of a link, and what each has sent that the other has yet to
-- receive, in order
pub record Link (K C : Type 0) : Type 0 where
  pub near : State K C
  pub far : State K C
  pub sent : List (Messages K C)
  pub coming : List (Messages K C)

-- what happens at one end of a link
pub data EndEvent (K C : Type 0) : Type 0 where
  -- the user declares a key with a content, or withdraws one
  Declares : K → C → EndEvent K C
  Withdraws : K → EndEvent K C
  -- the leave timer of a key ends; all timers that are due at a moment fire; LeaveAll's does;
  -- periodic does
  Leaves : K → EndEvent K C
  Fires : Cs → EndEvent K C
  FiresLeaveAll : Cs → EndEvent K C
  FiresPeriodic : EndEvent K C
  -- what there is to say is sent; the front of what is coming is received
  Sends : Cs → EndEvent K C
  Receives : Cs → EndEvent K C
  -- of the lists of messages that this end has sent, the one at a place is lost, or is there twice
  Loses : ℕ → EndEvent K C
  Repeats : ℕ → EndEvent K C

-- what happens on a link
pub data LinkEvent (K C : Type 0) : Type 0 where
  AtNear : EndEvent K C → LinkEvent K C
  AtFar : EndEvent K C → LinkEvent K C

-- whether a list of messages is lost
abbrev pub is_loss : {K C : Type 0} → EndEvent K C → Bool
is_loss (Declares k c) = false
is_loss (Withdraws k) = false
is_loss (Leaves k) = false
is_loss (Fires now) = false
is_loss (FiresLeaveAll now) = false
is_loss FiresPeriodic = false
is_loss (Sends now) = false
is_loss (Receives now) = false
is_loss (Loses i) = true
is_loss (Repeats i) = false

-- what happens at the end
abbrev pub end_event_of : {K C : Type 0} → LinkEvent K C → EndEvent K C
end_event_of (AtNear e) = e
end_event_of (AtFar e) = e

-- a list with the element at a place twice, the copy right behind its original
abbrev pub with_repeat : {X : Type 0} → ℕ → List X → List X
with_repeat i [] = []
with_repeat zero (x ∷ xs) = x ∷ x ∷ xs
with_repeat (suc i) (x ∷ xs) = x ∷ with_repeat i xs

module _ {K C : Type 0} where
  -- two new participants with nothing in flight
  abbrev pub new_link : (near far : Cs × Cs × Bool) → Link K C
  new_link near far =
      record {
        near = new_state near.0 near.1 near.2;
        far = new_state far.0 far.1 far.2;
        sent = [];
        coming = [];
      }

  -- the same link as its other end sees it
  abbrev pub other_view : Link K C → Link K C
  other_view l = record { near = l.far; far = l.near; sent = l.coming; coming = l.sent }

  -- the link with another state of the near participant
  abbrev pub with_near : State K C → Link K C → Link K C
  with_near s l = record l { near = s }

  -- a participant that isn't sound any more
  abbrev pub after_spoiling : State K C → State K C
  after_spoiling s = record s { sound = false }

  -- after the near end has received the front of what is coming, where anything is
  abbrev pub after_receiving : (K → K → Ordering) → Cs → List (Messages K C) → Link K C → Link K C
  after_receiving cmp now [] l = l
  after_receiving cmp now (m ∷ coming) l = record l { near = received_state cmp now m.leave_all m.events l.near; coming = coming }

  -- after the near end has sent: where there is nothing to say, nothing is put in flight
  abbrev pub after_sending : ℕ → (C → ℕ) → (K → K → Ordering) → Cs → Link K C → Link K C
  after_sending base octets cmp now l =
      if is_silent l.near
      then l
      else record l { near = sent_state base octets cmp now l.near; sent = l.sent ++ (sent_messages base octets cmp now l.near ∷ []) }

  -- after what the near end has sent at a place is lost: neither end is sound then
  abbrev pub after_loss : ℕ → Link K C → Link K C
  after_loss i l = record { near = after_spoiling l.near; far = after_spoiling l.far; sent = take i l.sent ++ drop (suc i) l.sent; coming = l.coming }

  -- after what happens at the near end
  abbrev pub after_end_event : ℕ → (C → ℕ) → (K → K → Ordering) → (C → C → Bool) → EndEvent K C → Link K C → Link K C
  after_end_event base octets cmp eq (Declares k c) l = with_near (declared_state cmp eq k c l.near) l
  after_end_event base octets cmp eq (Withdraws k) l = with_near (withdrawn_state cmp k l.near) l
  after_end_event base octets cmp eq (Leaves k) l = with_near (left_state cmp k l.near) l
  after_end_event base octets cmp eq (Fires now) l = with_near (due_state now l.near) l
  after_end_event base octets cmp eq (FiresLeaveAll now) l = with_near (leave_all_state now l.near) l
  after_end_event base octets cmp eq FiresPeriodic l = with_near (periodic_state l.near) l
  after_end_event base octets cmp eq (Sends now) l = after_sending base octets cmp now l
  after_end_event base octets cmp eq (Receives now) l = after_receiving cmp now l.coming l
  after_end_event base octets cmp eq (Loses i) l = after_loss i l
  after_end_event base octets cmp eq (Repeats i) l = record l { sent = with_repeat i l.sent }

  -- after what happens at either end
  abbrev pub after_event : ℕ → (C → ℕ) → (K → K → Ordering) → (C → C → Bool) → Link K C → LinkEvent K C → Link K C
  after_event base octets cmp eq l (AtNear e) = after_end_event base octets cmp eq e l
  after_event base octets cmp eq l (AtFar e) = other_view (after_end_event base octets cmp eq e (other_view l))

  -- after a list of events, in order
  abbrev pub after_events : ℕ → (C → ℕ) → (K → K → Ordering) → (C → C → Bool) → Link K C → List (LinkEvent K C) → Link K C
  after_events base octets cmp eq l events = fold (after_event base octets cmp eq) l events

-- what a link keeps: the rows of both participants are a participant's rows, and each duty is met
pub record AreDutiesMet {K C : Type 0} (cmp : K → K → Ordering) (l : Link K C) : Type 0 where
  pub near_rows : AreRows cmp l.near.rows
  pub far_rows : AreRows cmp l.far.rows
  pub near_duty : IsDutyMet cmp l.near l.far l.sent l.coming
  pub far_duty : IsDutyMet cmp l.far l.near l.coming l.sent

-- A link with an observer at each end: what they see of each thing that happens on it.
use Rattle.std.specs.Prelude.{◌≡◌, ℕ, Bool, if◌then◌else◌, List, [], ◌∷◌, fold}
use Rattle.std.specs.declared.cmp.Ordering.{Ordering}
use Rattle.srp_base.specs.declared.numbers.Cs.{Cs}
use Rattle.mrp_participant.specs.{Lookup.find, Link.Link, Link.EndEvent, Link.LinkEvent, Link.new_link, Link.other_view, Link.after_event, Link.EndEvent.Declares, Link.EndEvent.Withdraws, Link.EndEvent.Leaves, Link.EndEvent.Fires, Link.EndEvent.FiresLeaveAll, Link.EndEvent.FiresPeriodic, Link.EndEvent.Sends, Link.EndEvent.Receives, Link.EndEvent.Loses, Link.EndEvent.Repeats, Link.LinkEvent.AtNear, Link.LinkEvent.AtFar, State.State, State.Messages, State.AreRows, State.is_silent, State.sent_messages}
use Rattle.link_replay.specs.{Standing.standing, Observer.Sight, Observer.Sight.Comes, Observer.Sight.Goes, Observer.Sight.Passes, Observer.Sight.Ends, Observer.new_observer, Observer.all_seen}

-- an observer holds what a participant's registrars hold: of each key the state, the content, and
-- the end of the leave timer
pub record IsObserved {K C : Type 0} (cmp : K → K → Ordering) (observer own : State K C) : Type 0 where
  pub rows : AreRows cmp observer.rows
  pub leave_time : observer.leave_time ≡ own.leave_time
  pub holds : (k : K) → standing (find cmp k observer.rows) ≡ standing (find cmp k own.rows)

-- a link with the observers of its ends
pub record Watched (K C : Type 0) : Type 0 where
  pub link : Link K C
  pub near : State K C
  pub far : State K C

module _ {K C : Type 0} where
  -- what is seen of the list of messages in front of what is coming
  abbrev pub coming_seen : Cs → List (Messages K C) → List (Sight K C)
  coming_seen now [] = []
  coming_seen now (m ∷ coming) = Comes now m ∷ []

  -- what is seen at the near end of what happens there: what goes out and what comes in, and the
  -- leave timers. What its user asks for, and what is lost on the way to the other end, isn't.
  abbrev pub sights : ℕ → (C → ℕ) → (K → K → Ordering) → EndEvent K C → Link K C → List (Sight K C)
  sights base octets cmp (Declares k c) l = []
  sights base octets cmp (Withdraws k) l = []
  sights base octets cmp (Leaves k) l = Ends k ∷ []
  sights base octets cmp (Fires now) l = Passes now ∷ []
  sights base octets cmp (FiresLeaveAll now) l = []
  sights base octets cmp FiresPeriodic l = []
  sights base octets cmp (Sends now) l = if is_silent l.near then [] else Goes now (sent_messages base octets cmp now l.near) ∷ []
  sights base octets cmp (Receives now) l = coming_seen now l.coming
  sights base octets cmp (Loses i) l = []
  sights base octets cmp (Repeats i) l = []

  -- an observer of the near end after what happens there
  abbrev pub observer_after : ℕ → (C → ℕ) → (K → K → Ordering) → EndEvent K C → Link K C → State K C → State K C
  observer_after base octets cmp e l s = all_seen cmp s (sights base octets cmp e l)

  -- a link and its observers after what happens on it
  abbrev pub after_watched : ℕ → (C → ℕ) → (K → K → Ordering) → (C → C → Bool) → Watched K C → LinkEvent K C → Watched K C
  after_watched base octets cmp eq w (AtNear e) =
      record w { link = after_event base octets cmp eq w.link (AtNear e); near = observer_after base octets cmp e w.link w.near }
  after_watched base octets cmp eq w (AtFar e) =
      record w { link = after_event base octets cmp eq w.link (AtFar e); far = observer_after base octets cmp e (other_view w.link) w.far }

  -- after a list of events, in order
  abbrev pub all_watched : ℕ → (C → ℕ) → (K → K → Ordering) → (C → C → Bool) → Watched K C → List (LinkEvent K C) → Watched K C
  all_watched base octets cmp eq w events = fold (after_watched base octets cmp eq) w events

  -- a new link, and observers that have seen nothing
  abbrev pub new_watched : (near far : Cs × Cs × Bool) → Watched K C
  new_watched near far = record { link = new_link near far; near = new_observer near.1; far = new_observer far.1 }

-- both observers hold what the registrars at their ends hold
pub record AreObserved {K C : Type 0} (cmp : K → K → Ordering) (w : Watched K C) : Type 0 where
  pub near_rows : AreRows cmp w.link.near.rows
  pub far_rows : AreRows cmp w.link.far.rows
  pub near : IsObserved cmp w.near w.link.near
  pub far : IsObserved cmp w.far w.link.far

-- A link beside which marks say where a neighbour's LeaveAll has cleared the way. A LeaveAll that
-- an end sends while nothing is on its way from the other end leaves nothing held of what that
-- other end declares; and where the other end takes the LeaveAll before it says anything, it has
-- yet to say all that it declares. So it is sound from then on, as after a LeaveAll of its own
-- (IEEE Std 802.1Q-2018, 10.7.5.20 and 10.7.6.6: LeaveAll). The marks are this project's.
use Rattle.std.specs.Prelude.{◌≡◌, ℕ, Bool, true, false, ◌||◌, ◌&&◌, if◌then◌else◌, List, [], ◌∷◌, fold}
use Rattle.std.specs.{declared.option.Option.TheVariants.None, declared.cmp.Ordering.Ordering}
use Rattle.srp_base.specs.declared.numbers.Cs.{Cs}
use Rattle.mrp_participant.specs.{Lookup.find, Duty.held_in, Duty.hears, Link.Link, Link.EndEvent, Link.LinkEvent, Link.AreDutiesMet, Link.new_link, Link.other_view, Link.after_end_event, Link.EndEvent.Declares, Link.EndEvent.Withdraws, Link.EndEvent.Leaves, Link.EndEvent.Fires, Link.EndEvent.FiresLeaveAll, Link.EndEvent.FiresPeriodic, Link.EndEvent.Sends, Link.EndEvent.Receives, Link.EndEvent.Loses, Link.EndEvent.Repeats, Link.LinkEvent.AtNear, Link.LinkEvent.AtFar, State.State, State.Messages, State.is_active, State.is_silent}

-- the marks of an end: the neighbour's LeaveAll has cleared its way, and it hasn't said anything
-- since; it took that LeaveAll while its way was clear, so that it is sound
pub record Mark : Type 0 where
  pub clear : Bool
  pub assured : Bool

-- no mark is set
abbrev pub unmarked : Mark
unmarked = record { clear = false; assured = false }

-- of two marks the one has no more set than the other
pub record IsNoMore (less more : Mark) : Type 0 where
  pub clear : less.clear ≡ true → more.clear ≡ true
  pub assured : less.assured ≡ true → more.assured ≡ true

-- a link with the marks of its ends
pub record MarkedLink (K C : Type 0) : Type 0 where
  pub link : Link K C
  pub near : Mark
  pub far : Mark

-- whether nothing is in flight
abbrev pub is_nothing : {X : Type 0} → List X → Bool
is_nothing [] = true
is_nothing (x ∷ xs) = false

-- the mark of an end that sends, where it says anything: its way isn't clear any more
abbrev pub mark_sending : (silent : Bool) → Mark → Mark
mark_sending silent mark = if silent then mark else record mark { clear = false }

module _ {K C : Type 0} where
  -- a participant as its duty sees it: it is sound by a LeaveAll of its own, or by its neighbour's
  abbrev pub seen_state : Mark → State K C → State K C
  seen_state mark s = record s { sound = mark.assured || s.sound }

  -- a link as its duties see it
  abbrev pub seen_link : MarkedLink K C → Link K C
  seen_link l = record l.link { near = seen_state l.near l.link.near; far = seen_state l.far l.link.far }

  -- two new participants with nothing in flight, which need no marks to be sound
  abbrev pub new_marked_link : (near far : Cs × Cs × Bool) → MarkedLink K C
  new_marked_link near far = record { link = new_link near far; near = unmarked; far = unmarked }

  -- the same link as its other end sees it
  abbrev pub other_marked_view : MarkedLink K C → MarkedLink K C
  other_marked_view l = record { link = other_view l.link; near = l.far; far = l.near }

  -- ---- the marks after an event

  -- of an end that receives the front of what is coming: a LeaveAll that finds its way clear
  -- assures it
  abbrev pub mark_receiving : List (Messages K C) → Mark → Mark
  mark_receiving [] mark = mark
  mark_receiving (m ∷ coming) mark = record mark { assured = mark.assured || (m.leave_all && mark.clear) }

  -- of the end to which it sends: a LeaveAll clears its way, where nothing is coming from it
  abbrev pub mark_sent : (silent leave_all : Bool) → (coming : List (Messages K C)) → Mark → Mark
  mark_sent silent leave_all coming mark =
      if silent then mark else record mark { clear = mark.clear || (leave_all && is_nothing coming) }

  -- of the near end, after what happens at it
  abbrev pub near_mark_after : EndEvent K C → MarkedLink K C → Mark
  near_mark_after (Declares k c) l = l.near
  near_mark_after (Withdraws k) l = l.near
  near_mark_after (Leaves k) l = l.near
  near_mark_after (Fires now) l = l.near
  near_mark_after (FiresLeaveAll now) l = l.near
  near_mark_after FiresPeriodic l = l.near
  near_mark_after (Sends now) l = mark_sending (is_silent l.link.near) l.near
  near_mark_after (Receives now) l = mark_receiving l.link.coming l.near
  near_mark_after (Loses i) l = unmarked
  near_mark_after (Repeats i) l = l.near

  -- of the far end
  abbrev pub far_mark_after : EndEvent K C → MarkedLink K C → Mark
  far_mark_after (Declares k c) l = l.far
  far_mark_after (Withdraws k) l = l.far
  far_mark_after (Leaves k) l = l.far
  far_mark_after (Fires now) l = l.far
  far_mark_after (FiresLeaveAll now) l = l.far
  far_mark_after FiresPeriodic l = l.far
  far_mark_after (Sends now) l = mark_sent (is_silent l.link.near) (is_active l.link.near.leave_all) l.link.coming l.far
  far_mark_after (Receives now) l = l.far
  far_mark_after (Loses i) l = unmarked
  far_mark_after (Repeats i) l = l.far

  -- ---- the link with its marks after an event

  -- after what happens at the near end
  abbrev pub after_marked_end_event : ℕ → (C → ℕ) → (K → K → Ordering) → (C → C → Bool) → EndEvent K C → MarkedLink K C → MarkedLink K C
  after_marked_end_event base octets cmp eq e l =
      record {
        link = after_end_event base octets cmp eq e l.link;
        near = near_mark_after e l;
        far = far_mark_after e l;
      }

  -- after what happens at either end
  abbrev pub after_marked_event : ℕ → (C → ℕ) → (K → K → Ordering) → (C → C → Bool) → MarkedLink K C → LinkEvent K C → MarkedLink K C
  after_marked_event base octets cmp eq l (AtNear e) = after_marked_end_event base octets cmp eq e l
  after_marked_event base octets cmp eq l (AtFar e) = other_marked_view (after_marked_end_event base octets cmp eq e (other_marked_view l))

  -- after a list of events, in order
  abbrev pub after_marked_events : ℕ → (C → ℕ) → (K → K → Ordering) → (C → C → Bool) → MarkedLink K C → List (LinkEvent K C) → MarkedLink K C
  after_marked_events base octets cmp eq l events = fold (after_marked_event base octets cmp eq) l events

-- what a clear way says of an end: nothing is on its way from it, and its neighbour will hold
-- nothing of any key
pub record IsClear {K C : Type 0} (cmp : K → K → Ordering) (mark : Mark) (sent : List (Messages K C)) (far : State K C) : Type 0 where
  pub nothing_sent : mark.clear ≡ true → sent ≡ []
  pub nothing_held : mark.clear ≡ true → (k : K) → hears cmp k (held_in (find cmp k far.rows)) sent ≡ None

-- what a link with marks keeps: both duties of the link as seen, and what a clear way says of each
-- end
pub record AreMarkedDutiesMet {K C : Type 0} (cmp : K → K → Ordering) (l : MarkedLink K C) : Type 0 where
  pub duties : AreDutiesMet cmp (seen_link l)
  pub near_clear : IsClear cmp l.near l.link.sent l.link.far
  pub far_clear : IsClear cmp l.far l.link.coming l.link.near

-- What changes in the bookings of the port at an end of a link: what a reader of the lines `booked` and
-- `dropped` has booked there, line by line.
use Rattle.std.specs.Prelude.{◌≡◌, ℕ, true, not, nat_lt, if◌then◌else◌, List, [], ◌∷◌, ◌++◌, map, filter, fold, Some}
use Rattle.srp_base.specs.declared.{bandwidth.Class.Class, numbers.Cs.Cs, numbers.StreamId.StreamId, streams.Talker.Talker, streams.ListenerKind.ListenerKind}
use Rattle.attribute_propagation.specs.Dirty.{is_awaiting, with_key, without_key}
use Rattle.capture_file.specs.Packets.{Packet}
use Rattle.link_replay.specs.declared.lines.End.{End}
use Rattle.link_replay.specs.Lines.{other_end}
use Rattle.msrp.specs.Stream.{is_ready_kind}
use Rattle.msrp_codec.specs.declared.pdu.MsrpKey.TheVariants as keys
use Rattle.msrp_codec.specs.declared.pdu.MsrpContent.TheVariants.{Advertise, Listener}
use Rattle.msrp_talker.specs.TalkerOut.{class_of_priority}
use Rattle.replay_words.specs.declared.{booking.Booking.Booking, ends.Ends.Ends}
use Rattle.replay_words.specs.{Bookings.booking_cmp, Bookings.booking_in, Bookings.StreamWays, Bookings.standing_at, Bookings.bookings_of, Bookings.booked_line, Bookings.dropped_line, Watched.watched_passing, Seen.LinkSeen, Seen.arrived, Seen.seen_arriving, Seen.seen_passing, Seen.ending_by, Seen.moment_after, Seen.after_packet}

-- ---- what stands of a stream that is booked

-- A booking of the port at an end is that of a stream in a class: its Talker Advertise, with a priority
-- of that class, stands at the other end, and at this end a Listener Ready or Ready Failed of it does
-- (35.2.4). It takes what the Talker asks for in the class (34.4).
pub record IsBookedFor (who : End) (ways : StreamWays) (booking : Booking) : Type 0 where
  pub stream : StreamId
  pub talker : Talker
  pub class : Class
  pub kind : ListenerKind
  pub advertised : standing_at ways who (keys.Talker stream) ≡ Some (Advertise talker)
  pub class_is : class_of_priority talker.priority ≡ Some class
  pub asked_for : standing_at ways (other_end who) (keys.Listener stream) ≡ Some (Listener kind)
  pub ready : is_ready_kind kind ≡ true
  pub takes : booking ≡ booking_in talker class

-- ---- changes

-- a booking is gone, or is new
pub data Change : Type 0 where
  Drops : Booking → Change
  Books : Booking → Change

-- its line
abbrev pub change_line : Cs → End → Change → List ℕ
change_line at who (Drops b) = dropped_line at who b
change_line at who (Books b) = booked_line at who b

-- what is booked after it
abbrev pub after_change : List Booking → Change → List Booking
after_change booked (Drops b) = without_key booking_cmp b booked
after_change booked (Books b) = with_key booking_cmp b booked

-- after some, in order
abbrev pub after_changes : List Booking → List Change → List Booking
after_changes booked changes = fold after_change booked changes

-- what changes from one set of bookings to another: what is gone first, then what is new
abbrev pub changes_to : List Booking → List Booking → List Change
changes_to before after =
    map Drops (filter (λ b. not (is_awaiting booking_cmp b after)) before)
    ++ map Books (filter (λ b. not (is_awaiting booking_cmp b before)) after)

-- ---- the changes whose lines a replay prints, of the port at an end

module _ (who : End) where
  -- from some ways to others
  abbrev pub ways_changes : StreamWays → StreamWays → List Change
  ways_changes before after = changes_to (bookings_of who before) (bookings_of who after)

  -- when what was said arrives
  abbrev pub arrived_changes : LinkSeen → List Change
  arrived_changes s = ways_changes s.watched.streams.ways (arrived s).streams.ways

  -- when leave timers fire at a moment, and at some, in order
  abbrev pub passed_changes : LinkSeen → Cs → List Change
  passed_changes s at = ways_changes s.watched.streams.ways (watched_passing at s.watched).streams.ways

  abbrev pub all_passed_changes : LinkSeen → List Cs → List Change
  all_passed_changes s [] = []
  all_passed_changes s (at ∷ moments) = passed_changes s at ++ all_passed_changes (seen_passing s at) moments

  -- when time goes on to a moment, that may be later
  abbrev pub later_changes : Cs → LinkSeen → List Change
  later_changes at s = arrived_changes s ++ all_passed_changes (seen_arriving s) (ending_by at s)

  abbrev pub changes_at : Cs → LinkSeen → List Change
  changes_at at s = if nat_lt s.at.0 at.0 then later_changes at s else []

  -- of captured frames, in order, with the time up to each
  abbrev pub packets_changes : Ends → LinkSeen → List Packet → List Change
  packets_changes ends s [] = []
  packets_changes ends s (p ∷ ps) = changes_at (moment_after s.at p) s ++ packets_changes ends (after_packet ends s p) ps

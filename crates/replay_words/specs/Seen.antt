-- What was seen of a link, frame by frame: what is printed of a captured frame, and what is known
-- after it. A moment is in cs; what an end sends at a moment is with the other end at the next, in
-- front of what happens there at that.
use Rattle.std.specs.Prelude.{ℕ, ◌+◌, ◌-◌, ◌/◌, ◌^◌, min, nat_lt, if◌then◌else◌, List, [], ◌∷◌, ◌++◌, length, fold, codes, Option, Some, None}
use Rattle.std.specs.Fmt.{decimal}
use Rattle.srp_base.specs.{Text.whole_of, declared.numbers.Cs.Cs}
use Rattle.capture_file.specs.Packets.{Packet}
use Rattle.stream_importance.specs.declared.slope.Caps.{Caps}
use Rattle.link_replay.specs.declared.lines.End.{End}
use Rattle.mrp_frames.specs.Frames.{Seen, frame_in}
use Rattle.replay_words.specs.declared.{ends.Ends.Ends, counts.Counts.Counts}
use Rattle.replay_words.specs.{Ends.end_at, Lines.other_line, Lines.cut_line, Watched.Watched, Watched.new_watched, Watched.watched_ends, Watched.watched_passing, Watched.watched_passing_text, Watched.watched_let_go, Watched.watched_arriving, Watched.watched_arriving_text, Watched.watched_judged, Watched.watched_judging_text, Watched.watched_broken, Watched.after_octets, Watched.octets_text, Watched.octets_broken, Bookings.followed_text}

-- ---- counts

-- nothing is counted yet
abbrev pub no_counts : Counts
no_counts = record { owed = 0; broken = 0; frames = 0; others = 0 }

-- a count that rises; at its type's end it stands still
abbrev pub risen : ℕ → ℕ → ℕ
risen count more = min (count + more) (2 ^ 64 - 1)

-- so many more attributes were let go
abbrev pub with_owed : ℕ → Counts → Counts
with_owed more c = record c { owed = risen c.owed more }

-- so many more words are broken
abbrev pub with_broken : ℕ → Counts → Counts
with_broken more c = record c { broken = risen c.broken more }

-- one more frame of an end, in which so much is broken
abbrev pub with_frame : ℕ → Counts → Counts
with_frame more c = record c { frames = risen c.frames 1; broken = risen c.broken more }

-- one more frame of another
abbrev pub with_other : Counts → Counts
with_other c = record c { others = risen c.others 1 }

-- `owed N`, `broken N` and `frames N other M`
abbrev pub counts_text : Counts → List ℕ
counts_text c = whole_of (
    codes "owed " ∷ decimal c.owed ∷ codes "\nbroken " ∷ decimal c.broken ∷ codes "\nframes " ∷ decimal c.frames
    ∷ codes " other " ∷ decimal c.others ∷ codes "\n" ∷ [])

-- ---- what was seen: up to which moment, in cs; the link; and the counts

pub record LinkSeen : Type 0 where
  pub at : Cs
  pub watched : Watched
  pub counts : Counts

-- nothing yet
abbrev pub new_seen : Cs → LinkSeen
new_seen leave_time = record { at = record { 0 = 0 }; watched = new_watched leave_time; counts = no_counts }

-- the moment of a frame in cs: that of the capture, rounded down, or the one before it where that is
-- later
unfoldable pub moment_after : Cs → Packet → Cs
moment_after before p = if nat_lt (p.at_ns / 10000000) before.0 then before else record { 0 = p.at_ns / 10000000 }

-- ---- what was said at a moment is with the other end at the next, and the words are judged behind it

-- the next moment
abbrev pub next_cs : Cs → Cs
next_cs at = record { 0 = at.0 + 1 }

-- the link once it has arrived
abbrev pub arrived : LinkSeen → Watched
arrived s = watched_arriving (next_cs s.at) s.watched

-- what was seen then
unfoldable pub seen_arriving : LinkSeen → LinkSeen
seen_arriving s = record s { watched = watched_judged (arrived s); counts = with_broken (watched_broken (arrived s)) s.counts }

-- what is printed of it: what arrives, what followed of the streams, where a port has these caps, and
-- the words that are broken, of the moment at which they were said
unfoldable pub arrived_text : Caps → LinkSeen → List ℕ
arrived_text caps s =
    whole_of (
    watched_arriving_text (next_cs s.at) s.watched ∷ followed_text (next_cs s.at) caps s.watched.streams.ways (arrived s).streams.ways
    ∷ watched_judging_text s.at (arrived s) ∷ [])

-- ---- leave timers fire at their own moments

-- what was seen once those have fired that end at a moment
unfoldable pub seen_passing : LinkSeen → Cs → LinkSeen
seen_passing s at = record { at = at; watched = watched_passing at s.watched; counts = with_owed (watched_let_go at s.watched) s.counts }

-- what is printed of it, and of what followed
unfoldable pub passed_text : Caps → LinkSeen → Cs → List ℕ
passed_text caps s at =
    watched_passing_text at s.watched ++ followed_text at caps s.watched.streams.ways (watched_passing at s.watched).streams.ways

-- at some moments, in order
abbrev pub all_passing : LinkSeen → List Cs → LinkSeen
all_passing s moments = fold seen_passing s moments

-- what is printed of them
abbrev pub all_passed_text : Caps → LinkSeen → List Cs → List ℕ
all_passed_text caps s [] = []
all_passed_text caps s (at ∷ moments) = passed_text caps s at ++ all_passed_text caps (seen_passing s at) moments

-- ---- time goes on to a moment: what was said arrives, and then the leave timers fire that end by then

-- the moments at which they do
abbrev pub ending_by : Cs → LinkSeen → List Cs
ending_by at s = watched_ends at (seen_arriving s).watched

-- what was seen at a later moment
unfoldable pub seen_later : Cs → LinkSeen → LinkSeen
seen_later at s = record (all_passing (seen_arriving s) (ending_by at s)) { at = at }

-- what is printed up to it
unfoldable pub later_text : Caps → Cs → LinkSeen → List ℕ
later_text caps at s = arrived_text caps s ++ all_passed_text caps (seen_arriving s) (ending_by at s)

-- what was seen at a moment that may be later
unfoldable pub seen_at : Cs → LinkSeen → LinkSeen
seen_at at s = if nat_lt s.at.0 at.0 then seen_later at s else s

-- what is printed up to it
unfoldable pub at_text : Caps → Cs → LinkSeen → List ℕ
at_text caps at s = if nat_lt s.at.0 at.0 then later_text caps at s else []

-- ---- a frame of an end; of a cut one the PDU isn't read

-- the ways after it
unfoldable pub after_said : Cs → End → Packet → Seen → Watched → Watched
after_said at who p seen w = if nat_lt (length p.octets) p.whole then w else after_octets at who seen.app seen.pdu w

-- what is printed of it
unfoldable pub said_text : Cs → End → Packet → Seen → Watched → List ℕ
said_text at who p seen w =
    if nat_lt (length p.octets) p.whole then cut_line at who seen.app (length p.octets) p.whole
    else octets_text at who seen.app seen.pdu w

-- how much of it is broken in itself
unfoldable pub said_broken : Packet → Seen → ℕ
said_broken p seen = if nat_lt (length p.octets) p.whole then 0 else octets_broken seen.app seen.pdu

-- what was seen after it
unfoldable pub seen_said : Cs → End → Packet → Seen → LinkSeen → LinkSeen
seen_said at who p seen s =
    record s { watched = after_said at who p seen s.watched; counts = with_frame (said_broken p seen) s.counts }

-- ---- a frame of MRP, by the end that sent it, if it is one

-- what was seen after it
unfoldable pub seen_from : Cs → Packet → Seen → Option End → LinkSeen → LinkSeen
seen_from at p seen None s = record s { counts = with_other s.counts }
seen_from at p seen (Some who) s = seen_said at who p seen s

-- what is printed of it
unfoldable pub from_text : Cs → Packet → Seen → Option End → Watched → List ℕ
from_text at p seen None w = other_line at seen.address
from_text at p seen (Some who) w = said_text at who p seen w

-- ---- a captured frame, by the frame of MRP that it is, if it is one

-- what was seen after it
unfoldable pub seen_frame : Ends → Cs → Packet → Option Seen → LinkSeen → LinkSeen
seen_frame ends at p None s = record s { counts = with_other s.counts }
seen_frame ends at p (Some seen) s = seen_from at p seen (end_at ends seen.address) s

-- what is printed of it
unfoldable pub frame_text : Ends → Cs → Packet → Option Seen → Watched → List ℕ
frame_text ends at p None w = []
frame_text ends at p (Some seen) w = from_text at p seen (end_at ends seen.address) w

-- ---- a captured frame, with the time up to it

-- what was seen after it
unfoldable pub after_packet : Ends → LinkSeen → Packet → LinkSeen
after_packet ends s p = let at = moment_after s.at p in seen_frame ends at p (frame_in p) (seen_at at s)

-- what is printed of it, and of the time up to it, where a port has these caps
unfoldable pub packet_text : Caps → Ends → LinkSeen → Packet → List ℕ
packet_text caps ends s p =
    let at = moment_after s.at p in
    at_text caps at s ++ frame_text ends at p (frame_in p) (seen_at at s).watched

-- ---- all of them, in order

-- what was seen after them
abbrev pub after_packets : Ends → LinkSeen → List Packet → LinkSeen
after_packets ends s ps = fold (after_packet ends) s ps

-- what is printed of them
abbrev pub packets_text : Caps → Ends → LinkSeen → List Packet → List ℕ
packets_text caps ends s [] = []
packets_text caps ends s (p ∷ ps) = packet_text caps ends s p ++ packets_text caps ends (after_packet ends s p) ps

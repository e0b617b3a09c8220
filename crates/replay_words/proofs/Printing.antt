-- What a replay prints is lines, and those of bookings are the changes.
use Rattle.std.proofs.Common.{◌≡◌, ◌∙◌, ℕ, Bool, true, false, if◌then◌else◌, List, [], ◌∷◌, ◌++◌, refl, ap, sym, append_assoc, append-nil}
use Rattle.std.specs.Prelude.{nat_lt, flat_map, length, Option, Some, None, Result, Ok, Err}
use Rattle.std.specs.declared.cmp.Ordering.{Ordering}
use Rattle.std.specs.Ordering.{nat_cmp}
use Rattle.srp_base.specs.declared.{numbers.Cs.Cs, mrp.MrpEvent.MrpEvent}
use Rattle.srp_base.specs.declared.mrp.MrpEvent.TheVariants.{New, JoinIn, OnlyIn, JoinMt, OnlyMt, Lv}
use Rattle.attribute_propagation.specs.Dirty.{is_awaiting}
use Rattle.capture_file.specs.Packets.{Packet}
use Rattle.flat_side.specs.Part.{same_content as same_nothing}
use Rattle.link_replay.specs.declared.lines.End.{End}
use Rattle.link_replay.specs.declared.lines.End.TheVariants as at_end
use Rattle.link_replay.specs.{Lines.other_end, Way.WayState, Way.until_of, Way.is_held, Way.is_broken, Way.owed_text, Way.leaving_text, Way.gone_text, Way.passing_text, Way.joining_text, Way.heard_text, Way.all_heard_text, Way.hearing_way, BothWays.Ways, BothWays.way_of, BothWays.begun_way, BothWays.begun_text, BothWays.ways_passing_text, LinkWatch.LinkState, LinkWatch.kept_text, LinkWatch.judging_text, LinkWatch.said_arriving, LinkWatch.all_arriving_text, LinkWatch.arriving_text}
use Rattle.mmrp_codec.specs.{Meaning.mmrp_reading, declared.pdu.GroupPdu.GroupPdu}
use Rattle.mrp_frames.specs.Frames.{Seen, frame_in}
use Rattle.mrp_participant.specs.State.{Messages, left_keys}
use Rattle.mrpdu_codec.specs.declared.form.AppForm.{AppForm}
use Rattle.mrpdu_codec.specs.declared.form.AppForm.TheVariants.{Mvrp, Msrp, Mmrp}
use Rattle.msrp.specs.Part.{key_cmp, same_content}
use Rattle.msrp_codec.specs.{Meaning.msrp_reading, declared.pdu.MsrpContent.MsrpContent, declared.pdu.MsrpPdu.MsrpPdu}
use Rattle.mvrp_codec.specs.{Meaning.mvrp_reading, declared.pdu.MvrpPdu.MvrpPdu}
use Rattle.pdu_words.specs.Captured.{broken_line}
use Rattle.stream_importance.specs.declared.slope.Caps.{Caps}
use Rattle.replay_words.specs.declared.{booking.Booking.Booking, ends.Ends.Ends, head.Head.Head}
use Rattle.replay_words.specs.{advertised, is_double, double_text, doubles_text, StreamEvent, Watched.Watched, watched_passing, watched_passing_text, watched_arriving_text, watched_judging_text, vlans_text, streams_text, groups_text, octets_text, StreamWays, bookings_of, has_new, passes_text, caps_text, sum_in_a, sum_of, changes_text, followed_text, LinkSeen, new_seen, moment_after, next_cs, arrived, arrived_text, seen_arriving, passed_text, seen_passing, all_passed_text, ending_by, later_text, seen_at, at_text, said_text, from_text, frame_text, after_packet, packet_text, after_packets, packets_text, end_at, ends_of, run_text, after_run, capture_text, Change, change_line, changes_to, ways_changes, arrived_changes, passed_changes, all_passed_changes, later_changes, changes_at, packets_changes, Attribute, Attribute.Vlan, Attribute.Stream, Attribute.Group, attribute_text, content_or_none, Line, Line.Changed, Line.Passes, Line.Stands, Line.Leaves, Line.Gone, Line.Owes, Line.LetsGo, Line.Denied, Line.Twice, Line.Malformed, Line.CutOff, Line.Other, Line.BreaksOff, Line.Counted, line_text, change_at, told_by, told_of, PrintsChanges, run_changes}
use Rattle.replay_words.proofs.Ledgers.{lines as change_lines}

-- ---- lists of lines

flat_on : {X Y : Type 0} (f : X → List Y) (xs ys : List X) → flat_map f (xs ++ ys) ≡ flat_map f xs ++ flat_map f ys
flat_on f [] ys = refl
flat_on f (x ∷ xs) ys = ap (λ (zs : List _). f x ++ zs) (flat_on f xs ys) ∙ sym (append_assoc (f x) (flat_map f xs) (flat_map f ys))

-- nothing
blank : PrintsChanges [] (λ who. [])
blank = record { lines = []; text_is = refl; told = λ who. refl }

-- a line
alone : (l : Line) → PrintsChanges (line_text l) (λ who. told_by who l)
alone l = record { lines = l ∷ []; text_is = sym (append-nil (line_text l)); told = λ who. append-nil (told_by who l) }

-- one text and then another
both : (a b : List ℕ) (x y : End → List Change) → PrintsChanges a x → PrintsChanges b y → PrintsChanges (a ++ b) (λ who. x who ++ y who)
both a b x y one other = record {
  lines = one.lines ++ other.lines;
  text_is = ap (λ (text : List ℕ). text ++ b) one.text_is
      ∙ ap (λ (text : List ℕ). flat_map line_text one.lines ++ text) other.text_is
      ∙ sym (flat_on line_text one.lines other.lines);
  told = λ who. flat_on (told_by who) one.lines other.lines
      ∙ ap (λ (cs : List Change). cs ++ told_of who other.lines) (one.told who)
      ∙ ap (λ (cs : List Change). x who ++ cs) (other.told who);
}

-- the same text, and the same changes
as_text : (a b : List ℕ) (x : End → List Change) → b ≡ a → PrintsChanges a x → PrintsChanges b x
as_text a b x is told = record { lines = told.lines; text_is = is ∙ told.text_is; told = told.told }

as_changes : (a : List ℕ) (x y : End → List Change) → ((who : End) → x who ≡ y who) → PrintsChanges a x → PrintsChanges a y
as_changes a x y is told = record { lines = told.lines; text_is = told.text_is; told = λ who. told.told who ∙ is who }

-- texts that tell no change
abbrev pub IsQuiet : List ℕ → Type 0
IsQuiet text = PrintsChanges text (λ who. [])

quiet : (a b : List ℕ) → IsQuiet a → IsQuiet b → IsQuiet (a ++ b)
quiet a b one other = both a b (λ who. []) (λ who. []) one other

quiet_where : (b : Bool) (text : List ℕ) → IsQuiet text → IsQuiet (if b then text else [])
quiet_where true text is = is
quiet_where false text is = blank

quiet_unless : (b : Bool) (text : List ℕ) → IsQuiet text → IsQuiet (if b then [] else text)
quiet_unless true text is = blank
quiet_unless false text is = is

quiet_either : (b : Bool) (one other : List ℕ) → IsQuiet one → IsQuiet other → IsQuiet (if b then one else other)
quiet_either true one other is are = is
quiet_either false one other is are = are

quiet_all : {X : Type 0} (f : X → List ℕ) → ((x : X) → IsQuiet (f x)) → (xs : List X) → IsQuiet (flat_map f xs)
quiet_all f is [] = blank
quiet_all f is (x ∷ xs) = quiet (f x) (flat_map f xs) (is x) (quiet_all f is xs)

-- ---- of one application

module _ {K C : Type 0} (cmp : K → K → Ordering) (eq : C → C → Bool) (key : K → Attribute) (content : C → Option MsrpContent) where
  abbrev word : K → List ℕ
  word k = attribute_text (key k)

  abbrev words : C → List ℕ
  words c = content_or_none (content c)

  owed : (at : Cs) (way : WayState K C) (k : K) → IsQuiet (owed_text word at way k)
  owed at way k =
      quiet _ _ (alone (Leaves at way.speaker (key k) (until_of at way))) (alone (Owes at way.speaker (key k) (until_of at way)))

  begun : (at : Cs) (leave_all : Bool) (way : WayState K C) → IsQuiet (begun_text word at leave_all way)
  begun at leave_all way =
      quiet_where leave_all _ (quiet_all (leaving_text word at way) (λ r. quiet_where _ _ (owed at way r.key)) way.observer.rows)

  gone : (at : Cs) (way : WayState K C) (k : K) → IsQuiet (gone_text cmp word at way k)
  gone at way k =
      quiet _ _ (alone (Gone at way.speaker (key k))) (quiet_unless (is_awaiting cmp k way.withdrawn) _ (alone (LetsGo at way.speaker (key k))))

  passing : (at : Cs) (way : WayState K C) → IsQuiet (passing_text cmp word at way)
  passing at way = quiet_all (gone_text cmp word at way) (gone at way) (left_keys at way.observer)

  ways_passing : (at : Cs) (w : Ways K C) → IsQuiet (ways_passing_text cmp word at w)
  ways_passing at w = quiet _ _ (passing at w.from_a) (passing at w.from_b)

  joining : (at : Cs) (way : WayState K C) (k : K) (c : C) → IsQuiet (joining_text cmp eq word words at way k c)
  joining at way k c = quiet_unless _ _ (alone (Stands at way.speaker (key k) (content c)))

  heard : (at : Cs) (way : WayState K C) (event : MrpEvent) (k : K) (c : C) → IsQuiet (heard_text cmp eq word words at way event k c)
  heard at way New k c = joining at way k c
  heard at way JoinIn k c = joining at way k c
  heard at way OnlyIn k c = blank
  heard at way JoinMt k c = joining at way k c
  heard at way OnlyMt k c = blank
  heard at way Lv k c = quiet_where _ _ (alone (Leaves at way.speaker (key k) (until_of at way)))

  all_heard : (at : Cs) (events : List (MrpEvent × K × C)) (way : WayState K C) → IsQuiet (all_heard_text cmp eq word words at way events)
  all_heard at [] way = blank
  all_heard at (e ∷ events) way = quiet _ _ (heard at way e.0 e.1 e.2) (all_heard at events (hearing_way cmp at way e))

  all_arriving : (at : Cs) (on_way : List (End × Messages K C)) (w : Ways K C) → IsQuiet (all_arriving_text cmp eq word words at w on_way)
  all_arriving at [] w = blank
  all_arriving at (x ∷ on_way) w =
      quiet _ _
      (quiet _ _ (begun at x.1.leave_all (way_of x.0 w)) (all_heard at x.1.events (begun_way cmp at x.1.leave_all (way_of x.0 w))))
      (all_arriving at on_way (said_arriving cmp at w x))

  arriving : (at : Cs) (l : LinkState K C) → IsQuiet (arriving_text cmp eq word words at l)
  arriving at l = all_arriving at l.on_way l.ways

  kept : (at : Cs) (w : Ways K C) (x : End × (MrpEvent × K × C)) → IsQuiet (kept_text cmp word at w x)
  unfolding kept_text
  kept at w x =
      let way = way_of (other_end x.0) w in
      quiet_where (is_broken cmp way x.1) _ (alone (Denied at (other_end way.speaker) x.1.0 (key x.1.1) (is_held cmp way x.1.1)))

  judging : (at : Cs) (l : LinkState K C) → IsQuiet (judging_text cmp word at l)
  judging at l = quiet_all (kept_text cmp word at l.ways) (kept at l.ways) l.kept

-- VIDs and groups have no content
abbrev no_content : Unit {0} → Option MsrpContent
no_content _ = None

-- ---- of all applications

passed_quiet : (at : Cs) (w : Watched) → IsQuiet (watched_passing_text at w)
unfolding watched_passing_text
passed_quiet at w =
    quiet _ _ (ways_passing nat_cmp same_nothing Vlan no_content at w.vlans.ways)
    (quiet _ _ (ways_passing key_cmp same_content Stream Some at w.streams.ways) (ways_passing nat_cmp same_nothing Group no_content at w.groups.ways))

arriving_quiet : (at : Cs) (w : Watched) → IsQuiet (watched_arriving_text at w)
unfolding watched_arriving_text
arriving_quiet at w =
    quiet _ _ (arriving nat_cmp same_nothing Vlan no_content at w.vlans)
    (quiet _ _ (arriving key_cmp same_content Stream Some at w.streams) (arriving nat_cmp same_nothing Group no_content at w.groups))

judging_quiet : (at : Cs) (w : Watched) → IsQuiet (watched_judging_text at w)
unfolding watched_judging_text
judging_quiet at w =
    quiet _ _ (judging nat_cmp same_nothing Vlan no_content at w.vlans)
    (quiet _ _ (judging key_cmp same_content Stream Some at w.streams) (judging nat_cmp same_nothing Group no_content at w.groups))

-- ---- a frame when it is seen

vlans_quiet : (at : Cs) (who : End) (w : Watched) (r : Result MvrpPdu ℕ) → IsQuiet (vlans_text at who r w)
unfolding vlans_text
vlans_quiet at who w (Ok pdu) = begun nat_cmp same_nothing Vlan no_content at pdu.leave_all (way_of (other_end who) w.vlans.ways)
vlans_quiet at who w (Err place) = alone (Malformed at who Mvrp place)

doubles_quiet : (at : Cs) (who : End) (events : List StreamEvent) → IsQuiet (doubles_text at who events)
unfolding doubles_text
doubles_quiet at who events =
    quiet_all (double_text at who (advertised events)) (λ e. quiet_where (is_double (advertised events) e) _ (alone (Twice at who e.1))) events

streams_quiet : (at : Cs) (who : End) (w : Watched) (r : Result MsrpPdu ℕ) → IsQuiet (streams_text at who r w)
unfolding streams_text
streams_quiet at who w (Ok pdu) =
    quiet _ _ (doubles_quiet at who pdu.events)
    (begun key_cmp same_content Stream Some at pdu.leave_all (way_of (other_end who) w.streams.ways))
streams_quiet at who w (Err place) = alone (Malformed at who Msrp place)

groups_quiet : (at : Cs) (who : End) (w : Watched) (r : Result GroupPdu ℕ) → IsQuiet (groups_text at who r w)
unfolding groups_text
groups_quiet at who w (Ok pdu) = begun nat_cmp same_nothing Group no_content at pdu.leave_all (way_of (other_end who) w.groups.ways)
groups_quiet at who w (Err place) = alone (Malformed at who Mmrp place)

octets_quiet : (at : Cs) (who : End) (w : Watched) (app : AppForm) (octets : List ℕ) → IsQuiet (octets_text at who app octets w)
unfolding octets_text
octets_quiet at who w Mvrp octets = vlans_quiet at who w (mvrp_reading octets)
octets_quiet at who w Msrp octets = streams_quiet at who w (msrp_reading octets)
octets_quiet at who w Mmrp octets = groups_quiet at who w (mmrp_reading octets)

from_quiet : (at : Cs) (p : Packet) (seen : Seen) (who : Option End) (w : Watched) → IsQuiet (from_text at p seen who w)
unfolding from_text said_text
from_quiet at p seen None w = alone (Other at seen.address)
from_quiet at p seen (Some who) w =
    quiet_either (nat_lt (length p.octets) p.whole) _ _ (alone (CutOff at who seen.app (length p.octets) p.whole)) (octets_quiet at who w seen.app seen.pdu)

frame_quiet : (ends : Ends) (at : Cs) (p : Packet) (found : Option Seen) (w : Watched) → IsQuiet (frame_text ends at p found w)
unfolding frame_text
frame_quiet ends at p None w = blank
frame_quiet ends at p (Some seen) w = from_quiet at p seen (end_at ends seen.address) w

-- ---- what follows of the streams

passes_quiet : (at : Cs) (who : End) (cap sum : ℕ) → IsQuiet (passes_text at who cap sum)
unfolding passes_text
passes_quiet at who cap sum = quiet_where (nat_lt cap sum) _ (alone (Passes at who cap _))

change_list : (at : Cs) (port : End) (cs : List Change)
    → PrintsChanges (flat_map (change_line at port) cs) (λ who. flat_map (change_at who port) cs)
change_list at port [] = blank
change_list at port (c ∷ cs) = both _ _ _ _ (alone (Changed at port c)) (change_list at port cs)

port_changes : (at : Cs) (port : End) (caps : Caps) (before after : List Booking)
    → PrintsChanges (changes_text at port caps before after) (λ who. flat_map (change_at who port) (changes_to before after) ++ [])
unfolding caps_text
port_changes at port caps before after =
    as_text _ _ _ (change_lines at port caps before after)
    (both _ _ _ (λ who. []) (change_list at port (changes_to before after))
    (quiet_where (has_new before after) _ (quiet _ _ (passes_quiet at port caps.class_a (sum_in_a after)) (passes_quiet at port caps.both (sum_of after)))))

each : (who : End) (cs : List Change) → flat_map (change_at who who) cs ≡ cs
each at_end.A [] = refl
each at_end.A (c ∷ cs) = ap (λ (more : List Change). c ∷ more) (each at_end.A cs)
each at_end.B [] = refl
each at_end.B (c ∷ cs) = ap (λ (more : List Change). c ∷ more) (each at_end.B cs)

no_a : (cs : List Change) → flat_map (change_at at_end.B at_end.A) cs ≡ []
no_a [] = refl
no_a (c ∷ cs) = no_a cs

no_b : (cs : List Change) → flat_map (change_at at_end.A at_end.B) cs ≡ []
no_b [] = refl
no_b (c ∷ cs) = no_b cs

followed : (at : Cs) (caps : Caps) (before after : StreamWays)
    → PrintsChanges (followed_text at caps before after) (λ who. ways_changes who before after)
followed at caps before after =
    as_changes _ (λ who. (of_a who ++ []) ++ (of_b who ++ [])) (λ who. ways_changes who before after) of_port
    (both _ _ (λ who. of_a who ++ []) (λ who. of_b who ++ [])
    (port_changes at at_end.A caps (bookings_of at_end.A before) (bookings_of at_end.A after))
    (port_changes at at_end.B caps (bookings_of at_end.B before) (bookings_of at_end.B after)))
  where
    of_a : End → List Change
    of_a who = flat_map (change_at who at_end.A) (ways_changes at_end.A before after)

    of_b : End → List Change
    of_b who = flat_map (change_at who at_end.B) (ways_changes at_end.B before after)

    joined : (x y a b : List Change) → x ≡ a → y ≡ b → (x ++ []) ++ (y ++ []) ≡ a ++ b
    joined x y a b one other =
        ap (λ (cs : List Change). cs ++ (y ++ [])) (append-nil x ∙ one) ∙ ap (λ (cs : List Change). a ++ cs) (append-nil y ∙ other)

    of_port : (who : End) → (of_a who ++ []) ++ (of_b who ++ []) ≡ ways_changes who before after
    of_port at_end.A =
        joined (of_a at_end.A) (of_b at_end.A) (ways_changes at_end.A before after) [] (each at_end.A (ways_changes at_end.A before after)) (no_b (ways_changes at_end.B before after))
        ∙ append-nil (ways_changes at_end.A before after)
    of_port at_end.B =
        joined (of_a at_end.B) (of_b at_end.B) [] (ways_changes at_end.B before after) (no_a (ways_changes at_end.A before after)) (each at_end.B (ways_changes at_end.B before after))

-- ---- along a replay

on_arrival : (caps : Caps) (s : LinkSeen) → PrintsChanges (arrived_text caps s) (λ who. arrived_changes who s)
unfolding arrived_text
on_arrival caps s =
    as_changes _ (λ who. [] ++ (arrived_changes who s ++ ([] ++ []))) (λ who. arrived_changes who s) (λ who. append-nil (arrived_changes who s))
    (both _ _ (λ who. []) (λ who. arrived_changes who s ++ ([] ++ [])) (arriving_quiet (next_cs s.at) s.watched)
    (both _ _ (λ who. arrived_changes who s) (λ who. [] ++ [])
    (followed (next_cs s.at) caps s.watched.streams.ways (arrived s).streams.ways)
    (quiet _ _ (judging_quiet s.at (arrived s)) blank)))

on_passing : (caps : Caps) (s : LinkSeen) (at : Cs) → PrintsChanges (passed_text caps s at) (λ who. passed_changes who s at)
unfolding passed_text
on_passing caps s at =
    both _ _ (λ who. []) (λ who. passed_changes who s at) (passed_quiet at s.watched)
    (followed at caps s.watched.streams.ways (watched_passing at s.watched).streams.ways)

on_all_passing : (caps : Caps) (moments : List Cs) (s : LinkSeen) → PrintsChanges (all_passed_text caps s moments) (λ who. all_passed_changes who s moments)
on_all_passing caps [] s = blank
on_all_passing caps (at ∷ moments) s =
    both _ _ (λ who. passed_changes who s at) (λ who. all_passed_changes who (seen_passing s at) moments)
    (on_passing caps s at) (on_all_passing caps moments (seen_passing s at))

on_later : (caps : Caps) (at : Cs) (s : LinkSeen) → PrintsChanges (later_text caps at s) (λ who. later_changes who at s)
unfolding later_text
on_later caps at s =
    both _ _ (λ who. arrived_changes who s) (λ who. all_passed_changes who (seen_arriving s) (ending_by at s))
    (on_arrival caps s) (on_all_passing caps (ending_by at s) (seen_arriving s))

on_by : (later : Bool) (caps : Caps) (at : Cs) (s : LinkSeen)
    → PrintsChanges (if later then later_text caps at s else []) (λ who. if later then later_changes who at s else [])
on_by true caps at s = on_later caps at s
on_by false caps at s = blank

on_at : (caps : Caps) (at : Cs) (s : LinkSeen) → PrintsChanges (at_text caps at s) (λ who. changes_at who at s)
unfolding at_text
on_at caps at s = on_by (nat_lt s.at.0 at.0) caps at s

on_packet : (caps : Caps) (ends : Ends) (s : LinkSeen) (p : Packet) → PrintsChanges (packet_text caps ends s p) (λ who. changes_at who (moment_after s.at p) s)
unfolding packet_text
on_packet caps ends s p =
    let at = moment_after s.at p in
    as_changes _ (λ who. changes_at who at s ++ []) (λ who. changes_at who at s) (λ who. append-nil (changes_at who at s))
    (both _ _ (λ who. changes_at who at s) (λ who. []) (on_at caps at s) (frame_quiet ends at p (frame_in p) (seen_at at s).watched))

pub on_frames : (caps : Caps) (ends : Ends) (ps : List Packet) (s : LinkSeen)
    → PrintsChanges (packets_text caps ends s ps) (λ who. packets_changes who ends s ps)
on_frames caps ends [] s = blank
on_frames caps ends (p ∷ ps) s =
    both _ _ (λ who. changes_at who (moment_after s.at p) s) (λ who. packets_changes who ends (after_packet ends s p) ps)
    (on_packet caps ends s p) (on_frames caps ends ps (after_packet ends s p))

-- with what is on its way behind the last
on_run : (caps : Caps) (ends : Ends) (s : LinkSeen) (ps : List Packet) → PrintsChanges (run_text caps ends s ps) (run_changes ends s ps)
unfolding run_text
on_run caps ends s ps =
    both _ _ (λ who. packets_changes who ends s ps) (λ who. arrived_changes who (after_packets ends s ps))
    (on_frames caps ends ps s) (on_arrival caps (after_packets ends s ps))

broken_quiet : (broken_off : Option ℕ) → IsQuiet (broken_line broken_off)
broken_quiet None = blank
broken_quiet (Some place) = alone (BreaksOff place)

-- the whole print
pub on_capture : (head : Head) (ps : List Packet) (broken_off : Option ℕ)
    → PrintsChanges (capture_text head (Ok (ps, broken_off))) (run_changes (ends_of head.ends ps) (new_seen head.leave_time) ps)
unfolding capture_text
on_capture head ps broken_off =
    let ends = ends_of head.ends ps in
    let s = new_seen head.leave_time in
    as_changes _ (λ who. run_changes ends s ps who ++ ([] ++ ([] ++ []))) (run_changes ends s ps) (λ who. append-nil (run_changes ends s ps who))
    (both _ _ (run_changes ends s ps) (λ who. [] ++ ([] ++ [])) (on_run head.caps ends s ps)
    (quiet _ _ (broken_quiet broken_off) (quiet _ _ (alone (Counted (after_run ends s ps).counts)) blank)))

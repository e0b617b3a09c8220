-- What followed of a link's streams: which of them are booked at the port at an end, that is, what
-- stands at both ends of their Talkers and Listeners (IEEE Std 802.1Q-2018, 35.2.4), and how that
-- stands to the caps of the port.
use Rattle.std.specs.Prelude.{ℕ, ◌-◌, ◌==◌, Bool, not, nat_lt, if◌then◌else◌, List, [], ◌∷◌, ◌++◌, flat_map, sum_by, codes, Option, Some, None, option_map, option_to_list}
use Rattle.std.specs.{declared.cmp.Ordering.Ordering, Fmt.decimal, List.list_any}
use Rattle.srp_base.specs.{Hexadecimal.hex16_text, Text.whole_of}
use Rattle.srp_base.specs.declared.{bandwidth.Class.Class, bandwidth.Class.TheVariants.A, bandwidth.Class.TheVariants.B, numbers.Cs.Cs, streams.Talker.Talker}
use Rattle.stream_importance.specs.declared.slope.Caps.{Caps}
use Rattle.stream_importance.specs.{Bandwidth.slope_of_frames, Importance.class_number}
use Rattle.attribute_propagation.specs.Dirty.{is_awaiting, all_marked}
use Rattle.link_replay.specs.declared.lines.End.{End}
use Rattle.link_replay.specs.declared.lines.End.TheVariants as ends
use Rattle.link_replay.specs.{Moments.moment_text, Lines.other_end, Lines.end_name, BothWays.Ways, BothWays.way_of}
use Rattle.mrp_participant.specs.{declared.row.Row.Row, Lookup.find, Row.registered_in}
use Rattle.msrp.specs.{Part.key_cmp, Part.listener_kind_of, Stream.is_ready}
use Rattle.msrp_codec.specs.declared.pdu.{MsrpKey.MsrpKey, MsrpContent.MsrpContent}
use Rattle.msrp_codec.specs.declared.pdu.MsrpKey.TheVariants as keys
use Rattle.msrp_codec.specs.declared.pdu.MsrpContent.TheVariants.{Advertise, Failed, Listener, Domain}
use Rattle.msrp_talker.specs.TalkerOut.{class_of_priority}
use Rattle.replay_words.specs.declared.booking.Booking.{Booking}
use Rattle.replay_words.specs.contracts.booking.BookingOrd.TheImpl.{ghosts as booking_order}

-- the order of bookings: by StreamID first
abbrev pub booking_cmp : Booking → Booking → Ordering
booking_cmp = booking_order.cmp

-- the ways of MSRP
abbrev pub StreamWays : Type 0
StreamWays = Ways MsrpKey MsrpContent

-- ---- which streams are booked

-- what a Talker asks of a port in a class (34.4)
abbrev pub booking_in : Talker → Class → Booking
booking_in t class = record { stream = t.stream; class = class; slope = slope_of_frames class t.max_frame t.frames }

-- what a Talker Advertise asks of a port, where its priority has an SR class
abbrev pub asked_by : Option MsrpContent → List Booking
asked_by None = []
asked_by (Some (Advertise t)) = option_to_list (option_map (booking_in t) (class_of_priority t.priority))
asked_by (Some (Failed t failure)) = []
asked_by (Some (Listener kind)) = []
asked_by (Some (Domain priority vid)) = []

-- what stands, at the other end, of a key that an end declares
abbrev pub standing_at : StreamWays → End → MsrpKey → Option MsrpContent
standing_at w speaker key = registered_in (find key_cmp key (way_of speaker w).observer.rows)

-- the booking at an end of a stream, where its Talker Advertise stands at the other end, and at this
-- one a Listener Ready or Ready Failed
unfoldable pub booked_at : StreamWays → End → MsrpKey → List Booking
booked_at w who (keys.Talker stream) =
    if is_ready (listener_kind_of (standing_at w (other_end who) (keys.Listener stream))) then asked_by (standing_at w who (keys.Talker stream))
    else []
booked_at w who (keys.Listener stream) = []
booked_at w who (keys.Domain class) = []

-- the same of a row
abbrev pub row_booked : StreamWays → End → Row MsrpKey MsrpContent → List Booking
row_booked w who r = booked_at w who r.key

-- the bookings of the port at an end, each once
unfoldable pub bookings_of : End → StreamWays → List Booking
bookings_of who w = all_marked booking_cmp (flat_map (row_booked w who) (way_of who w).observer.rows) []

-- ---- lines

-- an SR class by its name
abbrev pub class_name : Class → List ℕ
class_name A = codes "A"
class_name B = codes "B"

-- `T a>b`: of the port at a
abbrev pub port_front : Cs → End → List ℕ
port_front at who = whole_of (moment_text at ∷ codes " " ∷ end_name who ∷ codes ">" ∷ end_name (other_end who) ∷ codes " " ∷ [])

-- `T a>b booked ID A slope S`: the stream takes so many bit/s of the port at a
abbrev pub booked_line : Cs → End → Booking → List ℕ
booked_line at who b = whole_of (
    port_front at who ∷ codes "booked " ∷ hex16_text b.stream.0 ∷ codes " " ∷ class_name b.class ∷ codes " slope " ∷ decimal b.slope
    ∷ codes "\n" ∷ [])

-- `T a>b dropped ID`: it takes that no more
abbrev pub dropped_line : Cs → End → Booking → List ℕ
dropped_line at who b = whole_of (port_front at who ∷ codes "dropped " ∷ hex16_text b.stream.0 ∷ codes "\n" ∷ [])

-- `T a>b passes cap C by N`: the bookings come to so many bit/s more than a cap of the port at a
abbrev pub passes_line : Cs → End → ℕ → ℕ → List ℕ
passes_line at who cap over = whole_of (port_front at who ∷ codes "passes cap " ∷ decimal cap ∷ codes " by " ∷ decimal over ∷ codes "\n" ∷ [])

-- ---- what changes

-- of a booking that may be gone
abbrev pub dropped_text : Cs → End → List Booking → Booking → List ℕ
dropped_text at who after b = if is_awaiting booking_cmp b after then [] else dropped_line at who b

-- of a booking that may be new
abbrev pub booked_text : Cs → End → List Booking → Booking → List ℕ
booked_text at who before b = if is_awaiting booking_cmp b before then [] else booked_line at who b

-- of a sum of slopes beside a cap
unfoldable pub passes_text : Cs → End → ℕ → ℕ → List ℕ
passes_text at who cap sum = if nat_lt cap sum then passes_line at who cap (sum - cap) else []

-- the slope of a booking in class A, else 0
abbrev pub slope_in_a : Booking → ℕ
slope_in_a b = if class_number b.class == 0 then b.slope else 0

-- of all bookings together
unfoldable pub sum_in_a : List Booking → ℕ
sum_in_a bookings = sum_by slope_in_a bookings

-- the slopes of all bookings together
unfoldable pub sum_of : List Booking → ℕ
sum_of bookings = sum_by (λ b. b.slope) bookings

-- of all bookings beside the caps of the port (34.3)
unfoldable pub caps_text : Cs → End → Caps → List Booking → List ℕ
caps_text at who caps bookings =
    passes_text at who caps.class_a (sum_in_a bookings) ++ passes_text at who caps.both (sum_of bookings)

-- whether a booking is new
abbrev pub has_new : List Booking → List Booking → Bool
has_new before after = list_any (λ b. not (is_awaiting booking_cmp b before)) after

-- of the bookings of the port at an end, before and after what happens: what is gone, what is new, and
-- where something is new what passes the caps
unfoldable pub changes_text : Cs → End → Caps → List Booking → List Booking → List ℕ
changes_text at who caps before after =
    whole_of (
    flat_map (dropped_text at who after) before ∷ flat_map (booked_text at who before) after
    ∷ (if has_new before after then caps_text at who caps after else []) ∷ [])

-- ---- at both ends

-- of the ways before and after what happens
abbrev pub followed_text : Cs → Caps → StreamWays → StreamWays → List ℕ
followed_text at caps before after =
    changes_text at ends.A caps (bookings_of ends.A before) (bookings_of ends.A after)
    ++ changes_text at ends.B caps (bookings_of ends.B before) (bookings_of ends.B after)

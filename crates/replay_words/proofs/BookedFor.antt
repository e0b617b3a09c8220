-- A booking is in the set of a port exactly where it is one of a stream that stands at both ends.
use Rattle.std.proofs.Common.{◌≡◌, ◌∙◌, Bool, true, false, if◌then◌else◌, List, [], ◌∷◌, ◌++◌, refl, ap, sym, arith}
use Rattle.std.specs.Prelude.{◌||◌, flat_map, option_map, option_to_list, Option, Some, None}
use Rattle.std.specs.{Ordering.is_eq}
use Rattle.std.proofs.lemmas.Bool.Decides.{nat_tests}
use Rattle.srp_base.specs.declared.{bandwidth.Class.Class, numbers.StreamId.StreamId, streams.Talker.Talker, streams.ListenerKind.ListenerKind}
use Rattle.srp_base.specs.declared.streams.ListenerKind.TheVariants.{AskingFailed, Ready, ReadyFailed}
use Rattle.attribute_propagation.specs.Dirty.{is_awaiting, all_marked}
use Rattle.link_replay.specs.declared.lines.End.{End}
use Rattle.link_replay.specs.{Lines.other_end, BothWays.way_of}
use Rattle.mrp_participant.specs.declared.row.Row.{Row}
use Rattle.mrp_participant.specs.{Lookup.same, Lookup.find, Row.registered_in}
use Rattle.msrp.specs.Part.{key_cmp, listener_kind_of}
use Rattle.msrp.specs.Stream.{is_ready, is_ready_kind}
use Rattle.msrp_codec.specs.declared.pdu.{MsrpKey.MsrpKey, MsrpContent.MsrpContent}
use Rattle.msrp_codec.specs.declared.pdu.MsrpKey.TheVariants as keys
use Rattle.msrp_codec.specs.declared.pdu.MsrpContent.TheVariants.{Advertise, Failed, Listener, Domain}
use Rattle.msrp_talker.specs.TalkerOut.{class_of_priority}
use Rattle.replay_words.specs.declared.booking.Booking.{Booking}
use Rattle.replay_words.specs.{booking_cmp, booking_in, StreamWays, asked_by, standing_at, booked_at, row_booked, bookings_of, IsBookedFor}
use Rattle.replay_words.proofs.Ledgers.{one_booking}

pub one_key : (a b : MsrpKey) → same key_cmp a b ≡ true → a ≡ b
one_key a b h = grind (arith, nat_tests)

same_booking : (b : Booking) → is_eq (booking_cmp b b) ≡ true
same_booking b = grind (arith, nat_tests)

or_nothing : (b : Bool) → (b || false) ≡ true → b ≡ true
or_nothing true h = refl
or_nothing false h = cc

or_first : (a b : Bool) → a ≡ true → (a || b) ≡ true
or_first true b h = refl
or_first false b h = cc

or_true : (a b : Bool) → b ≡ true → (a || b) ≡ true
or_true true b h = refl
or_true false b h = h

in_both : (b : Booking) (us vs : List Booking) → is_awaiting booking_cmp b (us ++ vs) ≡ (is_awaiting booking_cmp b us || is_awaiting booking_cmp b vs)
in_both b [] vs = refl
in_both b (x ∷ us) vs = ap (λ (y : Bool). is_eq (booking_cmp x b) || y) (in_both b us vs) ∙ grouped (is_eq (booking_cmp x b)) _ _
  where
    grouped : (a b c : Bool) → (a || (b || c)) ≡ ((a || b) || c)
    grouped true b c = refl
    grouped false b c = refl

module _ (who : End) (w : StreamWays) (b : Booking) where
  -- ---- a booking that is there is of a stream

  by_class : (stream : StreamId) (t : Talker) (kind : ListenerKind) (found : Option Class) → class_of_priority t.priority ≡ found
      → standing_at w who (keys.Talker stream) ≡ Some (Advertise t) → standing_at w (other_end who) (keys.Listener stream) ≡ Some (Listener kind)
      → is_ready_kind kind ≡ true → is_awaiting booking_cmp b (option_to_list (option_map (booking_in t) found)) ≡ true → IsBookedFor who w b
  by_class stream t kind None class_is advertised asked_for ready h = cc
  by_class stream t kind (Some class) class_is advertised asked_for ready h = record {
    stream = stream;
    talker = t;
    class = class;
    kind = kind;
    advertised = advertised;
    class_is = class_is;
    asked_for = asked_for;
    ready = ready;
    takes = sym (one_booking (booking_in t class) b (or_nothing _ h));
  }

  by_talker : (stream : StreamId) (found : Option MsrpContent) (kind : ListenerKind) → standing_at w who (keys.Talker stream) ≡ found
      → standing_at w (other_end who) (keys.Listener stream) ≡ Some (Listener kind)
      → is_ready_kind kind ≡ true → is_awaiting booking_cmp b (asked_by found) ≡ true → IsBookedFor who w b
  by_talker stream None kind advertised asked_for ready h = cc
  by_talker stream (Some (Advertise t)) kind advertised asked_for ready h =
      by_class stream t kind (class_of_priority t.priority) refl advertised asked_for ready h
  by_talker stream (Some (Failed t failure)) kind advertised asked_for ready h = cc
  by_talker stream (Some (Listener other)) kind advertised asked_for ready h = cc
  by_talker stream (Some (Domain priority vid)) kind advertised asked_for ready h = cc

  by_kind : (stream : StreamId) (kind : ListenerKind) → standing_at w (other_end who) (keys.Listener stream) ≡ Some (Listener kind)
      → is_awaiting booking_cmp b (if is_ready_kind kind then asked_by (standing_at w who (keys.Talker stream)) else []) ≡ true → IsBookedFor who w b
  by_kind stream AskingFailed asked_for h = cc
  by_kind stream Ready asked_for h = by_talker stream (standing_at w who (keys.Talker stream)) Ready refl asked_for refl h
  by_kind stream ReadyFailed asked_for h = by_talker stream (standing_at w who (keys.Talker stream)) ReadyFailed refl asked_for refl h

  by_listener : (stream : StreamId) (found : Option MsrpContent) → standing_at w (other_end who) (keys.Listener stream) ≡ found
      → is_awaiting booking_cmp b (if is_ready (listener_kind_of found) then asked_by (standing_at w who (keys.Talker stream)) else []) ≡ true → IsBookedFor who w b
  by_listener stream None asked_for h = cc
  by_listener stream (Some (Advertise t)) asked_for h = cc
  by_listener stream (Some (Failed t failure)) asked_for h = cc
  by_listener stream (Some (Listener kind)) asked_for h = by_kind stream kind asked_for h
  by_listener stream (Some (Domain priority vid)) asked_for h = cc

  of_key : (k : MsrpKey) → is_awaiting booking_cmp b (booked_at w who k) ≡ true → IsBookedFor who w b
  unfolding booked_at
  of_key (keys.Talker stream) h = by_listener stream (standing_at w (other_end who) (keys.Listener stream)) refl h
  of_key (keys.Listener stream) h = cc
  of_key (keys.Domain class) h = cc

  of_row : (here : Bool) (r : Row MsrpKey MsrpContent) (rest : Bool) → is_awaiting booking_cmp b (booked_at w who r.key) ≡ here
      → (here || rest) ≡ true → (rest ≡ true → IsBookedFor who w b) → IsBookedFor who w b
  of_row true r rest is h later = of_key r.key is
  of_row false r rest is h later = later h

  of_rows : (rows : List (Row MsrpKey MsrpContent)) → is_awaiting booking_cmp b (flat_map (row_booked w who) rows) ≡ true → IsBookedFor who w b
  of_rows [] h = cc
  of_rows (r ∷ rows) h =
      of_row (is_awaiting booking_cmp b (booked_at w who r.key)) r (is_awaiting booking_cmp b (flat_map (row_booked w who) rows)) refl
      (sym (in_both b (booked_at w who r.key) (flat_map (row_booked w who) rows)) ∙ h) (of_rows rows)

  -- ---- and the other way round

  in_row : (one : Bool) (k : MsrpKey) (c : MsrpContent) (r : Row MsrpKey MsrpContent) (rows : List (Row MsrpKey MsrpContent)) → same key_cmp r.key k ≡ one
      → registered_in (if one then Some r else find key_cmp k rows) ≡ Some c → is_awaiting booking_cmp b (booked_at w who k) ≡ true
      → (registered_in (find key_cmp k rows) ≡ Some c → is_awaiting booking_cmp b (flat_map (row_booked w who) rows) ≡ true)
      → (is_awaiting booking_cmp b (booked_at w who r.key) || is_awaiting booking_cmp b (flat_map (row_booked w who) rows)) ≡ true
  in_row true k c r rows is there booked later =
      or_first _ _ (ap (λ (x : MsrpKey). is_awaiting booking_cmp b (booked_at w who x)) (one_key r.key k is) ∙ booked)
  in_row false k c r rows is there booked later = or_true _ _ (later there)

  in_rows : (k : MsrpKey) (c : MsrpContent) (rows : List (Row MsrpKey MsrpContent)) → registered_in (find key_cmp k rows) ≡ Some c
      → is_awaiting booking_cmp b (booked_at w who k) ≡ true → is_awaiting booking_cmp b (flat_map (row_booked w who) rows) ≡ true
  in_rows k c [] there booked = cc
  in_rows k c (r ∷ rows) there booked =
      in_both b (booked_at w who r.key) (flat_map (row_booked w who) rows)
      ∙ in_row (same key_cmp r.key k) k c r rows refl there booked (λ h. in_rows k c rows h booked)

  is_booked : (is : IsBookedFor who w b) → is_awaiting booking_cmp b (booked_at w who (keys.Talker is.stream)) ≡ true
  unfolding booked_at
  is_booked is =
      ap (λ (found : Option MsrpContent). is_awaiting booking_cmp b (if is_ready (listener_kind_of found) then asked_by (standing_at w who (keys.Talker is.stream)) else [])) is.asked_for
      ∙ ap (λ (ready : Bool). is_awaiting booking_cmp b (if ready then asked_by (standing_at w who (keys.Talker is.stream)) else [])) is.ready
      ∙ ap (λ (found : Option MsrpContent). is_awaiting booking_cmp b (asked_by found)) is.advertised
      ∙ ap (λ (class : Option Class). is_awaiting booking_cmp b (option_to_list (option_map (booking_in is.talker) class))) is.class_is
      ∙ ap (λ (x : Booking). is_awaiting booking_cmp b (x ∷ [])) (sym is.takes)
      ∙ or_first _ _ (same_booking b)

  module _ (all : (k : Booking) (more set : List Booking)
      → is_awaiting booking_cmp k (all_marked booking_cmp more set) ≡ (is_awaiting booking_cmp k more || is_awaiting booking_cmp k set)) where
    pub only : is_awaiting booking_cmp b (bookings_of who w) ≡ true → IsBookedFor who w b
    unfolding bookings_of
    only h = of_rows (way_of who w).observer.rows (or_nothing _ (sym (all b (flat_map (row_booked w who) (way_of who w).observer.rows) []) ∙ h))

    pub each : IsBookedFor who w b → is_awaiting booking_cmp b (bookings_of who w) ≡ true
    unfolding bookings_of
    each is =
        all b (flat_map (row_booked w who) (way_of who w).observer.rows) []
        ∙ or_first _ _ (in_rows (keys.Talker is.stream) (Advertise is.talker) (way_of who w).observer.rows is.advertised (is_booked is))

-- What a reader of the lines of bookings has booked is what is.
use Rattle.std.proofs.Common.{◌≡◌, ◌∙◌, ℕ, Bool, true, false, not, if◌then◌else◌, List, [], ◌∷◌, ◌++◌, map, filter, length, refl, ap, sym, append_assoc, append-nil, arith}
use Rattle.std.specs.Prelude.{◌||◌, ◌&&◌, nat_lt, flat_map, Option, Some, None, Result, Ok, Err}
use Rattle.std.specs.{Ordering.is_eq}
use Rattle.std.proofs.lemmas.Bool.Decides.{nat_tests}
use Rattle.std.proofs.lemmas.List.Sums.{fold-append}
use Rattle.srp_base.specs.declared.{numbers.Cs.Cs}
use Rattle.attribute_propagation.specs.Dirty.{is_awaiting, with_key, without_key, all_marked}
use Rattle.capture_file.specs.Packets.{Packet}
use Rattle.link_replay.specs.declared.lines.End.{End}
use Rattle.link_replay.specs.declared.lines.End.TheVariants as at_end
use Rattle.link_replay.specs.{BothWays.ways_saying, BothWays.begun_way, Way.WayState}
use Rattle.mrp_frames.specs.Frames.{Seen, frame_in}
use Rattle.mrp_participant.specs.declared.row.Row.{Row}
use Rattle.mrp_participant.specs.{Lookup.same, Lookup.find, Row.leave_all_row, Row.registered_in, State.Messages}
use Rattle.mrpdu_codec.specs.declared.form.AppForm.{AppForm}
use Rattle.mrpdu_codec.specs.declared.form.AppForm.TheVariants.{Mvrp, Msrp, Mmrp}
use Rattle.msrp.specs.Part.{key_cmp, listener_kind_of}
use Rattle.msrp.specs.Stream.{is_ready}
use Rattle.msrp_codec.specs.Meaning.{msrp_reading}
use Rattle.msrp_codec.specs.declared.pdu.{MsrpKey.MsrpKey, MsrpContent.MsrpContent, MsrpPdu.MsrpPdu}
use Rattle.msrp_codec.specs.declared.pdu.MsrpKey.TheVariants as keys
use Rattle.mvrp_codec.specs.{Meaning.mvrp_reading, declared.pdu.MvrpPdu.MvrpPdu}
use Rattle.mmrp_codec.specs.{Meaning.mmrp_reading, declared.pdu.GroupPdu.GroupPdu}
use Rattle.registrar.specs.declared.Registrar.{Registrar}
use Rattle.registrar.specs.declared.Registrar.TheVariants.{Held, Leaving, Empty}
use Rattle.registrar.specs.declared.RegEvent.TheVariants.{RxLeaveAll}
use Rattle.registrar.specs.Table as registrar
use Rattle.stream_importance.specs.declared.slope.Caps.{Caps}
use Rattle.replay_words.specs.declared.{booking.Booking.Booking, ends.Ends.Ends}
use Rattle.replay_words.specs.{booking_cmp, StreamWays, asked_by, booked_at, row_booked, bookings_of, dropped_line, booked_line, dropped_text, booked_text, has_new, caps_text, changes_text, stream_messages, end_at, Watched.Watched, watched_passing, watched_judged, after_vlans, after_streams, after_groups, after_octets, LinkSeen, moment_after, arrived, seen_arriving, seen_passing, all_passing, ending_by, seen_later, seen_at, after_said, seen_said, seen_from, seen_frame, after_packet, after_packets, Change, Change.Drops, Change.Books, change_line, after_change, after_changes, changes_to, ways_changes, arrived_changes, passed_changes, all_passed_changes, later_changes, changes_at, packets_changes, after_run, run_changes}

-- ---- bookings that compare equal are one

pub one_booking : (a b : Booking) → is_eq (booking_cmp a b) ≡ true → a ≡ b
one_booking a b h = grind (arith, nat_tests)

-- ---- lines

module _ (at : Cs) (who : End) where
  -- of one that may be gone, and of one that may be new
  gone_by : (b : Bool) (x : Booking) (rest : List Booking)
      → (if b then [] else dropped_line at who x) ++ flat_map (change_line at who) (map Drops rest)
      ≡ flat_map (change_line at who) (map Drops (if not b then x ∷ rest else rest))
  gone_by true x rest = refl
  gone_by false x rest = refl

  new_by : (b : Bool) (x : Booking) (rest : List Booking)
      → (if b then [] else booked_line at who x) ++ flat_map (change_line at who) (map Books rest)
      ≡ flat_map (change_line at who) (map Books (if not b then x ∷ rest else rest))
  new_by true x rest = refl
  new_by false x rest = refl

  all_gone : (after before : List Booking)
      → flat_map (dropped_text at who after) before ≡ flat_map (change_line at who) (map Drops (filter (λ b. not (is_awaiting booking_cmp b after)) before))
  all_gone after [] = refl
  all_gone after (x ∷ before) =
      ap (λ (text : List ℕ). dropped_text at who after x ++ text) (all_gone after before)
      ∙ gone_by (is_awaiting booking_cmp x after) x (filter (λ b. not (is_awaiting booking_cmp b after)) before)

  all_new : (before after : List Booking)
      → flat_map (booked_text at who before) after ≡ flat_map (change_line at who) (map Books (filter (λ b. not (is_awaiting booking_cmp b before)) after))
  all_new before [] = refl
  all_new before (x ∷ after) =
      ap (λ (text : List ℕ). booked_text at who before x ++ text) (all_new before after)
      ∙ new_by (is_awaiting booking_cmp x before) x (filter (λ b. not (is_awaiting booking_cmp b before)) after)

  lines_on : (some more : List Change) → flat_map (change_line at who) (some ++ more) ≡ flat_map (change_line at who) some ++ flat_map (change_line at who) more
  lines_on [] more = refl
  lines_on (x ∷ some) more =
      ap (λ (text : List ℕ). change_line at who x ++ text) (lines_on some more)
      ∙ sym (append_assoc (change_line at who x) (flat_map (change_line at who) some) (flat_map (change_line at who) more))

  pub lines : (caps : Caps) (before after : List Booking)
      → changes_text at who caps before after
      ≡ flat_map (change_line at who) (changes_to before after) ++ (if has_new before after then caps_text at who caps after else [])
  unfolding changes_text
  lines caps before after =
      let over = if has_new before after then caps_text at who caps after else [] in
      let gone = map Drops (filter (λ b. not (is_awaiting booking_cmp b after)) before) in
      let new = map Books (filter (λ b. not (is_awaiting booking_cmp b before)) after) in
      joined _ _ _ _ over (all_gone after before) (all_new before after)
      ∙ ap (λ (text : List ℕ). text ++ over) (sym (lines_on gone new))
    where
      joined : (a b x y over : List ℕ) → a ≡ x → b ≡ y → a ++ (b ++ (over ++ [])) ≡ (x ++ y) ++ over
      joined a b x y over one other =
          ap (λ (text : List ℕ). text ++ (b ++ (over ++ []))) one
          ∙ ap (λ (text : List ℕ). x ++ (text ++ (over ++ []))) other
          ∙ ap (λ (text : List ℕ). x ++ (y ++ text)) (append-nil over)
          ∙ sym (append_assoc x y over)

-- ---- a ledger that is kept by the changes

module _ (marked : (k x : Booking) (set : List Booking) → is_awaiting booking_cmp k (with_key booking_cmp x set) ≡ (is_eq (booking_cmp x k) || is_awaiting booking_cmp k set))
    (cleared : (k x : Booking) (set : List Booking) → is_awaiting booking_cmp k (without_key booking_cmp x set) ≡ (not (is_eq (booking_cmp x k)) && is_awaiting booking_cmp k set)) where
  -- whether a booking is there
  abbrev pub has : Booking → List Booking → Bool
  has b set = is_awaiting booking_cmp b set

  nothing_gone : (a b : Bool) → a ≡ (a && not (false && b))
  nothing_gone true b = refl
  nothing_gone false b = refl

  never : (a b : Bool) → (false && a) ≡ (b && not (true && true))
  never a true = refl
  never a false = refl

  stays : (a b : Bool) → (a && not (b && false)) ≡ (a && not (true && false))
  stays a true = refl
  stays a false = refl

  drops_by : (test : Booking → Bool) (b x : Booking) (rest : List Booking) (is one : Bool) → test x ≡ is → is_eq (booking_cmp x b) ≡ one
      → ((set : List Booking) → has b (after_changes set (map Drops (filter test rest))) ≡ (has b set && not (has b rest && test b)))
      → (set : List Booking) → has b (after_changes set (map Drops (if is then x ∷ filter test rest else filter test rest))) ≡ (has b set && not ((one || has b rest) && test b))
  drops_by test b x rest true true it same later set =
      later (without_key booking_cmp x set)
      ∙ ap (λ (y : Bool). y && not (has b rest && test b)) (cleared b x set ∙ ap (λ (y : Bool). not y && has b set) same)
      ∙ never (not (has b rest && test b)) (has b set)
      ∙ ap (λ (y : Bool). has b set && not (true && y)) (sym it ∙ ap test (one_booking x b same))
  drops_by test b x rest true false it same later set =
      later (without_key booking_cmp x set)
      ∙ ap (λ (y : Bool). y && not (has b rest && test b)) (cleared b x set ∙ ap (λ (y : Bool). not y && has b set) same)
  drops_by test b x rest false true it same later set =
      let no_test : test b ≡ false = sym (ap test (one_booking x b same)) ∙ it in
      later set
      ∙ ap (λ (y : Bool). has b set && not (has b rest && y)) no_test
      ∙ stays (has b set) (has b rest)
      ∙ ap (λ (y : Bool). has b set && not (true && y)) (sym no_test)
  drops_by test b x rest false false it same later set = later set

  all_drops : (test : Booking → Bool) (b : Booking) (gone set : List Booking)
      → has b (after_changes set (map Drops (filter test gone))) ≡ (has b set && not (has b gone && test b))
  all_drops test b [] set = nothing_gone (has b set) (test b)
  all_drops test b (x ∷ gone) set =
      drops_by test b x gone (test x) (is_eq (booking_cmp x b)) refl refl (all_drops test b gone) set

  taken_by : (a b : Bool) → ((b && true) || (true || a)) ≡ ((true && true) || a)
  taken_by a true = refl
  taken_by a false = refl

  left_by : (a b : Bool) → ((b && false) || a) ≡ ((true && false) || a)
  left_by a true = refl
  left_by a false = refl

  books_by : (test : Booking → Bool) (b x : Booking) (rest : List Booking) (is one : Bool) → test x ≡ is → is_eq (booking_cmp x b) ≡ one
      → ((set : List Booking) → has b (after_changes set (map Books (filter test rest))) ≡ ((has b rest && test b) || has b set))
      → (set : List Booking) → has b (after_changes set (map Books (if is then x ∷ filter test rest else filter test rest))) ≡ (((one || has b rest) && test b) || has b set)
  books_by test b x rest true true it same later set =
      let passes : test b ≡ true = sym (ap test (one_booking x b same)) ∙ it in
      later (with_key booking_cmp x set)
      ∙ ap (λ (y : Bool). (has b rest && test b) || y) (marked b x set ∙ ap (λ (y : Bool). y || has b set) same)
      ∙ ap (λ (y : Bool). (has b rest && y) || (true || has b set)) passes
      ∙ taken_by (has b set) (has b rest)
      ∙ ap (λ (y : Bool). (true && y) || has b set) (sym passes)
  books_by test b x rest true false it same later set =
      later (with_key booking_cmp x set)
      ∙ ap (λ (y : Bool). (has b rest && test b) || y) (marked b x set ∙ ap (λ (y : Bool). y || has b set) same)
  books_by test b x rest false true it same later set =
      let no_test : test b ≡ false = sym (ap test (one_booking x b same)) ∙ it in
      later set
      ∙ ap (λ (y : Bool). (has b rest && y) || has b set) no_test
      ∙ left_by (has b set) (has b rest)
      ∙ ap (λ (y : Bool). (true && y) || has b set) (sym no_test)
  books_by test b x rest false false it same later set = later set

  all_books : (test : Booking → Bool) (b : Booking) (new set : List Booking)
      → has b (after_changes set (map Books (filter test new))) ≡ ((has b new && test b) || has b set)
  all_books test b [] set = refl
  all_books test b (x ∷ new) set =
      books_by test b x new (test x) (is_eq (booking_cmp x b)) refl refl (all_books test b new) set

  table : (p q : Bool) → ((q && not p) || (p && not (p && not q))) ≡ q
  table true true = refl
  table true false = refl
  table false true = refl
  table false false = refl

  -- from one set to another
  changed : (before after set : List Booking) (b : Booking) → has b set ≡ has b before
      → has b (after_changes set (changes_to before after)) ≡ has b after
  changed before after set b is =
      let gone = map Drops (filter (λ b. not (is_awaiting booking_cmp b after)) before) in
      let new = map Books (filter (λ b. not (is_awaiting booking_cmp b before)) after) in
      ap (has b) (fold-append after_change set gone new)
      ∙ all_books (λ b. not (is_awaiting booking_cmp b before)) b after (after_changes set gone)
      ∙ ap (λ (y : Bool). (has b after && not (has b before)) || y)
      (all_drops (λ b. not (is_awaiting booking_cmp b after)) b before set
      ∙ ap (λ (y : Bool). y && not (has b before && not (has b after))) is)
      ∙ table (has b before) (has b after)

  -- ---- along a replay

  module _ (who : End) (b : Booking) where
    -- the ledger has the booking where the port does
    abbrev pub Agrees : List Booking → StreamWays → Type 0
    Agrees set ways = has b set ≡ has b (bookings_of who ways)

    on_ways : (set : List Booking) (before after : StreamWays) → Agrees set before → Agrees (after_changes set (ways_changes who before after)) after
    on_ways set before after is = changed (bookings_of who before) (bookings_of who after) set b is

    on_arrival : (set : List Booking) (s : LinkSeen) → Agrees set s.watched.streams.ways
        → Agrees (after_changes set (arrived_changes who s)) (seen_arriving s).watched.streams.ways
    unfolding seen_arriving watched_judged
    on_arrival set s is = on_ways set s.watched.streams.ways (arrived s).streams.ways is

    on_passing : (set : List Booking) (s : LinkSeen) (at : Cs) → Agrees set s.watched.streams.ways
        → Agrees (after_changes set (passed_changes who s at)) (seen_passing s at).watched.streams.ways
    unfolding seen_passing
    on_passing set s at is = on_ways set s.watched.streams.ways (watched_passing at s.watched).streams.ways is

    on_all_passing : (moments : List Cs) (set : List Booking) (s : LinkSeen) → Agrees set s.watched.streams.ways
        → Agrees (after_changes set (all_passed_changes who s moments)) (all_passing s moments).watched.streams.ways
    on_all_passing [] set s is = is
    on_all_passing (u ∷ moments) set s is =
        ap (has b) (fold-append after_change set (passed_changes who s u) (all_passed_changes who (seen_passing s u) moments))
        ∙ on_all_passing moments (after_changes set (passed_changes who s u)) (seen_passing s u) (on_passing set s u is)

    on_later : (set : List Booking) (at : Cs) (s : LinkSeen) → Agrees set s.watched.streams.ways
        → Agrees (after_changes set (later_changes who at s)) (seen_later at s).watched.streams.ways
    unfolding seen_later
    on_later set at s is =
        ap (has b) (fold-append after_change set (arrived_changes who s) (all_passed_changes who (seen_arriving s) (ending_by at s)))
        ∙ on_all_passing (ending_by at s) (after_changes set (arrived_changes who s)) (seen_arriving s) (on_arrival set s is)

    on_by : (later : Bool) (set : List Booking) (at : Cs) (s : LinkSeen) → Agrees set s.watched.streams.ways
        → Agrees (after_changes set (if later then later_changes who at s else [])) (if later then seen_later at s else s).watched.streams.ways
    on_by true set at s is = on_later set at s is
    on_by false set at s is = is

    on_at : (set : List Booking) (at : Cs) (s : LinkSeen) → Agrees set s.watched.streams.ways
        → Agrees (after_changes set (changes_at who at s)) (seen_at at s).watched.streams.ways
    unfolding seen_at
    on_at set at s is = on_by (nat_lt s.at.0 at.0) set at s is

-- ---- what an end says changes no booking

-- of each key as much stands, and the keys are the same
record AreAlike (new old : StreamWays) : Type 0 where
  pub keys_a : map (λ r. r.key) new.from_a.observer.rows ≡ map (λ r. r.key) old.from_a.observer.rows
  pub keys_b : map (λ r. r.key) new.from_b.observer.rows ≡ map (λ r. r.key) old.from_b.observer.rows
  pub stands_a : (k : MsrpKey) → registered_in (find key_cmp k new.from_a.observer.rows) ≡ registered_in (find key_cmp k old.from_a.observer.rows)
  pub stands_b : (k : MsrpKey) → registered_in (find key_cmp k new.from_b.observer.rows) ≡ registered_in (find key_cmp k old.from_b.observer.rows)

alike_itself : (w : StreamWays) → AreAlike w w
alike_itself w = record { keys_a = refl; keys_b = refl; stands_a = λ k. refl; stands_b = λ k. refl }

still_registered : (g : Registrar) → registrar.is_registered_in (registrar.next RxLeaveAll g) ≡ registrar.is_registered_in g
still_registered Held = refl
still_registered Leaving = refl
still_registered Empty = refl

row_stands : (leave : Cs) (r : Row MsrpKey MsrpContent) → registered_in (Some (leave_all_row leave r)) ≡ registered_in (Some r)
row_stands leave r = ap (λ (b : Bool). if b then Some r.heard else None) (still_registered r.registrar)

found_by : (b : Bool) (leave : Cs) (r : Row MsrpKey MsrpContent) (new old : Option (Row MsrpKey MsrpContent)) → registered_in new ≡ registered_in old
    → registered_in (if b then Some (leave_all_row leave r) else new) ≡ registered_in (if b then Some r else old)
found_by true leave r new old is = row_stands leave r
found_by false leave r new old is = is

all_stand : (leave : Cs) (k : MsrpKey) (rows : List (Row MsrpKey MsrpContent))
    → registered_in (find key_cmp k (map (leave_all_row leave) rows)) ≡ registered_in (find key_cmp k rows)
all_stand leave k [] = refl
all_stand leave k (r ∷ rows) = found_by (same key_cmp r.key k) leave r _ _ (all_stand leave k rows)

keys_stay : (leave : Cs) (rows : List (Row MsrpKey MsrpContent)) → map (λ r. r.key) (map (leave_all_row leave) rows) ≡ map (λ r. r.key) rows
keys_stay leave [] = refl
keys_stay leave (r ∷ rows) = ap (λ (ks : List MsrpKey). r.key ∷ ks) (keys_stay leave rows)

begun_keys : (leave_all : Bool) (at : Cs) (way : WayState MsrpKey MsrpContent)
    → map (λ r. r.key) (begun_way key_cmp at leave_all way).observer.rows ≡ map (λ r. r.key) way.observer.rows
begun_keys true at way = keys_stay _ way.observer.rows
begun_keys false at way = refl

begun_stands : (leave_all : Bool) (at : Cs) (way : WayState MsrpKey MsrpContent) (k : MsrpKey)
    → registered_in (find key_cmp k (begun_way key_cmp at leave_all way).observer.rows) ≡ registered_in (find key_cmp k way.observer.rows)
begun_stands true at way k = all_stand _ k way.observer.rows
begun_stands false at way k = refl

saying_alike : (at : Cs) (speaker : End) (m : Messages MsrpKey MsrpContent) (w : StreamWays) → AreAlike (ways_saying key_cmp at speaker m w) w
saying_alike at at_end.A m w = record {
  keys_a = refl;
  keys_b = begun_keys m.leave_all at w.from_b;
  stands_a = λ k. refl;
  stands_b = begun_stands m.leave_all at w.from_b;
}
saying_alike at at_end.B m w = record {
  keys_a = begun_keys m.leave_all at w.from_a;
  keys_b = refl;
  stands_a = begun_stands m.leave_all at w.from_a;
  stands_b = λ k. refl;
}

key_booked : (who : End) (new old : StreamWays) → AreAlike new old → (k : MsrpKey) → booked_at new who k ≡ booked_at old who k
unfolding booked_at
key_booked at_end.A new old alike (keys.Talker stream) =
    ap (λ (found : Option MsrpContent). if is_ready (listener_kind_of found) then asked_by (registered_in (find key_cmp (keys.Talker stream) new.from_a.observer.rows)) else [])
    (alike.stands_b (keys.Listener stream))
    ∙ ap (λ (found : Option MsrpContent). if is_ready (listener_kind_of (registered_in (find key_cmp (keys.Listener stream) old.from_b.observer.rows))) then asked_by found else [])
    (alike.stands_a (keys.Talker stream))
key_booked at_end.B new old alike (keys.Talker stream) =
    ap (λ (found : Option MsrpContent). if is_ready (listener_kind_of found) then asked_by (registered_in (find key_cmp (keys.Talker stream) new.from_b.observer.rows)) else [])
    (alike.stands_a (keys.Listener stream))
    ∙ ap (λ (found : Option MsrpContent). if is_ready (listener_kind_of (registered_in (find key_cmp (keys.Listener stream) old.from_a.observer.rows))) then asked_by found else [])
    (alike.stands_b (keys.Talker stream))
key_booked who new old alike (keys.Listener stream) = refl
key_booked who new old alike (keys.Domain class) = refl

by_keys : (f : MsrpKey → List Booking) (rows : List (Row MsrpKey MsrpContent)) → flat_map (λ r. f r.key) rows ≡ flat_map f (map (λ r. r.key) rows)
by_keys f [] = refl
by_keys f (r ∷ rows) = ap (λ (bs : List Booking). f r.key ++ bs) (by_keys f rows)

by_values : (f g : MsrpKey → List Booking) → ((k : MsrpKey) → f k ≡ g k) → (ks : List MsrpKey) → flat_map f ks ≡ flat_map g ks
by_values f g is [] = refl
by_values f g is (k ∷ ks) = ap (λ (bs : List Booking). bs ++ flat_map f ks) (is k) ∙ ap (λ (bs : List Booking). g k ++ bs) (by_values f g is ks)

rows_booked : (who : End) (new old : StreamWays) (new_rows old_rows : List (Row MsrpKey MsrpContent)) → AreAlike new old
    → map (λ r. r.key) new_rows ≡ map (λ r. r.key) old_rows → flat_map (row_booked new who) new_rows ≡ flat_map (row_booked old who) old_rows
rows_booked who new old new_rows old_rows alike is =
    by_keys (booked_at new who) new_rows
    ∙ by_values (booked_at new who) (booked_at old who) (key_booked who new old alike) (map (λ r. r.key) new_rows)
    ∙ ap (flat_map (booked_at old who)) is
    ∙ sym (by_keys (booked_at old who) old_rows)

alike_booked : (who : End) (new old : StreamWays) → AreAlike new old → bookings_of who new ≡ bookings_of who old
unfolding bookings_of
alike_booked at_end.A new old alike =
    ap (λ (bs : List Booking). all_marked booking_cmp bs []) (rows_booked at_end.A new old new.from_a.observer.rows old.from_a.observer.rows alike alike.keys_a)
alike_booked at_end.B new old alike =
    ap (λ (bs : List Booking). all_marked booking_cmp bs []) (rows_booked at_end.B new old new.from_b.observer.rows old.from_b.observer.rows alike alike.keys_b)

-- ---- nor does a frame when it is seen

vlans_alike : (at : Cs) (speaker : End) (w : Watched) (r : Result MvrpPdu ℕ) → AreAlike (after_vlans at speaker r w).streams.ways w.streams.ways
unfolding after_vlans
vlans_alike at speaker w (Ok pdu) = alike_itself w.streams.ways
vlans_alike at speaker w (Err place) = alike_itself w.streams.ways

streams_alike : (at : Cs) (speaker : End) (w : Watched) (r : Result MsrpPdu ℕ) → AreAlike (after_streams at speaker r w).streams.ways w.streams.ways
unfolding after_streams
streams_alike at speaker w (Ok pdu) = saying_alike at speaker (stream_messages pdu) w.streams.ways
streams_alike at speaker w (Err place) = alike_itself w.streams.ways

groups_alike : (at : Cs) (speaker : End) (w : Watched) (r : Result GroupPdu ℕ) → AreAlike (after_groups at speaker r w).streams.ways w.streams.ways
unfolding after_groups
groups_alike at speaker w (Ok pdu) = alike_itself w.streams.ways
groups_alike at speaker w (Err place) = alike_itself w.streams.ways

octets_alike : (at : Cs) (speaker : End) (w : Watched) (app : AppForm) (octets : List ℕ) → AreAlike (after_octets at speaker app octets w).streams.ways w.streams.ways
unfolding after_octets
octets_alike at speaker w Mvrp octets = vlans_alike at speaker w (mvrp_reading octets)
octets_alike at speaker w Msrp octets = streams_alike at speaker w (msrp_reading octets)
octets_alike at speaker w Mmrp octets = groups_alike at speaker w (mmrp_reading octets)

cut_alike : (cut : Bool) (w new : Watched) → AreAlike new.streams.ways w.streams.ways → AreAlike (if cut then w else new).streams.ways w.streams.ways
cut_alike true w new alike = alike_itself w.streams.ways
cut_alike false w new alike = alike

from_alike : (at : Cs) (p : Packet) (seen : Seen) (who : Option End) (s : LinkSeen) → AreAlike (seen_from at p seen who s).watched.streams.ways s.watched.streams.ways
unfolding seen_from seen_said after_said
from_alike at p seen None s = alike_itself s.watched.streams.ways
from_alike at p seen (Some who) s =
    cut_alike (nat_lt (length p.octets) p.whole) s.watched (after_octets at who seen.app seen.pdu s.watched) (octets_alike at who s.watched seen.app seen.pdu)

frame_alike : (ends : Ends) (at : Cs) (p : Packet) (found : Option Seen) (s : LinkSeen)
    → AreAlike (seen_frame ends at p found s).watched.streams.ways s.watched.streams.ways
unfolding seen_frame
frame_alike ends at p None s = alike_itself s.watched.streams.ways
frame_alike ends at p (Some seen) s = from_alike at p seen (end_at ends seen.address) s

module _ (marked : (k x : Booking) (set : List Booking) → is_awaiting booking_cmp k (with_key booking_cmp x set) ≡ (is_eq (booking_cmp x k) || is_awaiting booking_cmp k set))
    (cleared : (k x : Booking) (set : List Booking) → is_awaiting booking_cmp k (without_key booking_cmp x set) ≡ (not (is_eq (booking_cmp x k)) && is_awaiting booking_cmp k set))
    (who : End) (b : Booking) where
  on_packet : (ends : Ends) (p : Packet) (s : LinkSeen) (set : List Booking) → Agrees marked cleared who b set s.watched.streams.ways
      → Agrees marked cleared who b (after_changes set (changes_at who (moment_after s.at p) s)) (after_packet ends s p).watched.streams.ways
  unfolding after_packet
  on_packet ends p s set is =
      let at = moment_after s.at p in
      on_at marked cleared who b set at s is
      ∙ ap (is_awaiting booking_cmp b) (sym (alike_booked who _ _ (frame_alike ends at p (frame_in p) (seen_at at s))))

  -- the ledger has the booking where the port does, after each frame
  pub on_packets : (ends : Ends) (ps : List Packet) (s : LinkSeen) (set : List Booking) → Agrees marked cleared who b set s.watched.streams.ways
      → Agrees marked cleared who b (after_changes set (packets_changes who ends s ps)) (after_packets ends s ps).watched.streams.ways
  on_packets ends [] s set is = is
  on_packets ends (p ∷ ps) s set is =
      ap (is_awaiting booking_cmp b) (fold-append after_change set (changes_at who (moment_after s.at p) s) (packets_changes who ends (after_packet ends s p) ps))
      ∙ on_packets ends ps (after_packet ends s p) (after_changes set (changes_at who (moment_after s.at p) s)) (on_packet ends p s set is)

  -- and with what is on its way behind the last
  pub on_run : (ends : Ends) (ps : List Packet) (s : LinkSeen) (set : List Booking) → Agrees marked cleared who b set s.watched.streams.ways
      → Agrees marked cleared who b (after_changes set (run_changes ends s ps who)) (after_run ends s ps).watched.streams.ways
  unfolding after_run
  on_run ends ps s set is =
      ap (is_awaiting booking_cmp b) (fold-append after_change set (packets_changes who ends s ps) (arrived_changes who (after_packets ends s ps)))
      ∙ on_arrival marked cleared who b (after_changes set (packets_changes who ends s ps)) (after_packets ends s ps) (on_packets ends ps s set is)

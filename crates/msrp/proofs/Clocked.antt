-- What every side keeps stays so when the clock goes on.
use Rattle.std.proofs.Common.{◌≡◌, ℕ, zero, suc, ◌≤◌, Bool, true, false, ◌&&◌, if◌then◌else◌, List, [], ◌∷◌, ◌++◌, ◌+◌, ◌<◌, length, map, take, drop, refl, sym, ap, subst, ◌∙◌, add-one, arith, nat_lt}
use Rattle.std.specs.Prelude.{slice_get, slice_index_or, slice_set, Option, Some, None, option_map, option_and_then, unwrap_or}
use Rattle.std.specs.List.{AllByRecursion, list_any}
use Rattle.std.proofs.lemmas.Bool.{or_parts as or_false}
use Rattle.srp_base.proofs.Lists.{each-get}
use Rattle.srp_base.specs.declared.{numbers.StreamId.StreamId, streams.TalkerReg.TalkerReg, streams.TalkerReg.TheVariants.Absent}
use Rattle.stream_importance.specs.declared.{entry.Want.Want, entry.Fit.Fit, entry.Fit.TheVariants.Fits}
use Rattle.msrp_talker.specs.TalkerOut.{talker_in, talker_out}
use Rattle.port_ledger.specs.Book.{Book, clocked_book, fit_for, has_new_booking, want_of, IsKept as IsKeptBook}
use Rattle.attribute_propagation.specs.{Dirty.KeySet, Dirty.is_awaiting, Dirty.all_marked, Ports.HasRoom, Ports.keys_in}
use Rattle.mrp_participant.specs.State.{declared_at}
use Rattle.msrp_codec.specs.declared.pdu.MsrpKey.{MsrpKey}
use Rattle.msrp_codec.specs.declared.pdu.MsrpKey.TheVariants as keys
use Rattle.msrp_codec.specs.declared.pdu.MsrpContent.TheVariants as contents
use Rattle.msrp.specs.PortState.{PortState}
use Rattle.msrp.specs.{key_cmp, registered_talker, talker_content, Registrations, edge_at, is_listened, is_talker_port, listener_at, listener_row, stated_at, talk_of, talker_at, first_talker, talkers_of, advertise_of, want_of_talker, wanted_at, talker_keys, Streams, IsKept, IsPort, IsSettled, clocked_port, clocked_sets, clocked_streams, seen_by, shows_at}
use Rattle.msrp.proofs.{Telling.Awaits, Telling.unmarked, Talkers.HasRows, Talkers.absent_stated, Talkers.no_talker}

-- the laws of a ledger that a clock rests on
pub record Laws : Type 0 where
  pub kept : (book : Book) (now : ℕ) → IsKeptBook book → book.moment ≤ now → IsKeptBook (clocked_book now book)
  pub fits : (book : Book) (now : ℕ) (want : Want) → IsKeptBook book → book.moment ≤ now → (nat_lt book.moment now && has_new_booking book) ≡ false
      → fit_for now book want ≡ fit_for book.moment book want

pub map_twice : {X Y : Type 0} (f : X → Y) (g : X → X) (xs : List X) → ((x : X) → f (g x) ≡ f x) → map f (map g xs) ≡ map f xs
map_twice f g [] same = refl
map_twice f g (x ∷ xs) same = ap (λ y. y ∷ map f (map g xs)) (same x) ∙ ap (λ ys. f x ∷ ys) (map_twice f g xs same)

-- the clock changes no registration and no booking
seen_clocked : (now : ℕ) (side : Streams) (s : StreamId) → seen_by (clocked_streams now side) s ≡ seen_by side s
seen_clocked now side s =
    ap (λ ts. record { talkers = advertise_of (talk_of s side.talks) ∷ ts; listens = is_listened s side.listens; listeners = map (listener_row s) (map (clocked_port now) side.ports) })
    (map_twice (λ (q : PortState). registered_talker s q.part) (clocked_port now) side.ports (λ q. refl))
    ∙ ap (λ ls. record { talkers = talkers_of side.talks side.ports s; listens = is_listened s side.listens; listeners = ls })
    (map_twice (listener_row s) (clocked_port now) side.ports (λ q. refl))

-- where every want's fit is the same, what is declared of a Talker is
pub same_fit : (f g : Want → Fit) (o : Option Want) → ((w : Want) → f w ≡ g w) → option_map f o ≡ option_map g o
same_fit f g None same = refl
same_fit f g (Some w) same = ap (λ x. Some x) (same w)

stated_clocked : (at : ℕ) (p : PortState) (now : ℕ) (talkers : List TalkerReg) → ((want : Want) → fit_for now p.ledger want ≡ fit_for p.ledger.moment p.ledger want)
    → talker_at at (clocked_port now p) talkers ≡ talker_at at p talkers
stated_clocked at p now talkers same =
    ap (λ (o : Option Fit). if is_talker_port (suc at) talkers then Absent else talker_out (first_talker talkers) p.config (edge_at p talkers)
    (unwrap_or (if is_talker_port (suc at) talkers then None else o) Fits))
    (same_fit (fit_for now p.ledger) (fit_for p.ledger.moment p.ledger) (option_and_then want_of_talker (talker_in (first_talker talkers))) same)

-- the port and the set at a place before
pub record WasAt (now : ℕ) (ks : List MsrpKey) (ports : List PortState) (sets : List (List MsrpKey)) (j : ℕ) (port : PortState) (set : List MsrpKey) : Type 0 where
  pub p : PortState
  pub old : List MsrpKey
  pub there : slice_get ports j ≡ Some p
  pub awaited : slice_get sets j ≡ Some old
  pub is : clocked_port now p ≡ port
  pub awaits : (if shows_at now p then all_marked key_cmp ks old else old) ≡ set

was_at : (now : ℕ) (ks : List MsrpKey) (ports : List PortState) (sets : List (List MsrpKey)) (j : ℕ) (port : PortState) (set : List MsrpKey)
    → slice_get (map (clocked_port now) ports) j ≡ Some port → slice_get (clocked_sets now ks ports sets) j ≡ Some set → WasAt now ks ports sets j port set
was_at now ks [] sets j port set a b = cc
was_at now ks (p ∷ ports) [] j port set a b = cc
was_at now ks (p ∷ ports) (old ∷ sets) zero port set a b = record { p = p; old = old; there = refl; awaited = refl; is = cc; awaits = cc }
was_at now ks (p ∷ ports) (old ∷ sets) (suc j) port set a b =
    let rest = was_at now ks ports sets j port set a b in
    record { p = rest.p; old = rest.old; there = rest.there; awaited = rest.awaited; is = rest.is; awaits = rest.awaits }

clocked_length : (now : ℕ) (ks : List MsrpKey) (ports : List PortState) (sets : List (List MsrpKey)) → length sets ≡ length ports
    → length (clocked_sets now ks ports sets) ≡ length (map (clocked_port now) ports)
clocked_length now ks [] sets e = refl
clocked_length now ks (p ∷ ports) [] e = absurd (omega (arith, e))
clocked_length now ks (p ∷ ports) (set ∷ sets) e = ap suc (clocked_length now ks ports sets (omega (arith, e)))

-- where the clock shows nothing, the sets are as they were
pub none_shown : (now : ℕ) (ks : List MsrpKey) (ports : List PortState) (sets : List (List MsrpKey)) → length sets ≡ length ports → list_any (shows_at now) ports ≡ false
    → clocked_sets now ks ports sets ≡ sets
none_shown now ks [] [] e h = refl
none_shown now ks [] (set ∷ sets) e h = absurd (omega (arith, e))
none_shown now ks (p ∷ ports) [] e h = absurd (omega (arith, e))
none_shown now ks (p ∷ ports) (set ∷ sets) e h =
    let parts = or_false (shows_at now p) (list_any (shows_at now) ports) h in
    ap (λ b. (if b then all_marked key_cmp ks set else set) ∷ clocked_sets now ks ports sets) parts.0 ∙ ap (λ ss. set ∷ ss) (none_shown now ks ports sets (omega (arith, e)) parts.1)

clocked_ports : Laws → (moment now : ℕ) (ports : List PortState) → moment ≤ now → AllByRecursion (IsPort moment) ports → AllByRecursion (IsPort now) (map (clocked_port now) ports)
clocked_ports laws moment now [] up all = tt
clocked_ports laws moment now (p ∷ ports) up all =
    (record { rows = all.0.rows; contents = all.0.contents; ledger = laws.kept p.ledger now all.0.ledger (rw all.0.moment up); moment = refl }, clocked_ports laws moment now ports up all.1)

module _ (laws : Laws) (awaits : Awaits) (rows : HasRows) (side : Streams) (kept : IsKept side) (now : ℕ) (up : side.moment ≤ now) where
  abbrev talkers : List MsrpKey
  talkers = talker_keys side.talks side.ports

  settled_as : (j : ℕ) (p : PortState) (old set : List MsrpKey) → IsPort side.moment p → IsSettled j p old (seen_by side) → (b : Bool) → shows_at now p ≡ b
      → (if b then all_marked key_cmp talkers old else old) ≡ set → IsSettled j (clocked_port now p) set (seen_by (clocked_streams now side))
  settled_as j p old set port before b shown is = record { declared = each; wanted = λ s one two. wants s (fewer b is (keys.Talker s) one) (fewer b is (keys.Listener s) two) }
    where
      -- what doesn't await now didn't before
      fewer : (b : Bool) → (if b then all_marked key_cmp talkers old else old) ≡ set → (key : MsrpKey) → is_awaiting key_cmp key set ≡ false → is_awaiting key_cmp key old ≡ false
      fewer true is key out = (unmarked awaits key talkers old (ap (is_awaiting key_cmp key) is ∙ out)).1
      fewer false is key out = ap (is_awaiting key_cmp key) is ∙ out

      wants : (s : StreamId) → is_awaiting key_cmp (keys.Talker s) old ≡ false → is_awaiting key_cmp (keys.Listener s) old ≡ false
          → want_of p.ledger.entries s ≡ wanted_at j p (seen_by (clocked_streams now side) s).talkers s
      wants s one two = before.wanted s one two ∙ ap (λ (r : Registrations). wanted_at j p r.talkers s) (sym (seen_clocked now side s))

      talker : (b : Bool) → shows_at now p ≡ b → (if b then all_marked key_cmp talkers old else old) ≡ set → (s : StreamId) → is_awaiting key_cmp (keys.Talker s) set ≡ false
          → talker_content (talker_at j p (seen_by side s).talkers) ≡ talker_content (talker_at j (clocked_port now p) (seen_by side s).talkers)
      talker true shown is s out =
          let none = no_talker rows side.talks side.ports s (unmarked awaits (keys.Talker s) talkers old (ap (is_awaiting key_cmp (keys.Talker s)) is ∙ out)).0 in
          absent_stated j p (talkers_of side.talks side.ports s) none ∙ sym (absent_stated j (clocked_port now p) (talkers_of side.talks side.ports s) none)
      talker false shown is s out =
          ap talker_content (sym (stated_clocked j p now (talkers_of side.talks side.ports s) (λ want. laws.fits p.ledger now want port.ledger (rw port.moment up) shown)))

      each : (key : MsrpKey) → is_awaiting key_cmp key set ≡ false → declared_at key_cmp key p.part ≡ stated_at j (clocked_port now p) (seen_by (clocked_streams now side)) key
      each (keys.Talker s) out =
          before.declared (keys.Talker s) (fewer b is (keys.Talker s) out)
          ∙ (talker b shown is s out ∙ ap (λ (r : Registrations). talker_content (talker_at j (clocked_port now p) r.talkers)) (sym (seen_clocked now side s)))
      each (keys.Listener s) out =
          before.declared (keys.Listener s) (fewer b is (keys.Listener s) out) ∙ ap (λ (r : Registrations). option_map contents.Listener (listener_at j r)) (sym (seen_clocked now side s))
      each (keys.Domain c) out = before.declared (keys.Domain c) (fewer b is (keys.Domain c) out)

  pub kept-clocked : IsKept (clocked_streams now side)
  kept-clocked =
      record {
        ports = clocked_ports laws side.moment now side.ports up kept.ports;
        sets = clocked_length now talkers side.ports side.awaiting kept.sets;
        settled = λ j port set part sets.
            let was = was_at now talkers side.ports side.awaiting j port set part sets in
            let P : PortState → Type 0 = λ q. IsSettled j q set (seen_by (clocked_streams now side)) in
            subst P was.is
            (settled_as j was.p was.old set (each-get (IsPort side.moment) side.ports j was.p kept.ports was.there) (kept.settled j was.p was.old was.there was.awaited)
            (shows_at now was.p) refl was.awaits);
      }

-- each port's ledger is of a moment that isn't later
pub moments_before : (moment now : ℕ) (ports : List PortState) → moment ≤ now → AllByRecursion (IsPort moment) ports → AllByRecursion (λ (p : PortState). p.ledger.moment ≤ now) ports
moments_before moment now [] up all = tt
moments_before moment now (p ∷ ports) up all = (rw all.0.moment up, moments_before moment now ports up all.1)

-- the side afterwards, where the clock shows nothing
pub passed_is : (side : Streams) → IsKept side → (now : ℕ) (ports : List PortState) → list_any (shows_at now) side.ports ≡ false → ports ≡ map (clocked_port now) side.ports
    → record { ports = ports; awaiting = side.awaiting; talks = side.talks; listens = side.listens; moment = now } ≡ clocked_streams now side
passed_is side kept now ports still is =
    ap (λ ps. record { ports = ps; awaiting = side.awaiting; talks = side.talks; listens = side.listens; moment = now }) is
    ∙ ap (λ sets. record { ports = map (clocked_port now) side.ports; awaiting = sets; talks = side.talks; listens = side.listens; moment = now })
    (sym (none_shown now (talker_keys side.talks side.ports) side.ports side.awaiting kept.sets still))

-- and where it shows
pub shown_is : (side : Streams) (now : ℕ) (ports : List PortState) (sets : List (List MsrpKey)) → ports ≡ map (clocked_port now) side.ports
    → sets ≡ clocked_sets now (talker_keys side.talks side.ports) side.ports side.awaiting
    → record { ports = ports; awaiting = sets; talks = side.talks; listens = side.listens; moment = now } ≡ clocked_streams now side
shown_is side now ports sets p s = rw (p, s) refl

-- ---- sets that are changed in place, one after the other

-- one set more has become another where the clock shows
pub show_more : (now : ℕ) (ks : List MsrpKey) (ports : List PortState) (sets : List (KeySet MsrpKey)) (i : ℕ) (p : PortState) (x y : KeySet MsrpKey) (shows : Bool)
    → i < length sets → slice_get ports i ≡ Some p → x ≡ slice_index_or sets i x → shows ≡ shows_at now p → y.keys ≡ (if shows then all_marked key_cmp ks x.keys else x.keys)
    → take (i + 1) (keys_in (slice_set sets i y)) ++ clocked_sets now ks (drop (i + 1) ports) (drop (i + 1) (keys_in (slice_set sets i y)))
    ≡ take i (keys_in sets) ++ clocked_sets now ks (drop i ports) (drop i (keys_in sets))
show_more now ks ports sets i p x y shows below here is test became =
    let more : i + 1 ≡ suc i = add-one i in
    ap (λ n. take n (keys_in (slice_set sets i y)) ++ clocked_sets now ks (drop n ports) (drop n (keys_in (slice_set sets i y)))) more
    ∙ step ports sets i below here is
  where
    step : (ports : List PortState) (sets : List (KeySet MsrpKey)) (i : ℕ) → i < length sets → slice_get ports i ≡ Some p → x ≡ slice_index_or sets i x
        → take (suc i) (keys_in (slice_set sets i y)) ++ clocked_sets now ks (drop (suc i) ports) (drop (suc i) (keys_in (slice_set sets i y)))
        ≡ take i (keys_in sets) ++ clocked_sets now ks (drop i ports) (drop i (keys_in sets))
    step ports [] i below here is = absurd (omega arith)
    step [] (z ∷ sets) i below here is = cc
    step (q ∷ ports) (z ∷ sets) zero below here is =
        let port : q ≡ p = cc in
        ap (λ k. k ∷ clocked_sets now ks ports (keys_in sets))
        (became ∙ (ap (λ b. if b then all_marked key_cmp ks x.keys else x.keys) (test ∙ ap (shows_at now) (sym port))
        ∙ ap (λ (w : KeySet MsrpKey). if shows_at now q then all_marked key_cmp ks w.keys else w.keys) is))
    step (q ∷ ports) (z ∷ sets) (suc i) below here is = ap (λ kss. z.keys ∷ kss) (step ports sets i (omega (arith, below)) here is)

-- at the end all have
none_left : (now : ℕ) (ks : List MsrpKey) (ports : List PortState) → clocked_sets now ks ports [] ≡ []
none_left now ks [] = refl
none_left now ks (p ∷ ports) = refl

all_taken : (sets : List (KeySet MsrpKey)) (i : ℕ) → length sets ≤ i → take i (keys_in sets) ++ [] ≡ keys_in sets
all_taken [] zero end = refl
all_taken [] (suc i) end = refl
all_taken (set ∷ sets) zero end = absurd (omega (arith, end))
all_taken (set ∷ sets) (suc i) end = ap (λ kss. set.keys ∷ kss) (all_taken sets i (omega (arith, end)))

pub all_shown : (now : ℕ) (ks : List MsrpKey) (ports : List PortState) (sets : List (KeySet MsrpKey)) (i : ℕ) → length sets ≤ i
    → take i (keys_in sets) ++ clocked_sets now ks (drop i ports) (drop i (keys_in sets)) ≡ keys_in sets
all_shown now ks ports [] zero end = none_left now ks ports
all_shown now ks ports [] (suc i) end = none_left now ks (drop (suc i) ports)
all_shown now ks ports (set ∷ sets) zero end = absurd (omega (arith, end))
all_shown now ks [] (set ∷ sets) (suc i) end = ap (λ kss. set.keys ∷ kss) (all_taken sets i (omega (arith, end)))
all_shown now ks (p ∷ ports) (set ∷ sets) (suc i) end = ap (λ kss. set.keys ∷ kss) (all_shown now ks ports sets i (omega (arith, end)))

-- the next set has room, and so have those that are left
pub next_room : (n : ℕ) (sets : List (KeySet MsrpKey)) (i : ℕ) (x : KeySet MsrpKey) → i < length sets → x ≡ slice_index_or sets i x → HasRoom n (drop i sets) → n ≤ x.spare
next_room n [] i x below is room = absurd (omega arith)
next_room n (set ∷ sets) zero x below is room = let P : KeySet MsrpKey → Type 0 = λ s. n ≤ s.spare in subst P (sym is) room.0
next_room n (set ∷ sets) (suc i) x below is room = next_room n sets i x (omega (arith, below)) is room

pub left_room : (n : ℕ) (sets : List (KeySet MsrpKey)) (i : ℕ) (y : KeySet MsrpKey) → HasRoom n (drop i sets) → HasRoom n (drop (i + 1) (slice_set sets i y))
left_room n sets i y room = let P : ℕ → Type 0 = λ m. HasRoom n (drop m (slice_set sets i y)) in subst P (sym (add-one i)) (rest sets i room)
  where
    rest : (sets : List (KeySet MsrpKey)) (i : ℕ) → HasRoom n (drop i sets) → HasRoom n (drop (suc i) (slice_set sets i y))
    rest [] zero room = tt
    rest [] (suc i) room = tt
    rest (set ∷ sets) zero room = room.1
    rest (set ∷ sets) (suc i) room = rest sets i room

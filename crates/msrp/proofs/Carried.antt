-- What settling a port step by step, in its place, makes of a side; and how long the lists become that it fills.
use Rattle.std.proofs.Common.{◌≡◌, ◌≤◌, ◌<◌, ◌+◌, ℕ, zero, suc, Bool, true, false, not, ◌&&◌, ◌==◌, if◌then◌else◌, List, [], ◌∷◌, ◌++◌, length, map, filter, refl, sym, ap, ◌∙◌, arith}
use Rattle.std.specs.Prelude.{nat_lt, slice_get, slice_index_or, slice_set, Option, Some, None, option_map, IfSome, vec_capacity, vec_len}
use Rattle.std.proofs.lemmas.Option.{slice_get-map, slice_get_read}
use Rattle.std.specs.{List.flat_map, List.list_any, declared.cmp.Ordering.Ordering, declared.cmp.Ordering.TheVariants.Less, declared.cmp.Ordering.TheVariants.Equal, declared.cmp.Ordering.TheVariants.Greater}
use Rattle.srp_base.proofs.{Lists.mapped_length as length-map, Lists.set_set as set-twice, Lists.map-set, Lists.map-set_same, Options.one_some, Options.opened}
use Rattle.srp_base.specs.declared.{numbers.StreamId.StreamId, streams.Talker.Talker, streams.TalkerReg.TalkerReg}
use Rattle.stream_importance.specs.declared.{entry.Want.Want, entry.Entry.Entry, slope.Caps.Caps}
use Rattle.msrp_listener.specs.declared.port_listener.PortListener.{PortListener}
use Rattle.port_ledger.specs.{Decision.booked_of, Decision.decided_entries, Decision.decided_set, Decision.does_fit, Decision.is_booked, Decision.stream_of, Decision.with_moments, Book.Book, Book.booked_only_in, Book.entry_with, Book.same_entry, Book.unbooked_entry, Book.with_want, Book.without}
use Rattle.attribute_propagation.specs.{Dirty.KeySet, Dirty.all_marked, Dirty.marked_at, Dirty.with_key, Ports.keys_at, Ports.keys_in, Ports.keys_or_none, Ports.marked_elsewhere, Ports.marked_from}
use Rattle.msrp_codec.specs.declared.{pdu.MsrpKey.MsrpKey, pdu.MsrpContent.MsrpContent}
use Rattle.msrp_codec.specs.declared.pdu.MsrpKey.TheVariants as keys
use Rattle.msrp_codec.specs.declared.pdu.MsrpContent.TheVariants as contents
use Rattle.msrp.specs.{Asked, Stated, key_cmp, registered_talker, settled_as, settled_part, talker_content, Registrations, advertise_of, is_listened, listener_at, listener_row, registrations_of, stated_at, talk_of, talker_at, talkers_of, wanted_at, book_with, book_without, listener_keys, moved_streams, next_book, settling_keys, streams_in, taken_out, talker_keys, talker_keys_in, with_wants, Streams, settled_streams, PortHolding, ports_in, IsPlan, asked_at, asked_book, asked_in, asked_out, stated_of, stated_part}
use Rattle.msrp.specs.declared.plan.Plan.{Plan}
use Rattle.msrp.specs.PortState.{PortState}
use Rattle.msrp.specs.Part.{Part}
use Rattle.msrp.proofs.{InPlace.port_is, InPlace.state_is, InPlace.states-set, Settled.next_is, Settled.others-set}

-- ---- what the streams want

abbrev asking : (StreamId → Option Want) → StreamId → Asked
asking wants s = record { stream = s; want = wants s }

out_is : (wants : StreamId → Option Want) (streams : List StreamId) (book : Book) → asked_out (map (asking wants) streams) book ≡ taken_out wants streams book
out_is wants [] book = refl
out_is wants (s ∷ streams) book = out_is wants streams (book_without s (wants s) book)

in_is : (wants : StreamId → Option Want) (streams : List StreamId) (book : Book) → asked_in (map (asking wants) streams) book ≡ with_wants wants streams book
in_is wants [] book = refl
in_is wants (s ∷ streams) book = in_is wants streams (book_with (wants s) book)

pub book_is : (at : ℕ) (talks : List Talker) (listens : List StreamId) (ports : List PortState) (p : PortState) (ks : List MsrpKey) (asked : List Asked)
    → asked ≡ map (asked_at at talks ports p) (streams_in ks) → asked_book asked p.ledger ≡ next_book at (registrations_of talks listens ports) ks p
book_is at talks listens ports p ks asked is =
    let wants : StreamId → Option Want = λ s. wanted_at at p (talkers_of talks ports s) s in
    ap (λ (xs : List Asked). asked_book xs p.ledger) is
    ∙ (in_is wants (streams_in ks) (asked_out (map (asking wants) (streams_in ks)) p.ledger)
    ∙ (ap (with_wants wants (streams_in ks)) (out_is wants (streams_in ks) p.ledger) ∙ sym (next_is at (registrations_of talks listens ports) ks p)))

-- ---- what the port declares

-- what a port states looks at no booking of its own but through its ledger
pub own_ledger : (at : ℕ) (talks : List Talker) (listens : List StreamId) (ports : List PortState) (p q : PortState) → slice_get ports at ≡ Some p → q.part ≡ p.part → (key : MsrpKey)
    → stated_at at q (registrations_of talks listens (slice_set ports at q)) key ≡ stated_at at q (registrations_of talks listens ports) key
own_ledger at talks listens ports p q here same = by
  where
    talkers : (s : StreamId) → talkers_of talks (slice_set ports at q) s ≡ talkers_of talks ports s
    talkers s = ap (λ ts. advertise_of (talk_of s talks) ∷ ts) (map-set_same (λ (x : PortState). registered_talker s x.part) ports at p q here (ap (registered_talker s) same))

    listeners : (s : StreamId) → listener_at at (registrations_of talks listens (slice_set ports at q) s) ≡ listener_at at (registrations_of talks listens ports s)
    listeners s =
        ap (λ (ts : List TalkerReg). listener_at at (record { talkers = ts; listens = is_listened s listens; listeners = map (listener_row s) (slice_set ports at q) })) (talkers s)
        ∙ (ap (λ (ls : List (Option PortListener)). listener_at at (record { talkers = talkers_of talks ports s; listens = is_listened s listens; listeners = ls }))
        (map-set (listener_row s) ports at q)
        ∙ others-set at (talkers_of talks ports s) (is_listened s listens) (map (listener_row s) ports) (listener_row s q))

    by : (key : MsrpKey) → stated_at at q (registrations_of talks listens (slice_set ports at q)) key ≡ stated_at at q (registrations_of talks listens ports) key
    by (keys.Talker s) = ap (λ ts. talker_content (talker_at at q ts)) (talkers s)
    by (keys.Listener s) = ap (option_map contents.Listener) (listeners s)
    by (keys.Domain c) = refl

stated_is : (at : ℕ) (q : PortState) (one : StreamId → Registrations) (rule : MsrpKey → Option MsrpContent) → ((key : MsrpKey) → stated_at at q one key ≡ rule key) → (ks : List MsrpKey) (s : Part)
    → stated_part (map (stated_of at q one) ks) s ≡ settled_part rule ks s
stated_is at q one rule same [] s = refl
stated_is at q one rule same (k ∷ ks) s =
    ap (λ content. stated_part (map (stated_of at q one) ks) (settled_as k content s)) (same k) ∙ stated_is at q one rule same ks (settled_as k (rule k) s)

-- the Talker keys of all streams are those of the participants
flat-set_same : (f : PortState → List MsrpKey) (ports : List PortState) (at : ℕ) (p q : PortState) → slice_get ports at ≡ Some p → f q ≡ f p → flat_map f (slice_set ports at q) ≡ flat_map f ports
flat-set_same f [] at p q here e = refl
flat-set_same f (x ∷ ports) zero p q here e = let same : x ≡ p = cc in ap (λ ks. ks ++ flat_map f ports) (e ∙ ap f (sym same))
flat-set_same f (x ∷ ports) (suc at) p q here e = ap (λ ks. f x ++ ks) (flat-set_same f ports at p q here e)

pub talker_keys-set : (talks : List Talker) (ports : List PortState) (at : ℕ) (p q : PortState) → slice_get ports at ≡ Some p → q.part ≡ p.part
    → talker_keys talks (slice_set ports at q) ≡ talker_keys talks ports
talker_keys-set talks ports at p q here same =
    ap (λ ks. map (λ (t : Talker). keys.Talker t.stream) talks ++ ks) (flat-set_same (λ (x : PortState). talker_keys_in x.part) ports at p q here (ap talker_keys_in same))

-- ---- the sets

-- what awaits at a place that is emptied afterwards doesn't count
marked-set : (n at i : ℕ) (new : List MsrpKey) (sets : List (List MsrpKey)) (set : List MsrpKey)
    → slice_set (marked_from n key_cmp at new (slice_set sets i set)) i [] ≡ slice_set (marked_from n key_cmp at new sets) i []
marked-set n at i new [] set = refl
marked-set n at zero new (x ∷ sets) set = refl
marked-set n at (suc i) new (x ∷ sets) set = ap (λ ss. (if n == at then x else all_marked key_cmp new x) ∷ ss) (marked-set (n + 1) at i new sets set)

-- ---- the side

-- what each step leaves, by what the port and the keys that awaited there were
pub record HasStepped (at : ℕ) (talks : List Talker) (listens : List StreamId) (ports last : List PortState) (sets done : List (List MsrpKey)) (p : PortState) (ks : List MsrpKey) : Type 0 where
  pub book : Book
  pub moved : List StreamId
  pub stated : List Stated
  pub tried : List MsrpKey
  pub here : slice_get ports at ≡ Some p
  pub set : slice_get sets at ≡ Some ks
  pub book_is : book ≡ next_book at (registrations_of talks listens ports) ks p
  pub moved_is : moved ≡ moved_streams p.ledger book
  pub tried_is : tried ≡ settling_keys moved (talker_keys talks (slice_set ports at (record p { ledger = book }))) ks
  pub stated_is : stated ≡ map (stated_of at (record p { ledger = book }) (registrations_of talks listens (slice_set ports at (record p { ledger = book })))) tried
  pub last_is : last ≡ slice_set (slice_set ports at (record p { ledger = book })) at (record p { part = stated_part stated p.part; ledger = book })
  pub done_is : done ≡ slice_set (marked_elsewhere key_cmp at (listener_keys moved) (slice_set sets at tried)) at []

pub stepped_is : (at : ℕ) (talks : List Talker) (listens : List StreamId) (ports last : List PortState) (sets done : List (List MsrpKey)) (p : PortState) (ks : List MsrpKey)
    → HasStepped at talks listens ports last sets done p ks → (moment : ℕ)
    → record { ports = last; awaiting = done; talks = talks; listens = listens; moment = moment }
    ≡ settled_streams at (record { ports = ports; awaiting = sets; talks = talks; listens = listens; moment = moment })
stepped_is at talks listens ports last sets done p ks h moment =
    let regs : StreamId → Registrations = registrations_of talks listens ports in
    let q : PortState = record p { ledger = h.book } in
    let rule : MsrpKey → Option MsrpContent = stated_at at q regs in
    let moved : List StreamId = moved_streams p.ledger h.book in
    let tried : List MsrpKey = settling_keys moved (talker_keys talks ports) ks in
    let tried_same : h.tried ≡ tried =
    h.tried_is ∙ (ap (λ m. settling_keys m (talker_keys talks (slice_set ports at q)) ks) h.moved_is ∙ ap (λ t. settling_keys moved t ks) (talker_keys-set talks ports at p q h.here refl)) in
    let part : stated_part h.stated p.part ≡ settled_part rule tried p.part =
    ap (λ (st : List Stated). stated_part st p.part) h.stated_is
    ∙ (stated_is at q (registrations_of talks listens (slice_set ports at q)) rule (own_ledger at talks listens ports p q h.here refl) h.tried p.part
    ∙ ap (λ t. settled_part rule t p.part) tried_same) in
    let last_same : last ≡ slice_set ports at (record p { part = settled_part rule tried p.part; ledger = h.book }) =
    h.last_is ∙ (set-twice ports at q (record p { part = stated_part h.stated p.part; ledger = h.book }) ∙ ap (λ (s : Part). slice_set ports at (record p { part = s; ledger = h.book })) part) in
    let done_same : done ≡ slice_set (marked_elsewhere key_cmp at (listener_keys moved) sets) at [] =
    h.done_is ∙ (marked-set 0 at at (listener_keys h.moved) sets h.tried ∙ ap (λ m. slice_set (marked_elsewhere key_cmp at (listener_keys m) sets) at []) h.moved_is) in
    let with_port : Book → PortState = λ b.
    record p { part = settled_part (stated_at at (record p { ledger = b }) regs) (settling_keys (moved_streams p.ledger b) (talker_keys talks ports) ks) p.part; ledger = b } in
    let with_book : Book → Streams = λ b. record {
      ports = slice_set ports at (with_port b);
      awaiting = slice_set (marked_elsewhere key_cmp at (listener_keys (moved_streams p.ledger b)) sets) at [];
      talks = talks;
      listens = listens;
      moment = moment;
    } in
    ap (λ (xs : List PortState). record { ports = xs; awaiting = done; talks = talks; listens = listens; moment = moment }) last_same
    ∙ (ap (λ (ss : List (List MsrpKey)). record { ports = slice_set ports at (with_port h.book); awaiting = ss; talks = talks; listens = listens; moment = moment }) done_same
    ∙ (ap with_book h.book_is ∙ rw (h.here, h.set) refl))

-- ---- how long the lists are

length-filter : {X : Type 0} (test : X → Bool) (xs : List X) → length (filter test xs) ≤ length xs
length-filter test [] = omega arith
length-filter test (x ∷ xs) = by (test x) (length-filter test xs)
  where
    by : (b : Bool) → length (filter test xs) ≤ length xs → length (if b then x ∷ filter test xs else filter test xs) ≤ length (x ∷ xs)
    by true le = omega (arith, le)
    by false le = omega (arith, le)

pub only_in-few : (these those : List Entry) → length (booked_only_in these those) ≤ length these
only_in-few these those =
    let test : Entry → Bool = λ x. is_booked x && not (list_any (same_entry x) those) in
    omega (arith, length-map (λ (x : Entry). x.want.stream) (filter test these), length-filter test these)

moments-many : (now : ℕ) (f : Entry → Bool) (xs : List Entry) → length (with_moments now xs (map f xs)) ≡ length xs
moments-many now f [] = refl
moments-many now f (x ∷ xs) = ap suc (moments-many now f xs)

decided-many : (now : ℕ) (caps : Caps) (xs : List Entry) → length (decided_entries now caps xs) ≡ length xs
unfolding decided_entries
decided-many now caps xs = moments-many now (does_fit now caps (decided_set now caps xs)) xs

with_want-few : (xs : List Entry) (want : Want) → length (with_want xs want) ≤ suc (length xs)
with_want-few [] want = omega arith
with_want-few (x ∷ xs) want = by (nat_lt want.stream.0 (stream_of x)) (want.stream.0 == stream_of x) (with_want-few xs want)
  where
    by : (a b : Bool) → length (with_want xs want) ≤ suc (length xs)
        → length (if a then unbooked_entry want ∷ x ∷ xs else if b then entry_with x want ∷ xs else x ∷ with_want xs want) ≤ suc (length (x ∷ xs))
    by true b le = omega arith
    by false true le = omega arith
    by false false le = omega (arith, le)

with-few : (want : Option Want) (book : Book) → length (book_with want book).entries ≤ suc (length book.entries)
with-few None book = omega arith
with-few (Some want) book = omega (arith, decided-many book.moment book.caps (with_want book.entries want), with_want-few book.entries want)

without-few : (s : StreamId) (want : Option Want) (book : Book) → length (book_without s want book).entries ≤ length book.entries
without-few s (Some want) book = omega arith
without-few s None book =
    omega (arith, decided-many book.moment book.caps (without book.entries s), length-filter (λ (x : Entry). not (stream_of x == s.0)) book.entries)

in-few : (asked : List Asked) (book : Book) → length (asked_in asked book).entries ≤ length book.entries + length asked
in-few [] book = omega arith
in-few (a ∷ asked) book = omega (arith, in-few asked (book_with a.want book), with-few a.want book)

out-few : (asked : List Asked) (book : Book) → length (asked_out asked book).entries ≤ length book.entries
out-few [] book = omega arith
out-few (a ∷ asked) book = omega (arith, out-few asked (book_without a.stream a.want book), without-few a.stream a.want book)

pub book-few : (asked : List Asked) (book : Book) → length (asked_book asked book).entries ≤ length book.entries + length asked
book-few asked book = omega (arith, in-few asked (asked_out asked book), out-few asked book)

marked_one-few : (o : Ordering) (k x : MsrpKey) (ks more : List MsrpKey) → length more ≤ suc (length ks) → length (marked_at o k x ks more) ≤ suc (length (x ∷ ks))
marked_one-few Less k x ks more le = omega (arith, le)
marked_one-few Equal k x ks more le = omega (arith, le)
marked_one-few Greater k x ks more le = omega (arith, le)

with_key-few : (k : MsrpKey) (ks : List MsrpKey) → length (with_key key_cmp k ks) ≤ suc (length ks)
with_key-few k [] = omega arith
with_key-few k (x ∷ ks) = marked_one-few (key_cmp x k) k x ks (with_key key_cmp k ks) (with_key-few k ks)

marked-few : (new ks : List MsrpKey) → length (all_marked key_cmp new ks) ≤ length new + length ks
marked-few [] ks = omega arith
marked-few (k ∷ new) ks = omega (arith, marked-few new (with_key key_cmp k ks), with_key-few k ks)

settling-few : (moved : List StreamId) (talkers ks : List MsrpKey) → length (settling_keys moved talkers ks) ≤ length talkers + length ks
settling-few [] talkers ks = omega arith
settling-few (s ∷ moved) talkers ks = marked-few talkers ks

length-join : {X : Type 0} (xs ys : List X) → length (xs ++ ys) ≡ length xs + length ys
length-join [] ys = omega arith
length-join (x ∷ xs) ys = omega (arith, length-join xs ys)

pub moved-few : (asked : List Asked) (book : Book) (before : List Entry)
    → length (booked_only_in (asked_book asked book).entries before ++ booked_only_in before (asked_book asked book).entries) ≤ length book.entries + length before + length asked
moved-few asked book before =
    let after : List Entry = (asked_book asked book).entries in
    omega (arith, length-join (booked_only_in after before) (booked_only_in before after), only_in-few after before, only_in-few before after, book-few asked book)

-- ---- what moved since the bookings before

-- what changed depends on the bookings alone
abbrev pub ByBookings : Type 0
ByBookings = (these those : List Entry) → booked_only_in (booked_of these) (booked_of those) ≡ booked_only_in these those

filter-twice : {X : Type 0} (test : X → Bool) (xs : List X) → filter test (filter test xs) ≡ filter test xs
filter-twice test [] = refl
filter-twice test (x ∷ xs) = by (test x) refl (filter-twice test xs)
  where
    by : (b : Bool) → test x ≡ b → filter test (filter test xs) ≡ filter test xs → filter test (if b then x ∷ filter test xs else filter test xs) ≡ (if b then x ∷ filter test xs else filter test xs)
    by true e rest = rw e (ap (λ ys. x ∷ ys) rest)
    by false e rest = rest

pub moved_since : ByBookings → (before after : Book) (bookings : List Entry) → bookings ≡ booked_of before.entries
    → booked_only_in after.entries bookings ++ booked_only_in bookings after.entries ≡ moved_streams before after
moved_since law before after bookings is =
    let old : List Entry = before.entries in
    let new : List Entry = after.entries in
    let twice : booked_of (booked_of old) ≡ booked_of old = filter-twice is_booked old in
    let gained : booked_only_in new (booked_of old) ≡ booked_only_in new old =
    sym (law new (booked_of old)) ∙ (ap (booked_only_in (booked_of new)) twice ∙ law new old) in
    let lost : booked_only_in (booked_of old) new ≡ booked_only_in old new =
    sym (law (booked_of old) new) ∙ (ap (λ xs. booked_only_in xs (booked_of new)) twice ∙ law old new) in
    ap (λ xs. booked_only_in new xs ++ booked_only_in xs new) is
    ∙ (ap (λ ss. ss ++ booked_only_in (booked_of old) new) gained ∙ ap (λ ss. booked_only_in new old ++ ss) lost)

-- ---- steps that change no state

pub same_many : (ports those : List PortHolding) → ports_in ports ≡ ports_in those → length ports ≡ length those
same_many ports those e =
    sym (length-map (λ (p : PortHolding). p.state) ports) ∙ (ap (λ (ps : List PortState). length ps) e ∙ length-map (λ (p : PortHolding). p.state) those)

pub same_sets : (sets these : List (KeySet MsrpKey)) → keys_in sets ≡ keys_in these → length sets ≡ length these
same_sets sets these e =
    sym (length-map (λ (set : KeySet MsrpKey). set.keys) sets) ∙ (ap (λ (ks : List (List MsrpKey)). length ks) e ∙ length-map (λ (set : KeySet MsrpKey). set.keys) these)

-- ---- a port and a set that are read at a place

pub set_is : (sets : List (KeySet MsrpKey)) (at : ℕ) (u : KeySet MsrpKey) → at < length sets → u ≡ slice_index_or sets at u → slice_get sets at ≡ Some u
set_is sets at u below is = slice_get_read sets (length sets) at u refl below is

pub keys_is : (sets : List (KeySet MsrpKey)) (at : ℕ) (u : KeySet MsrpKey) → slice_get sets at ≡ Some u → slice_get (keys_in sets) at ≡ Some u.keys
keys_is sets at u here = slice_get-map (λ (set : KeySet MsrpKey). set.keys) sets at ∙ ap (option_map (λ (set : KeySet MsrpKey). set.keys)) here

-- what holds of a port or a set that is set at a place
pub set_holds : {X : Type 0} (P : X → Type 0) (xs : List X) (at : ℕ) (y : X) → at < length xs → P y → IfSome (slice_get (slice_set xs at y) at) P
set_holds P [] at y below h = absurd (omega arith)
set_holds P (x ∷ xs) zero y below h = h
set_holds P (x ∷ xs) (suc at) y below h = set_holds P xs at y (omega (arith, below)) h

pub get-set : {X : Type 0} (xs : List X) (at : ℕ) (y : X) → at < length xs → slice_get (slice_set xs at y) at ≡ Some y
get-set [] at y below = absurd (omega arith)
get-set (x ∷ xs) zero y below = refl
get-set (x ∷ xs) (suc at) y below = get-set xs at y (omega (arith, below))

pub marked-many : (n at : ℕ) (new : List MsrpKey) (sets : List (List MsrpKey)) → length (marked_from n key_cmp at new sets) ≡ length sets
marked-many n at new [] = refl
marked-many n at new (set ∷ sets) = ap suc (marked-many (n + 1) at new sets)

-- the plan is one for the port that is read at the place
pub plan_at : (at : ℕ) (talks : List Talker) (ports : List PortHolding) (ks : List MsrpKey) (plan : Plan) (x : PortHolding) → at < length ports → x ≡ slice_index_or ports at x
    → IfSome (slice_get (ports_in ports) at) (IsPlan at talks (ports_in ports) ks plan) → IsPlan at talks (ports_in ports) ks plan x.state
plan_at at talks ports ks plan x below is h = opened (IsPlan at talks (ports_in ports) ks plan) (slice_get (ports_in ports) at) x.state (state_is ports at x (port_is ports at x below is)) h

-- what is kept of the port that is read at the place
pub port_has : (P : PortHolding → Type 0) (ports : List PortHolding) (at : ℕ) (x : PortHolding) → at < length ports → x ≡ slice_index_or ports at x → IfSome (slice_get ports at) P → P x
port_has P ports at x below is h = opened P (slice_get ports at) x (port_is ports at x below is) h

pub set_has : (P : KeySet MsrpKey → Type 0) (sets : List (KeySet MsrpKey)) (at : ℕ) (u : KeySet MsrpKey) → at < length sets → u ≡ slice_index_or sets at u → IfSome (slice_get sets at) P → P u
set_has P sets at u below is h = opened P (slice_get sets at) u (set_is sets at u below is) h

-- the one that is read where one was set is that one
pub read-set : {X : Type 0} (xs : List X) (at : ℕ) (x y : X) → at < length xs → x ≡ slice_index_or (slice_set xs at y) at x → x ≡ y
read-set [] at x y below is = absurd (omega arith)
read-set (z ∷ xs) zero x y below is = is
read-set (z ∷ xs) (suc at) x y below is = read-set xs at x y (omega (arith, below)) is

-- the Talker keys of all streams, where another ledger stands at a port
talkers-set : (talks : List Talker) (ports : List PortHolding) (at : ℕ) (x y : PortHolding) → at < length ports → x ≡ slice_index_or ports at x → y.state.part ≡ x.state.part
    → talker_keys talks (ports_in (slice_set ports at y)) ≡ talker_keys talks (ports_in ports)
talkers-set talks ports at x y below is same =
    ap (talker_keys talks) (states-set ports at y) ∙ talker_keys-set talks (ports_in ports) at x.state y.state (state_is ports at x (port_is ports at x below is)) same

-- there is room for what moves
pub moved_fits : (at : ℕ) (talks : List Talker) (ports : List PortState) (ks : List MsrpKey) (plan : Plan) (port : PortState) → IsPlan at talks ports ks plan port
    → (asked : List Asked) (before : List Entry) (moved : List StreamId) → asked ≡ plan.asked.items → before ≡ plan.before
    → moved ≡ plan.moved.items ++ (booked_only_in (asked_book asked port.ledger).entries before ++ booked_only_in before (asked_book asked port.ledger).entries)
    → length moved ≤ vec_capacity plan.moved
moved_fits at talks ports ks plan port h asked before moved wants bookings is =
    let new : List StreamId = booked_only_in (asked_book asked port.ledger).entries before ++ booked_only_in before (asked_book asked port.ledger).entries in
    let all : length moved ≡ length new = ap (λ (ss : List StreamId). length ss) (is ∙ ap (λ ss. ss ++ new) h.moved) in
    omega (arith, all, moved-few asked port.ledger before, h.moving, ap (λ (xs : List Asked). length xs) wants, ap (λ (xs : List Entry). length xs) bookings)

-- the keys that await where a set is put
pub keys_set : (sets : List (KeySet MsrpKey)) (at : ℕ) (v : KeySet MsrpKey) (ks : List MsrpKey) → at < length sets → slice_get (keys_in (slice_set sets at v)) at ≡ Some ks → ks ≡ v.keys
keys_set sets at v ks below is = one_some _ ks v.keys is (keys_is (slice_set sets at v) at v (get-set sets at v below))

-- there is room for what is declared of the keys that are tried
pub tried_fits : (at : ℕ) (talks : List Talker) (ports later : List PortHolding) (sets : List (KeySet MsrpKey)) (plan : Plan) (x y : PortHolding) (u : KeySet MsrpKey)
    → at < length ports → x ≡ slice_index_or ports at x
    → slice_get sets at ≡ Some u → IsPlan at talks (ports_in ports) (keys_at at (keys_in sets)) plan x.state → later ≡ slice_set ports at y → y.state.part ≡ x.state.part
    → (moved : List StreamId) (tried : List MsrpKey) → tried ≡ settling_keys moved (talker_keys talks (ports_in later)) u.keys → length tried + vec_len plan.stated ≤ vec_capacity plan.stated
tried_fits at talks ports later sets plan x y u below here set h after same moved tried is =
    let awaited : keys_at at (keys_in sets) ≡ u.keys = ap (λ o. keys_or_none o) (keys_is sets at u set) in
    let talkers : talker_keys talks (ports_in later) ≡ talker_keys talks (ports_in ports) = ap (λ ps. talker_keys talks (ports_in ps)) after ∙ talkers-set talks ports at x y below here same in
    let count : List MsrpKey → ℕ = λ ks. length ks in
    omega (arith, h.stating, ap count awaited, ap count talkers, ap count is, settling-few moved (talker_keys talks (ports_in later)) u.keys)

-- the Talker keys that are put in are no more than a plan has room for
pub talkers_fit : (at : ℕ) (talks : List Talker) (ports later : List PortHolding) (ks : List MsrpKey) (plan : Plan) (x y : PortHolding) → at < length ports → x ≡ slice_index_or ports at x
    → IsPlan at talks (ports_in ports) ks plan x.state → later ≡ slice_set ports at y → y.state.part ≡ x.state.part → length (talker_keys talks (ports_in later)) ≤ vec_capacity plan.stated
talkers_fit at talks ports later ks plan x y below here h after same =
    let talkers : talker_keys talks (ports_in later) ≡ talker_keys talks (ports_in ports) = ap (λ ps. talker_keys talks (ports_in ps)) after ∙ talkers-set talks ports at x y below here same in
    omega (arith, h.stating, ap (λ (ks : List MsrpKey). length ks) talkers)

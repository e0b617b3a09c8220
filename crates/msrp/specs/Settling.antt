-- Settling the keys that await at a link port: its ledger, and what it declares (IEEE Std
-- 802.1Q-2018, 35.2.4).
use Rattle.std.specs.Prelude.{ℕ, Bool, true, false, ◌&&◌, if◌then◌else◌, List, [], ◌∷◌, ◌++◌, map, filter, fold, Option, Some, None, is_some, slice_set}
use Rattle.std.specs.List.{filter_map, flat_map, list_any}
use Rattle.srp_base.specs.declared.{numbers.StreamId.StreamId, streams.Talker.Talker}
use Rattle.stream_importance.specs.declared.entry.Want.{Want}
use Rattle.port_ledger.specs.Book.{Book, wanted_book, unwanted_book, booked_only_in}
use Rattle.attribute_propagation.specs.{Dirty.all_marked, Ports.keys_at, Ports.marked_everywhere}
use Rattle.registrar.specs.Table.{is_leaving}
use Rattle.mrp_participant.specs.declared.row.Row.{Row}
use Rattle.mrp_participant.specs.{Lookup.key_of, State.registered_at}
use Rattle.msrp_codec.specs.declared.{pdu.MsrpKey.MsrpKey, pdu.MsrpContent.MsrpContent}
use Rattle.msrp_codec.specs.declared.pdu.MsrpKey.TheVariants.{Talker as TalkerKey, Listener as ListenerKey, Domain as DomainKey}
use Rattle.msrp.specs.declared.domain.DomainSet.{DomainSet}
use Rattle.msrp.specs.{PortState.PortState, Part.Part, Part.key_cmp, Part.stream_cmp, Part.settled_part, Part.talker_reg_of, Domain.are_counted, Stream.Registrations, Stream.is_present, Stream.wanted_at, Stream.stated_at}

-- the stream of a key; a Domain has none
abbrev pub stream_in : MsrpKey → Option StreamId
stream_in (TalkerKey stream) = Some stream
stream_in (ListenerKey stream) = Some stream
stream_in (DomainKey class) = None

-- the streams of which a key is among these, ascending
abbrev pub streams_in : List MsrpKey → List StreamId
streams_in keys = all_marked stream_cmp (filter_map stream_in keys) []

-- the keys of a stream
abbrev pub keys_of : StreamId → List MsrpKey
keys_of stream = TalkerKey stream ∷ ListenerKey stream ∷ []

-- both keys of the stream of a key; a Domain has none
abbrev pub keys_with : MsrpKey → List MsrpKey
keys_with (TalkerKey stream) = keys_of stream
keys_with (ListenerKey stream) = keys_of stream
keys_with (DomainKey class) = []

-- both keys of each stream of which a key is told
abbrev pub all_keys_with : List MsrpKey → List MsrpKey
all_keys_with told = flat_map keys_with told

-- the Talker key, where this key is one and its content is a Talker's
abbrev pub talker_key_if : MsrpKey → Option MsrpContent → List MsrpKey
talker_key_if (TalkerKey stream) content =
    if is_present (talker_reg_of content) then TalkerKey stream ∷ [] else []
talker_key_if (ListenerKey stream) content = []
talker_key_if (DomainKey class) content = []

-- the Talker keys that a participant has registered
abbrev pub talker_keys_in : Part → List MsrpKey
talker_keys_in s =
    flat_map (λ key. talker_key_if key (registered_at key_cmp key s)) (map key_of s.rows)

-- the Talker keys of all streams with a Talker, of the application or registered at a link port
abbrev pub talker_keys : List Talker → List PortState → List MsrpKey
talker_keys talks ports =
    map (λ (t : Talker). TalkerKey t.stream) talks
    ++ flat_map (λ (p : PortState). talker_keys_in p.part) ports

-- the keys that a participant has registered
abbrev pub registered_keys : Part → List MsrpKey
registered_keys s = filter (λ key. is_some (registered_at key_cmp key s)) (map key_of s.rows)

-- the keys that are registered at a node: the Talkers of the application, the streams that it
-- listens to, and what each link port has registered
abbrev pub known_keys : List Talker → List StreamId → List PortState → List MsrpKey
known_keys talks listens ports =
    map (λ (t : Talker). TalkerKey t.stream) talks
    ++ (map (λ (s : StreamId). ListenerKey s) listens
    ++ flat_map (λ (p : PortState). registered_keys p.part) ports)

-- ---- what awaits once keys are told

-- whether a key is a Domain's
abbrev pub is_domain : MsrpKey → Bool
is_domain (TalkerKey stream) = false
is_domain (ListenerKey stream) = false
is_domain (DomainKey class) = true

-- whether a row is of a Domain, and its registrar is LV
abbrev pub is_domain_leaving : Row MsrpKey MsrpContent → Bool
is_domain_leaving r = is_domain r.key && is_leaving r.registrar

-- whether a node that declares these Domains has to heed one that is told: it heeds Domains, and
-- one is told
abbrev pub is_domain_told : DomainSet → List MsrpKey → Bool
is_domain_told domain told = are_counted domain && list_any is_domain told

-- these keys await at the port at a place, beside its own
abbrev pub marked_here : ℕ → List MsrpKey → List (List MsrpKey) → List (List MsrpKey)
marked_here at keys sets = slice_set sets at (all_marked key_cmp keys (keys_at at sets))

-- what awaits at each port once keys are told at the port at a place: both keys of each of their
-- streams everywhere; and where a Domain is told, which may make the port a boundary or none, both
-- keys of each known stream at that port alone
abbrev pub told_sets : ℕ → DomainSet → List MsrpKey → List MsrpKey → List (List MsrpKey) → List (List MsrpKey)
told_sets at domain told known sets =
    if is_domain_told domain told
    then marked_here at (all_keys_with known) (marked_everywhere key_cmp (all_keys_with told) sets)
    else marked_everywhere key_cmp (all_keys_with told) sets

-- ---- the ledger

-- a stream that wants nothing is taken out, at the ledger's moment
abbrev pub book_without : StreamId → Option Want → Book → Book
book_without stream None book = unwanted_book book.moment stream book
book_without stream (Some want) book = book

-- a stream that wants bandwidth is entered, at the ledger's moment
abbrev pub book_with : Option Want → Book → Book
book_with None book = book
book_with (Some want) book = wanted_book book.moment want book

-- the ledger without those of these streams that want nothing, taken out in this order
abbrev pub taken_out : (StreamId → Option Want) → List StreamId → Book → Book
taken_out wants streams book =
    fold (λ (b : Book) (s : StreamId). book_without s (wants s) b) book streams

-- the ledger with those of these streams that want bandwidth, entered in this order
abbrev pub with_wants : (StreamId → Option Want) → List StreamId → Book → Book
with_wants wants streams book = fold (λ (b : Book) (s : StreamId). book_with (wants s) b) book streams

-- the ledger by what each of these streams wants: first those that want nothing are taken out, then
-- the others entered
abbrev pub settled_book : (StreamId → Option Want) → List StreamId → Book → Book
settled_book wants streams book = with_wants wants streams (taken_out wants streams book)

-- the streams whose booking is another than before: those that are booked, and those that were
abbrev pub moved_streams : Book → Book → List StreamId
moved_streams before after =
    booked_only_in after.entries before.entries ++ booked_only_in before.entries after.entries

-- the Listener keys of streams
abbrev pub listener_keys : List StreamId → List MsrpKey
listener_keys streams = map (λ (s : StreamId). ListenerKey s) streams

-- ---- the port

-- the keys that are settled: those that await, and where the booked set changed the Talker keys of
-- all streams with a Talker
abbrev pub settling_keys : List StreamId → List MsrpKey → List MsrpKey → List MsrpKey
settling_keys [] talkers awaiting = awaiting
settling_keys (s ∷ moved) talkers awaiting = all_marked key_cmp talkers awaiting

-- the port once it has declared these keys as the rules state them
abbrev pub restated_port : ℕ → (StreamId → Registrations) → List MsrpKey → PortState → PortState
restated_port at regs keys port =
    record port { part = settled_part (stated_at at port regs) keys port.part }

-- the ledger of a port once its awaiting keys are settled
unfoldable pub next_book : ℕ → (StreamId → Registrations) → List MsrpKey → PortState → Book
next_book at regs awaiting port =
    settled_book (λ s. wanted_at at port (regs s).talkers s) (streams_in awaiting) port.ledger

-- the port once its awaiting keys are settled, beside the Talker keys of all streams with a Talker
abbrev pub settled_port : ℕ → (StreamId → Registrations) → List MsrpKey → List MsrpKey → PortState → PortState
settled_port at regs talkers awaiting port =
    restated_port at regs
    (settling_keys (moved_streams port.ledger (next_book at regs awaiting port)) talkers awaiting)
    (record port { ledger = next_book at regs awaiting port })

-- What the code takes together before it settles a port: the lists that settling fills, with their
-- room. No public contract names it.
use Rattle.std.specs.Prelude.{◌≡◌, ◌≤◌, ◌<◌, ℕ, ◌+◌, if◌then◌else◌, List, [], ◌∷◌, map, length, fold, Option, Some, None, is_some, slice_get, slice_set, IfSome, vec_capacity, vec_len}
use Rattle.srp_base.specs.declared.{numbers.StreamId.StreamId, streams.Talker.Talker}
use Rattle.port_ledger.specs.{Book.Book, Decision.booked_of, Decision.IsAscending}
use Rattle.attribute_propagation.specs.{Dirty.KeySet, Ports.HasRoom}
use Rattle.mrp_participant.specs.Lookup.{find}
use Rattle.msrp_codec.specs.declared.{pdu.MsrpKey.MsrpKey, pdu.MsrpContent.MsrpContent}
use Rattle.msrp.specs.declared.{plan.Asked.Asked, plan.Stated.Stated, plan.Plan.Plan}
use Rattle.msrp.specs.{PortState.PortState, Part.Part, Part.key_cmp, Part.settled_as, Stream.Registrations, Stream.registrations_of, Stream.stated_at, Stream.talkers_of, Stream.wanted_at, Settling.book_with, Settling.book_without, Settling.streams_in, Settling.talker_keys, Side.Streams, Holding.PortHolding}

-- what a port wants for a stream
abbrev pub asked_at : ℕ → List Talker → List PortState → PortState → StreamId → Asked
asked_at at talks ports port s =
    record { stream = s; want = wanted_at at port (talkers_of talks ports s) s }

-- the ledger without those of these streams that want nothing
abbrev pub asked_out : List Asked → Book → Book
asked_out asked book = fold (λ (b : Book) (a : Asked). book_without a.stream a.want b) book asked

-- the ledger with those of these streams that want bandwidth
abbrev pub asked_in : List Asked → Book → Book
asked_in asked book = fold (λ (b : Book) (a : Asked). book_with a.want b) book asked

-- the ledger by what each of these streams wants
abbrev pub asked_book : List Asked → Book → Book
asked_book asked book = asked_in asked (asked_out asked book)

-- what a port declares of a key
abbrev pub stated_of : ℕ → PortState → (StreamId → Registrations) → MsrpKey → Stated
stated_of at port regs key = record { key = key; content = stated_at at port regs key }

-- the participant once each of these is declared or withdrawn
abbrev pub stated_part : List Stated → Part → Part
stated_part stated s = fold (λ (t : Part) (x : Stated). settled_as x.key x.content t) s stated

-- what a port at a place of a side declares of these keys once its ledger is another one
abbrev pub stated_with : ℕ → Streams → PortState → List MsrpKey → List Stated
stated_with at side port keys =
    map (stated_of at port (registrations_of side.talks side.listens (slice_set side.ports at port))) keys

-- how many rows a key lacks, one or none
abbrev pub missing_row : MsrpKey → Part → ℕ
missing_row key s = if is_some (find key_cmp key s.rows) then 0 else 1

-- how many of these keys have no row
abbrev pub missing_rows : List MsrpKey → Part → ℕ
missing_rows [] s = 0
missing_rows (key ∷ keys) s = missing_row key s + missing_rows keys s

-- how many rows come where a key is declared with a content, or withdrawn where it has none
abbrev pub new_row : MsrpKey → Option MsrpContent → Part → ℕ
new_row key None s = 0
new_row key (Some content) s = missing_row key s

-- how many rows come where each of these is declared or withdrawn, in this order
abbrev pub new_rows : List Stated → Part → ℕ
new_rows [] s = 0
new_rows (x ∷ stated) s = new_row x.key x.content s + new_rows stated (settled_as x.key x.content s)

-- the plan for a port where these keys await: what each of their streams wants there, the bookings
-- before, and empty lists with room for all that settling puts into them
pub record IsPlan (at : ℕ) (talks : List Talker) (ports : List PortState) (keys : List MsrpKey)
    (plan : Plan) (port : PortState) : Type 0 where
  pub asked : plan.asked.items ≡ map (asked_at at talks ports port) (streams_in keys)
  pub missing : plan.missing ≡ missing_rows keys port.part
  pub before : plan.before ≡ booked_of port.ledger.entries
  pub ascending : IsAscending plan.before
  pub moved : plan.moved.items ≡ []
  pub moving : length port.ledger.entries + length plan.before + length plan.asked.items
      + vec_len plan.moved ≤ vec_capacity plan.moved
  pub told : plan.told.items ≡ []
  pub telling : vec_len plan.told + vec_capacity plan.moved ≤ vec_capacity plan.told
  pub rows : length ports < vec_capacity plan.rows
  pub stated : plan.stated.items ≡ []
  pub stating : length keys + length (talker_keys talks ports) + vec_len plan.stated
      ≤ vec_capacity plan.stated

-- there is room for what a plan may put into a port's ledger, its participant and the sets of
-- awaiting keys
pub record HasRoomFor (at : ℕ) (plan : Plan) (ports : List PortHolding)
    (sets : List (KeySet MsrpKey)) : Type 0 where
  pub rows : IfSome (slice_get ports at) (λ p. plan.missing ≤ p.rows)
  pub wants : IfSome (slice_get ports at) (λ p. length plan.asked.items ≤ p.wants)
  pub own : IfSome (slice_get sets at)
      (λ set. vec_capacity plan.stated + vec_capacity plan.moved ≤ set.spare)
  pub others : HasRoom (vec_capacity plan.moved) sets

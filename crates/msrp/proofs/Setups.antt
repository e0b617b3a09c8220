-- Each call keeps how the link ports are set up.
use Rattle.std.proofs.Common.{◌≡◌, ℕ, Bool, true, false, if◌then◌else◌, List, [], ◌∷◌, length, refl, sym, ap, ◌∙◌}
use Rattle.std.specs.Prelude.{slice_get, slice_set, Option, Some, None}
use Rattle.srp_base.proofs.Lists.{map-set_same, mapped_length}
use Rattle.srp_base.specs.declared.numbers.StreamId.{StreamId}
use Rattle.stream_importance.specs.declared.{entry.Want.Want, slope.Caps.Caps}
use Rattle.port_ledger.specs.Book.{Book}
use Rattle.attribute_propagation.specs.Ports.{marked_elsewhere}
use Rattle.msrp_codec.specs.declared.pdu.MsrpKey.{MsrpKey}
use Rattle.msrp.specs.{SrpRequest, Talk, Hush, Listen, Unlisten, key_cmp, Registrations, talk_of, wanted_at, book_with, book_without, with_wants, next_book, streams_in, taken_out, Streams, at_port, awaiting_at, clocked_port, clocked_streams, has_listen, has_talk, is_talk, moved_keys, with_port_at, requested_streams, with_told_port, seen_by, settled_at, settled_streams, with_part, with_port, Setup, setup_of, setups_of}
use Rattle.msrp.specs.PortState.{PortState}
use Rattle.msrp.specs.Part.{Part}
use Rattle.msrp.proofs.Clocked.{map_twice}

pub setups-at : (side : Streams) (make : PortState → Streams) (o : Option PortState) → ((p : PortState) → o ≡ Some p → setups_of (make p) ≡ setups_of side)
    → setups_of (with_port o make side) ≡ setups_of side
setups-at side make None h = refl
setups-at side make (Some p) h = h p refl

-- a participant takes the place of another
pub setups-retold : (at : ℕ) (part : Part → Part) (told : Part → List MsrpKey) (side : Streams)
    → setups_of (at_port at (λ p. with_told_port at (with_part (part p.part) p) (told p.part) side) side) ≡ setups_of side
setups-retold at part told side =
    setups-at side (λ p. with_told_port at (with_part (part p.part) p) (told p.part) side) (slice_get side.ports at)
    (λ p here. map-set_same setup_of side.ports at p (with_part (part p.part) p) here refl)

pub setups-replaced : (at : ℕ) (part : Part → Part) (side : Streams) → setups_of (at_port at (λ p. with_port_at at (with_part (part p.part) p) side) side) ≡ setups_of side
setups-replaced at part side =
    setups-at side (λ p. with_port_at at (with_part (part p.part) p) side) (slice_get side.ports at) (λ p here. map-set_same setup_of side.ports at p (with_part (part p.part) p) here refl)

-- ---- settling

out_caps : (wants : StreamId → Option Want) (streams : List StreamId) (book : Book) → (taken_out wants streams book).caps ≡ book.caps
out_caps wants [] book = refl
out_caps wants (s ∷ streams) book = out_caps wants streams (book_without s (wants s) book) ∙ by (wants s)
  where
    by : (o : Option Want) → (book_without s o book).caps ≡ book.caps
    by None = refl
    by (Some w) = refl

in_caps : (wants : StreamId → Option Want) (streams : List StreamId) (book : Book) → (with_wants wants streams book).caps ≡ book.caps
in_caps wants [] book = refl
in_caps wants (s ∷ streams) book = in_caps wants streams (book_with (wants s) book) ∙ by (wants s)
  where
    by : (o : Option Want) → (book_with o book).caps ≡ book.caps
    by None = refl
    by (Some w) = refl

next_caps : (at : ℕ) (regs : StreamId → Registrations) (ks : List MsrpKey) (p : PortState) → (next_book at regs ks p).caps ≡ p.ledger.caps
unfolding next_book
next_caps at regs ks p =
    let wants : StreamId → Option Want = λ s. wanted_at at p (regs s).talkers s in
    in_caps wants (streams_in ks) (taken_out wants (streams_in ks) p.ledger) ∙ out_caps wants (streams_in ks) p.ledger

pub setups-settled : (at : ℕ) (side : Streams) → setups_of (settled_streams at side) ≡ setups_of side
setups-settled at side =
    setups-at side
    (λ (p : PortState). record side { ports = slice_set side.ports at (settled_at at side p); awaiting = slice_set (marked_elsewhere key_cmp at (moved_keys at side p) side.awaiting) at [] })
    (slice_get side.ports at)
    (λ p here. map-set_same setup_of side.ports at p (settled_at at side p) here
    (ap (λ (c : Caps). let setup : Setup = record { config = p.config; caps = c; domain = p.domain } in setup) (next_caps at (seen_by side) (awaiting_at at side) p)))

-- ---- requests, and the clock

chosen : (b : Bool) (x y side : Streams) → setups_of x ≡ setups_of side → setups_of y ≡ setups_of side → setups_of (if b then x else y) ≡ setups_of side
chosen true x y side h k = h
chosen false x y side h k = k

pub setups-requested : (request : SrpRequest) (side : Streams) → setups_of (requested_streams request side) ≡ setups_of side
setups-requested (Talk t) side = chosen (is_talk (talk_of t.stream side.talks) t) _ _ side refl refl
setups-requested (Hush x) side = chosen (has_talk x side) _ _ side refl refl
setups-requested (Listen x) side = chosen (has_listen x side) _ _ side refl refl
setups-requested (Unlisten x) side = chosen (has_listen x side) _ _ side refl refl

pub setups-clocked : (now : ℕ) (side : Streams) → setups_of (clocked_streams now side) ≡ setups_of side
setups-clocked now side = map_twice setup_of (clocked_port now) side.ports (λ p. refl)

pub same_count : (a b : Streams) → setups_of a ≡ setups_of b → length a.ports ≡ length b.ports
same_count a b e = sym (mapped_length setup_of a.ports) ∙ (ap (λ (xs : List Setup). length xs) e ∙ mapped_length setup_of b.ports)

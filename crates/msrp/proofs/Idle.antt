-- Where no timer is due, and where no key awaits at a port, the side stays.
use Rattle.std.proofs.Common.{◌≡◌, ◌↔◌, ℕ, List, [], ◌++◌, refl, ap, ◌∙◌}
use Rattle.std.specs.Prelude.{slice_get, slice_set, Option, Some, None}
use Rattle.srp_base.proofs.Lists.{set-same}
use Rattle.srp_base.specs.declared.{numbers.Cs.Cs, numbers.StreamId.StreamId}
use Rattle.stream_importance.specs.declared.entry.Entry.{Entry}
use Rattle.port_ledger.specs.{Book.Book, Book.booked_only_in, Decision.IsAscending, Decision.booked_of}
use Rattle.attribute_propagation.specs.Ports.{marked_elsewhere}
use Rattle.mrp_participant.specs.State.{due_state, left_keys}
use Rattle.msrp_codec.specs.declared.pdu.MsrpKey.{MsrpKey}
use Rattle.msrp.specs.PortState.{PortState}
use Rattle.msrp.specs.Part.{Part}
use Rattle.msrp.specs.{key_cmp, known_keys, moved_streams, next_book, Streams, IsKept, awaiting_at, due_streams, with_told_port, seen_by, settled_streams, with_part}
use Rattle.msrp.proofs.{Keeping.port_kept, Settled.next_is, Telling.Awaits, Telling.none_told}

-- ---- no timer is due

pub none-due : Awaits → (side : Streams) (at : ℕ) (p : PortState) → slice_get side.ports at ≡ Some p → (now : Cs) → due_state now p.part ≡ p.part
    → left_keys now p.part ≡ [] → due_streams now at side ≡ side
none-due awaits side at p here now stays none =
    rw here (ap (λ (t : Part). with_told_port at (with_part t p) (left_keys now p.part) side) stays
    ∙ (ap (λ (told : List MsrpKey). with_told_port at p told side) none
    ∙ (ap (λ (ports : List PortState). record side { ports = ports; awaiting = (with_told_port at p [] side).awaiting }) (set-same side.ports at p here)
    ∙ ap (λ (sets : List (List MsrpKey)). record side { awaiting = sets }) (none_told awaits at p.domain (known_keys side.talks side.listens side.ports) side.awaiting))))

-- ---- no key awaits

-- where the booked set is the same, no booking has changed
abbrev pub NothingChanged : Type 0
NothingChanged =
    (before after : List Entry) → IsAscending before → IsAscending after
    → ((booked_only_in after before ≡ []) × (booked_only_in before after ≡ [])) ↔ (booked_of after ≡ booked_of before)

-- no booking moves in a book that stays
none_moved : NothingChanged → (book : Book) → IsAscending book.entries → moved_streams book book ≡ []
none_moved law book up =
    let none = (law book.entries book.entries up up).1 refl in
    ap (λ (xs : List StreamId). xs ++ booked_only_in book.entries book.entries) none.0 ∙ none.1

pub none-awaits : Awaits → NothingChanged → (side : Streams) → IsKept side → (at : ℕ) → slice_get side.awaiting at ≡ Some [] → settled_streams at side ≡ side
none-awaits awaits law side kept at set = by (slice_get side.ports at) refl
  where
    by : (o : Option PortState) → slice_get side.ports at ≡ o → settled_streams at side ≡ side
    by None here = rw here refl
    by (Some p) here =
        let up = (port_kept side kept at p here).ledger.ascending in
        let none : awaiting_at at side ≡ [] = rw set refl in
        let book : next_book at (seen_by side) (awaiting_at at side) p ≡ p.ledger = ap (λ (keys : List MsrpKey). next_book at (seen_by side) keys p) none ∙ next_is at (seen_by side) [] p in
        let moved : moved_streams p.ledger (next_book at (seen_by side) (awaiting_at at side) p) ≡ [] = ap (λ (b : Book). moved_streams p.ledger b) book ∙ none_moved law p.ledger up in
        rw (here, moved, book, none)
        (ap (λ (ports : List PortState). record side { ports = ports; awaiting = slice_set (marked_elsewhere key_cmp at [] side.awaiting) at [] }) (set-same side.ports at p here)
        ∙ (ap (λ (sets : List (List MsrpKey)). record side { awaiting = slice_set sets at [] }) (awaits.none_elsewhere at side.awaiting)
        ∙ ap (λ (sets : List (List MsrpKey)). record side { awaiting = sets }) (set-same side.awaiting at [] set)))

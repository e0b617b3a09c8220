-- What octets say has events of MAC addresses alone.
use Rattle.std.proofs.Common.{◌≡◌, ℕ, ◌+◌, ◌^◌, ◌≤◌, Bool, true, false, eqb, List, [], ◌∷◌, ◌++◌, length, Option, Some, None, Result, Ok, Err, refl, subst, arith, leb-true}
use Rattle.std.specs.Prelude.{if◌then◌else◌}
use Rattle.std.specs.List.{flat_map, list_all}
use Rattle.std.proofs.lemmas.Bool.{and_parts}
use Rattle.srp_base.specs.Hexadecimal.{number_high_first}
use Rattle.srp_base.specs.declared.mrp.MrpEvent.{MrpEvent}
use Rattle.mrpdu_codec.specs.declared.{pdu.VectorAttr.VectorAttr, pdu.Message.Message, pdu.Pdu.Pdu}
use Rattle.mmrp_codec.specs.{GroupPdu, MacEvent, AreMacs, mac_vectors, events_from, vector_events, message_events, meaning, is_in_range, message_in_range, first_past, meaning_or_place, read_as}
use Rattle.mmrp_codec.proofs.PastLemmas.{past_none}

macs-append : (xs ys : List MacEvent) → AreMacs xs → AreMacs ys → AreMacs (xs ++ ys)
macs-append [] ys h k = k
macs-append (x ∷ xs) ys h k = (h.0, macs-append xs ys h.1 k)

macs-from : (mac : ℕ) (events : List MrpEvent) → mac + length events ≤ 2 ^ 48 → AreMacs (events_from mac events)
macs-from mac [] le = tt
macs-from mac (e ∷ events) le = (omega (arith, le), macs-from (mac + 1) events (omega (arith, le)))

macs-vectors : (vs : List VectorAttr) → list_all is_in_range vs ≡ true → AreMacs (flat_map vector_events vs)
macs-vectors [] h = tt
macs-vectors (v ∷ vs) h =
    let p = and_parts (is_in_range v) (list_all is_in_range vs) h in
    macs-append (vector_events v) (flat_map vector_events vs)
    (macs-from (number_high_first v.first) v.events (leb-true (number_high_first v.first + length v.events) (2 ^ 48) p.0))
    (macs-vectors vs p.1)

macs-messages : (ms : List Message) → list_all message_in_range ms ≡ true → AreMacs (flat_map message_events ms)
macs-messages [] h = tt
macs-messages (m ∷ ms) h =
    let p = and_parts (message_in_range m) (list_all message_in_range ms) h in
    macs-append (message_events m) (flat_map message_events ms) (macs-vectors (mac_vectors m) p.0) (macs-messages ms p.1)

macs-judged : (octets : List ℕ) (pdu : Pdu) (x : Option (ℕ × ℕ)) (read : GroupPdu) → first_past 0 pdu.messages ≡ x → meaning_or_place octets pdu x ≡ Ok read → AreMacs read.events
macs-judged octets pdu None read none h =
    let is : meaning pdu ≡ read = cc in
    subst (λ (m : GroupPdu). AreMacs m.events) is (macs-messages pdu.messages (past_none 0 pdu.messages none))
macs-judged octets pdu (Some x) read some h = absurd cc

pub macs-read : (octets : List ℕ) (r : Result Pdu ℕ) (read : GroupPdu) → read_as octets r ≡ Ok read → AreMacs read.events
macs-read octets (Ok pdu) read h = macs-judged octets pdu (first_past 0 pdu.messages) read refl h
macs-read octets (Err place) read h = absurd cc

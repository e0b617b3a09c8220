-- What octets say has events of VIDs alone.
use Rattle.std.proofs.Common.{◌≡◌, ℕ, ◌+◌, Bool, true, false, leb, ◌&&◌, if◌then◌else◌, List, [], ◌∷◌, ◌++◌, Result, Ok, Err, refl, subst, arith}
use Rattle.std.specs.List.{flat_map}
use Rattle.std.proofs.lemmas.Bool.Decides.{nat_tests}
use Rattle.srp_base.specs.declared.mrp.MrpEvent.{MrpEvent}
use Rattle.mrpdu_codec.specs.declared.{pdu.VectorAttr.VectorAttr, pdu.Message.Message, pdu.Pdu.Pdu}
use Rattle.mvrp_codec.specs.{MvrpPdu, first_vid, event_at, events_from, vector_events, message_events, meaning, read_as, AreVids}

pub vids-append : (xs ys : List (MrpEvent × ℕ)) → AreVids xs → AreVids ys → AreVids (xs ++ ys)
vids-append [] ys h k = k
vids-append (x ∷ xs) ys h k = (h.0, vids-append xs ys h.1 k)

vids-at : (e : MrpEvent) (vid : ℕ) → AreVids (event_at e vid)
vids-at e vid = by (leb 1 vid) refl (leb vid 4094) refl
  where
    by : (a : Bool) → leb 1 vid ≡ a → (b : Bool) → leb vid 4094 ≡ b → AreVids (if (a && b) then (e, vid) ∷ [] else [])
    by true low true high = ((grind (arith, nat_tests, low), grind (arith, nat_tests, high)), tt)
    by true low false high = tt
    by false low b high = tt

vids-from : (vid : ℕ) (events : List MrpEvent) → AreVids (events_from vid events)
vids-from vid [] = tt
vids-from vid (e ∷ events) = vids-append (event_at e vid) (events_from (vid + 1) events) (vids-at e vid) (vids-from (vid + 1) events)

vids-vectors : (vs : List VectorAttr) → AreVids (flat_map vector_events vs)
vids-vectors [] = tt
vids-vectors (v ∷ vs) = vids-append (vector_events v) (flat_map vector_events vs) (vids-from (first_vid v.first) v.events) (vids-vectors vs)

vids-messages : (ms : List Message) → AreVids (flat_map message_events ms)
vids-messages [] = tt
vids-messages (m ∷ ms) = vids-append (message_events m) (flat_map message_events ms) (vids-vectors m.vectors) (vids-messages ms)

pub vids-read : (r : Result Pdu ℕ) (read : MvrpPdu) → read_as r ≡ Ok read → AreVids read.events
vids-read (Ok pdu) read h = let is : meaning pdu ≡ read = cc in subst (λ (m : MvrpPdu). AreVids m.events) is (vids-messages pdu.messages)
vids-read (Err place) read h = absurd cc

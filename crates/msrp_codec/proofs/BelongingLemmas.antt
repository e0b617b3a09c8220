-- Of what octets say, each content belongs to its key.
use Rattle.std.proofs.Common.{ℕ, ◌+◌, List, [], ◌∷◌, ◌++◌, refl, sym, subst}
use Rattle.std.specs.Prelude.{Option, Some, None, slice_index}
use Rattle.std.specs.List.{AllByRecursion, flat_map}
use Rattle.srp_base.specs.declared.{mrp.MrpEvent.MrpEvent, numbers.StreamId.StreamId, streams.ListenerKind.ListenerKind}
use Rattle.mrpdu_codec.specs.declared.pdu.VectorAttr.{VectorAttr}
use Rattle.msrp_codec.specs.declared.attribute_type.AttributeType.{AttributeType}
use Rattle.msrp_codec.specs.declared.first_value.FirstValue.{FirstValue}
use Rattle.msrp_codec.specs.declared.first_value.FirstValue.TheVariants.{Advertise, Failed, Listener, Domain}
use Rattle.msrp_codec.specs.{MsrpPdu, type_of, first_value_of, Belongs, KeyEvent, SaysMsrp, event_at, events_from, kind_of, listener_event, message_events, typed_events, vector_events}

abbrev pub AreOwn : List KeyEvent → Type 0
AreOwn events = AllByRecursion (λ (e : KeyEvent). Belongs e.1 e.2) events

own-append : (xs ys : List KeyEvent) → AreOwn xs → AreOwn ys → AreOwn (xs ++ ys)
own-append [] ys a b = b
own-append (x ∷ xs) ys a b = (a.0, own-append xs ys a.1 b)

own-flat : {X : Type 0} (f : X → List KeyEvent) (xs : List X) → ((x : X) → AreOwn (f x)) → AreOwn (flat_map f xs)
own-flat f [] each = tt
own-flat f (x ∷ xs) each = own-append (f x) (flat_map f xs) (each x) (own-flat f xs each)

own-listener : (event : MrpEvent) (stream : StreamId) (o : Option ListenerKind) → AreOwn (listener_event event stream o)
own-listener event stream None = tt
own-listener event stream (Some kind) = (tt, tt)

own-at : (first : FirstValue) (i : ℕ) (event : MrpEvent) (n : ℕ) → AreOwn (event_at first i event n)
own-at (Advertise t) i event n = (refl, tt)
own-at (Failed t f) i event n = (refl, tt)
own-at (Listener stream) i event n = own-listener event (record { 0 = stream.0 + i }) (kind_of n)
own-at (Domain class priority vid) i event n = (tt, tt)

own-from : (first : FirstValue) (params : List ℕ) (i : ℕ) (events : List MrpEvent) → AreOwn (events_from first params i events)
own-from first params i [] = tt
own-from first params i (event ∷ events) =
    own-append (event_at first i event (slice_index params i)) (events_from first params (i + 1) events) (own-at first i event (slice_index params i)) (own-from first params (i + 1) events)

own-typed : (t : Option AttributeType) (vs : List VectorAttr) → AreOwn (typed_events t vs)
own-typed None vs = tt
own-typed (Some t) vs = own-flat (vector_events t) vs (λ v. own-from (first_value_of t v.first) v.params 0 v.events)

pub own-read : (octets : List ℕ) (read : MsrpPdu) → SaysMsrp octets read → AreOwn read.events
own-read octets read reads =
    let P : MsrpPdu → Type 0 = λ x. AreOwn x.events in
    subst P (sym reads.meant) (own-flat message_events reads.pdu.messages (λ m. own-typed (type_of m.kind) m.vectors))

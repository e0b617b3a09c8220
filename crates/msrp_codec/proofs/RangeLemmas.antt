-- What octets say fits in the fields in which it stands.
use Rattle.std.proofs.Common.{◌≡◌, ℕ, zero, suc, ◌+◌, ◌*◌, ◌/◌, ◌^◌, ◌<◌, ◌≤◌, Bool, true, false, ◌&&◌, List, [], ◌∷◌, ◌++◌, length, take, drop, Option, Some, None, sym, ap, ◌∙◌, subst, arith}
use Rattle.std.specs.Prelude.{slice_index, nat_le}
use Rattle.std.specs.List.{AllByRecursion, flat_map, fold, list_all}
use Rattle.std.proofs.Math.Nat.{pow-suc}
use Rattle.std.proofs.lemmas.Bool.{and_parts, leb-true}
use Rattle.srp_base.specs.Hexadecimal.{number_high_first}
use Rattle.srp_base.specs.declared.{mrp.MrpEvent.MrpEvent, numbers.StreamId.StreamId, streams.Talker.Talker, streams.Failure.Failure, streams.ListenerKind.ListenerKind}
use Rattle.mrpdu_codec.specs.declared.{pdu.VectorAttr.VectorAttr, pdu.Message.Message, pdu.Pdu.Pdu}
use Rattle.mrpdu_codec.specs.{Octets.AreOctets, Shape.HasOctets}
use Rattle.msrp_codec.specs.declared.attribute_type.AttributeType.{AttributeType}
use Rattle.msrp_codec.specs.declared.attribute_type.AttributeType.TheVariants as types
use Rattle.msrp_codec.specs.declared.first_value.FirstValue.{FirstValue}
use Rattle.msrp_codec.specs.declared.first_value.FirstValue.TheVariants.{Advertise, Failed, Listener, Domain}
use Rattle.msrp_codec.specs.{MsrpPdu, type_of, field, talker_of, failure_of, first_value_of, talker_after, talkers_fit, values_fit, IsTalker, IsFailure, IsFirst, value_of, KeyEvent, SaysMsrp, kind_of, listener_event, event_at, events_from, vector_events, typed_events, message_events, is_in_range, are_in_range, message_in_range, AreInRange}

-- ---- fields

octets-behind : (n : ℕ) (octets : List ℕ) → AreOctets octets → AreOctets (drop n octets)
octets-behind zero octets all = all
octets-behind (suc n) [] all = tt
octets-behind (suc n) (o ∷ octets) all = octets-behind n octets all.1

-- one octet more
more : (k number octet : ℕ) → number < 256 ^ k → octet < 256 → number * 256 + octet < 256 ^ suc k
more k number octet below o = rw (pow-suc) (omega (arith, below, o))

wider : (n k number : ℕ) → number < 256 ^ k → number < 256 ^ (n + k)
wider zero k number below =
    let e : k ≡ 0 + k = omega arith in
    subst (λ (i : ℕ). number < 256 ^ i) e below
wider (suc n) k number below =
    let e : suc (n + k) ≡ suc n + k = omega arith in
    let h = wider n k number below in
    let one : number < 256 ^ suc (n + k) = rw (pow-suc) (omega (arith, h)) in
    subst (λ (i : ℕ). number < 256 ^ i) e one

-- read on behind a number of k octets, there are so many more octets at most
behind : (n k number : ℕ) (octets : List ℕ) → AreOctets octets → number < 256 ^ k
    → fold (λ (m o : ℕ). m * 256 + o) number (take n octets) < 256 ^ (n + k)
behind zero k number octets all below = wider zero k number below
behind (suc n) k number [] all below = wider (suc n) k number below
behind (suc n) k number (o ∷ octets) all below =
    let h = behind n (suc k) (number * 256 + o) octets all.1 (more k number o below all.0) in
    let e : n + suc k ≡ suc n + k = omega arith in
    subst (λ (i : ℕ). fold (λ (m o : ℕ). m * 256 + o) (number * 256 + o) (take n octets) < 256 ^ i) e h

field-below : (octets : List ℕ) (at n : ℕ) → AreOctets octets → field octets at n < 256 ^ n
field-below octets at n all =
    let h = behind n 0 0 (drop at octets) (octets-behind at octets all) (omega arith) in
    let e : n + 0 ≡ n = omega arith in
    subst (λ (i : ℕ). field octets at n < 256 ^ i) e h

-- ---- a FirstValue

talker-first : (first : List ℕ) → AreOctets first → IsTalker (talker_of first)
talker-first first all = record {
  stream = field-below first 0 8 all;
  dest = field-below first 8 6 all;
  vid = field-below first 14 2 all;
  max_frame = field-below first 16 2 all;
  frames = field-below first 18 2 all;
  priority = let h = field-below first 20 1 all in omega (arith, h);
  latency = field-below first 21 4 all;
}

failure-first : (first : List ℕ) → AreOctets first → IsFailure (failure_of first)
failure-first first all = record { bridge = field-below first 25 8 all; code = field-below first 33 1 all }

first-fits : (t : AttributeType) (first : List ℕ) → AreOctets first → IsFirst (first_value_of t first)
first-fits types.Advertise first all = talker-first first all
first-fits types.Failed first all = (talker-first first all, failure-first first all)
first-fits types.Listener first all = field-below first 0 8 all
first-fits types.Domain first all = (field-below first 0 1 all, field-below first 1 1 all, field-below first 2 2 all)

-- ---- the events of a vector

-- a value so many places later, where the values up to it stay within their fields
talker-later : (t : Talker) (i n : ℕ) → i < n → talkers_fit t n ≡ true → IsTalker t → IsTalker (talker_after t i)
talker-later t i n lt fits is =
    let both = and_parts (nat_le (t.stream.0 + n) (2 ^ 64)) (nat_le (t.dest + n) (2 ^ 48)) fits in
    let stream = leb-true (t.stream.0 + n) (2 ^ 64) both.0 in
    let dest = leb-true (t.dest + n) (2 ^ 48) both.1 in
    record {
      stream = omega (arith, stream, lt);
      dest = omega (arith, dest, lt);
      vid = is.vid;
      max_frame = is.max_frame;
      frames = is.frames;
      priority = is.priority;
      latency = is.latency;
    }

range-append : (xs ys : List KeyEvent) → AreInRange xs → AreInRange ys → AreInRange (xs ++ ys)
range-append [] ys a b = b
range-append (x ∷ xs) ys a b = (a.0, range-append xs ys a.1 b)

range-listener : (event : MrpEvent) (stream : StreamId) (kind : Option ListenerKind) → stream.0 < 2 ^ 64 → AreInRange (listener_event event stream kind)
range-listener event stream None below = tt
range-listener event stream (Some kind) below = (below, tt)

range-at : (first : FirstValue) (i n : ℕ) (event : MrpEvent) (four_packed : ℕ) → i < n → values_fit first n ≡ true → IsFirst first → AreInRange (event_at first i event four_packed)
range-at (Advertise t) i n event four_packed lt fits is = (talker-later t i n lt fits is, tt)
range-at (Failed t failure) i n event four_packed lt fits is = ((talker-later t i n lt fits is.0, is.1), tt)
range-at (Listener stream) i n event four_packed lt fits is =
    let below = leb-true (stream.0 + n) (2 ^ 64) fits in
    range-listener event (record { 0 = stream.0 + i }) (kind_of four_packed) (omega (arith, below, lt))
range-at (Domain class priority vid) i n event four_packed lt fits is =
    let both = and_parts (nat_le (class + n) 256) (nat_le (priority + n) 256) fits in
    let c = leb-true (class + n) 256 both.0 in
    let p = leb-true (priority + n) 256 both.1 in
    ((omega (arith, c, lt), omega (arith, p, lt), is.2), tt)

range-from : (first : FirstValue) (params : List ℕ) (i : ℕ) (events : List MrpEvent) → values_fit first (i + length events) ≡ true → IsFirst first
    → AreInRange (events_from first params i events)
range-from first params i [] fits is = tt
range-from first params i (event ∷ events) fits is =
    let e : i + suc (length events) ≡ i + 1 + length events = omega arith in
    range-append (event_at first i event (slice_index params i)) (events_from first params (i + 1) events)
    (range-at first i (i + suc (length events)) event (slice_index params i) (omega arith) fits is)
    (range-from first params (i + 1) events (ap (values_fit first) (sym e) ∙ fits) is)

range-vector : (t : AttributeType) (v : VectorAttr) → is_in_range t v ≡ true → AreOctets v.first → AreInRange (vector_events t v)
range-vector t v fits all =
    let e : 0 + length v.events ≡ length v.events = omega arith in
    range-from (first_value_of t v.first) v.params 0 v.events (ap (values_fit (first_value_of t v.first)) e ∙ fits) (first-fits t v.first all)

-- ---- Messages

range-typed : (t : Option AttributeType) (vs : List VectorAttr) → are_in_range t vs ≡ true → AllByRecursion (λ (v : VectorAttr). AreOctets v.first) vs → AreInRange (typed_events t vs)
range-typed None vs fits all = tt
range-typed (Some t) [] fits all = tt
range-typed (Some t) (v ∷ vs) fits all =
    let both = and_parts (is_in_range t v) (list_all (is_in_range t) vs) fits in
    range-append (vector_events t v) (flat_map (vector_events t) vs) (range-vector t v both.0 all.0) (range-typed (Some t) vs both.1 all.1)

range-messages : (ms : List Message) → list_all message_in_range ms ≡ true → AllByRecursion (λ (m : Message). AllByRecursion (λ (v : VectorAttr). AreOctets v.first) m.vectors) ms
    → AreInRange (flat_map message_events ms)
range-messages [] fits all = tt
range-messages (m ∷ ms) fits all =
    let both = and_parts (message_in_range m) (list_all message_in_range ms) fits in
    range-append (message_events m) (flat_map message_events ms) (range-typed (type_of m.kind) m.vectors both.0 all.0) (range-messages ms both.1 all.1)

pub range-said : (octets : List ℕ) (read : MsrpPdu) (says : SaysMsrp octets read) → HasOctets says.pdu → AreInRange read.events
range-said octets read says all =
    subst (λ (x : MsrpPdu). AreInRange x.events) (sym says.meant) (range-messages says.pdu.messages says.in_range all)

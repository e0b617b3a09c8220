-- What was written reads as what was written.
use Rattle.std.proofs.Common.{◌≡◌, ℕ, ◌+◌, ◌*◌, ◌/◌, ◌%◌, ◌^◌, ◌<◌, ◌≤◌, Bool, true, false, List, [], ◌∷◌, ◌++◌, map, Some, refl, sym, ap, ◌∙◌, append-nil, arith}
use Rattle.std.specs.Prelude.{slice_index}
use Rattle.std.specs.{List.flat_map, List.list_all, List.AllByRecursion, Int.bytes_high_first}
use Rattle.std.proofs.lemmas.Bool.{and_from, le-leb}
use Rattle.srp_base.specs.Hexadecimal.{number_high_first}
use Rattle.srp_base.specs.declared.{bandwidth.Rank.Rank, bandwidth.Rank.TheVariants.Emergency, bandwidth.Rank.TheVariants.Normal, streams.Talker.Talker, streams.Failure.Failure, streams.ListenerKind.ListenerKind, numbers.StreamId.StreamId, mrp.MrpEvent.MrpEvent}
use Rattle.srp_base.specs.declared.streams.ListenerKind.TheVariants.{AskingFailed, Ready, ReadyFailed}
use Rattle.mrpdu_codec.specs.declared.pdu.VectorAttr.{VectorAttr}
use Rattle.msrp_codec.specs.declared.attribute_type.AttributeType.{AttributeType}
use Rattle.msrp_codec.specs.declared.attribute_type.AttributeType.TheVariants as types
use Rattle.msrp_codec.specs.declared.first_value.FirstValue.{FirstValue}
use Rattle.msrp_codec.specs.declared.first_value.FirstValue.TheVariants.{Advertise, Failed, Listener, Domain}
use Rattle.msrp_codec.specs.{MsrpKey, MsrpContent, rank_of, talker_of, failure_of, first_value_of, talkers_fit, values_fit, talker_after, rank_bit, talker_octets, failure_octets, first_octets, IsTalker, IsFailure, IsFirst, type_of_content, Belongs, value_of, kind_number, four_packed_for, KeyEvent, kind_of, listener_event, event_at, events_from, vector_events, is_in_range, event_vector, leave_vector, type_vectors}
use Rattle.msrp_codec.specs.declared.pdu.MsrpKey.TheVariants as keys
use Rattle.msrp_codec.specs.declared.pdu.MsrpContent.TheVariants as contents
use Rattle.msrp_codec.proofs.WritingLemmas.{vectors_more, all_later}

-- the attribute type of a FirstValue
abbrev pub type_of_first : FirstValue → AttributeType
type_of_first (Advertise t) = types.Advertise
type_of_first (Failed t f) = types.Failed
type_of_first (Listener stream) = types.Listener
type_of_first (Domain class priority vid) = types.Domain

talker : ℕ → ℕ → ℕ → ℕ → ℕ → ℕ → Rank → ℕ → Talker
talker stream dest vid max_frame frames priority rank latency = record
    { stream = record { 0 = stream }; dest = dest; vid = vid; max_frame = max_frame; frames = frames; priority = priority; rank = rank; latency = latency }

same_talker : (a1 b1 a2 b2 a3 b3 a4 b4 a5 b5 a6 b6 : ℕ) (r s : Rank) (a8 b8 : ℕ) → a1 ≡ b1 → a2 ≡ b2 → a3 ≡ b3 → a4 ≡ b4 → a5 ≡ b5 → a6 ≡ b6 → r ≡ s → a8 ≡ b8
    → talker a1 a2 a3 a4 a5 a6 r a8 ≡ talker b1 b2 b3 b4 b5 b6 s b8
same_talker a1 b1 a2 b2 a3 b3 a4 b4 a5 b5 a6 b6 r s a8 b8 e1 e2 e3 e4 e5 e6 e7 e8 = cc

priority_again : (p : ℕ) (r : Rank) → (p * 32 + rank_bit r * 16) / 32 ≡ p
priority_again p Emergency = omega arith
priority_again p Normal = omega arith

rank_again : (p : ℕ) (r : Rank) → rank_of ((p * 32 + rank_bit r * 16) / 16 % 2) ≡ r
rank_again p Emergency = let e : (p * 32 + 0) / 16 % 2 ≡ 0 = omega arith in ap rank_of e
rank_again p Normal = let e : (p * 32 + 16) / 16 % 2 ≡ 1 = omega arith in ap rank_of e

one_octet : (p : ℕ) (r : Rank) → p ≤ 7 → p * 32 + rank_bit r * 16 < 256
one_octet p Emergency le = omega arith
one_octet p Normal le = omega arith

module _ (back : (n number : ℕ) → number < 256 ^ n → number_high_first (bytes_high_first n number) ≡ number) where
  talker_again : (t : Talker) → IsTalker t → talker_of (talker_octets t) ≡ t
  unfolding talker
  talker_again t is =
      let octet = t.priority * 32 + rank_bit t.rank * 16 in
      let pr : number_high_first (bytes_high_first 1 octet) ≡ octet = back 1 octet (one_octet t.priority t.rank is.priority) in
      same_talker _ t.stream.0 _ t.dest _ t.vid _ t.max_frame _ t.frames _ t.priority _ t.rank _ t.latency
      (back 8 t.stream.0 is.stream) (back 6 t.dest is.dest) (back 2 t.vid is.vid) (back 2 t.max_frame is.max_frame) (back 2 t.frames is.frames)
      (ap (λ (n : ℕ). n / 32) pr ∙ priority_again t.priority t.rank)
      (ap (λ (n : ℕ). rank_of (n / 16 % 2)) pr ∙ rank_again t.priority t.rank)
      (back 4 t.latency is.latency)

  failure_again : (t : Talker) (f : Failure) → IsFailure f → failure_of (talker_octets t ++ failure_octets f) ≡ f
  failure_again t f is =
      ap (λ (n : ℕ). let g : Failure = record { bridge = record { 0 = n }; code = number_high_first (bytes_high_first 1 f.code) } in g) (back 8 f.bridge.0 is.bridge)
      ∙ ap (λ (n : ℕ). let g : Failure = record { bridge = f.bridge; code = n } in g) (back 1 f.code is.code)

  -- a FirstValue is read from its octets
  pub first_again : (v : FirstValue) → IsFirst v → first_value_of (type_of_first v) (first_octets v) ≡ v
  first_again (Advertise t) is = ap (λ (x : Talker). Advertise x) (talker_again t is)
  first_again (Failed t f) is = ap (λ (x : Talker). Failed x (failure_of (talker_octets t ++ failure_octets f))) (talker_again t is.0) ∙ ap (λ (x : Failure). Failed t x) (failure_again t f is.1)
  first_again (Listener stream) is = ap (λ (n : ℕ). Listener (record { 0 = n })) (back 8 stream.0 is)
  first_again (Domain class priority vid) is =
      ap (λ (n : ℕ). Domain n (number_high_first (bytes_high_first 1 priority)) (number_high_first (bytes_high_first 2 vid))) (back 1 class is.0)
      ∙ ap (λ (n : ℕ). Domain class n (number_high_first (bytes_high_first 2 vid))) (back 1 priority is.1)
      ∙ ap (λ (n : ℕ). Domain class priority n) (back 2 vid is.2)

-- one value stays within its fields
talker_fits_one : (t : Talker) → IsTalker t → talkers_fit t 1 ≡ true
talker_fits_one t is = and_from _ _ (le-leb (t.stream.0 + 1) (2 ^ 64) (omega (arith, is.stream))) (le-leb (t.dest + 1) (2 ^ 48) (omega (arith, is.dest)))

pub one_fits : (v : FirstValue) → IsFirst v → values_fit v 1 ≡ true
one_fits (Advertise t) is = talker_fits_one t is
one_fits (Failed t f) is = talker_fits_one t is.0
one_fits (Listener stream) is = le-leb (stream.0 + 1) (2 ^ 64) (omega (arith, is))
one_fits (Domain class priority vid) is = and_from _ _ (le-leb (class + 1) 256 (omega (arith, is.0))) (le-leb (priority + 1) 256 (omega (arith, is.1)))

-- ---- the event of a vector of one value

none_added : (n : ℕ) → n + 0 ≡ n
none_added n = omega arith

talker_here : (t : Talker) → talker_after t 0 ≡ t
talker_here t =
    ap (λ (n : ℕ). record t { stream = record { 0 = n }; dest = t.dest + 0 }) (none_added t.stream.0)
    ∙ ap (λ (n : ℕ). record t { dest = n }) (none_added t.dest)

stream_here : (s : StreamId) → (let r : StreamId = record { 0 = s.0 + 0 } in r) ≡ s
stream_here s = ap (λ (n : ℕ). let r : StreamId = record { 0 = n } in r) (none_added s.0)

kind_again : (kind : ListenerKind) → kind_of (kind_number kind) ≡ Some kind
kind_again AskingFailed = refl
kind_again Ready = refl
kind_again ReadyFailed = refl

-- what the value itself says
said_here : (event : MrpEvent) (key : MsrpKey) (content : MsrpContent) → Belongs key content
    → event_at (value_of key content) 0 event (slice_index (four_packed_for content) 0) ≡ (event, key, content) ∷ []
said_here event (keys.Talker stream) (contents.Advertise t) of_key =
    ap (λ (s : StreamId). let x : KeyEvent = (event, keys.Talker s, contents.Advertise (talker_after t 0)) in x ∷ []) (stream_here t.stream ∙ sym of_key)
    ∙ ap (λ (u : Talker). let x : KeyEvent = (event, keys.Talker stream, contents.Advertise u) in x ∷ []) (talker_here t)
said_here event (keys.Talker stream) (contents.Failed t f) of_key =
    ap (λ (s : StreamId). let x : KeyEvent = (event, keys.Talker s, contents.Failed (talker_after t 0) f) in x ∷ []) (stream_here t.stream ∙ sym of_key)
    ∙ ap (λ (u : Talker). let x : KeyEvent = (event, keys.Talker stream, contents.Failed u f) in x ∷ []) (talker_here t)
said_here event (keys.Listener stream) (contents.Listener kind) of_key =
    ap (λ (s : StreamId). listener_event event s (kind_of (kind_number kind))) (stream_here stream)
    ∙ ap (listener_event event stream) (kind_again kind)
said_here event (keys.Domain class) (contents.Domain priority vid) of_key =
    ap (λ (n : ℕ). let x : KeyEvent = (event, keys.Domain n, contents.Domain (priority + 0) vid) in x ∷ []) (none_added class)
    ∙ ap (λ (n : ℕ). let x : KeyEvent = (event, keys.Domain class, contents.Domain n vid) in x ∷ []) (none_added priority)
said_here event (keys.Talker stream) (contents.Listener kind) of_key = absurd of_key
said_here event (keys.Talker stream) (contents.Domain priority vid) of_key = absurd of_key
said_here event (keys.Listener stream) (contents.Advertise t) of_key = absurd of_key
said_here event (keys.Listener stream) (contents.Failed t f) of_key = absurd of_key
said_here event (keys.Listener stream) (contents.Domain priority vid) of_key = absurd of_key
said_here event (keys.Domain class) (contents.Advertise t) of_key = absurd of_key
said_here event (keys.Domain class) (contents.Failed t f) of_key = absurd of_key
said_here event (keys.Domain class) (contents.Listener kind) of_key = absurd of_key

value_type : (key : MsrpKey) (content : MsrpContent) → type_of_first (value_of key content) ≡ type_of_content content
value_type key (contents.Advertise t) = refl
value_type key (contents.Failed t f) = refl
value_type key (contents.Listener kind) = refl
value_type key (contents.Domain priority vid) = refl

-- no value passes an end
leave_in_range : (t : AttributeType) → is_in_range t (leave_vector t) ≡ true
leave_in_range types.Advertise = refl
leave_in_range types.Failed = refl
leave_in_range types.Listener = refl
leave_in_range types.Domain = refl

-- an event of a type, whose content belongs to its key and whose numbers fit in their fields
pub record IsGood (t : AttributeType) (x : KeyEvent) : Type 0 where
  pub typed : type_of_content x.2 ≡ t
  pub belongs : Belongs x.1 x.2
  pub fits : IsFirst (value_of x.1 x.2)

module _ (back : (n number : ℕ) → number < 256 ^ n → number_high_first (bytes_high_first n number) ≡ number) where
  read_first : (t : AttributeType) (leave : Bool) (x : KeyEvent) → IsGood t x → first_value_of t (event_vector leave x).first ≡ value_of x.1 x.2
  read_first t leave x good =
      ap (λ (u : AttributeType). first_value_of u (first_octets (value_of x.1 x.2))) (sym good.typed ∙ sym (value_type x.1 x.2))
      ∙ first_again back (value_of x.1 x.2) good.fits

  event_again : (t : AttributeType) (leave : Bool) (x : KeyEvent) → IsGood t x → vector_events t (event_vector leave x) ≡ x ∷ []
  event_again t leave x good =
      ap (λ (v : FirstValue). events_from v (four_packed_for x.2) 0 (x.0 ∷ [])) (read_first t leave x good)
      ∙ append-nil (event_at (value_of x.1 x.2) 0 x.0 (slice_index (four_packed_for x.2) 0))
      ∙ said_here x.0 x.1 x.2 good.belongs

  event_in_range : (t : AttributeType) (leave : Bool) (x : KeyEvent) → IsGood t x → is_in_range t (event_vector leave x) ≡ true
  event_in_range t leave x good = ap (λ (v : FirstValue). values_fit v 1) (read_first t leave x good) ∙ one_fits (value_of x.1 x.2) good.fits

  later_again : (t : AttributeType) (ys : List KeyEvent) → AllByRecursion (IsGood t) ys → flat_map (vector_events t) (map (event_vector false) ys) ≡ ys
  later_again t [] good = refl
  later_again t (y ∷ ys) good =
      ap (λ (xs : List KeyEvent). xs ++ flat_map (vector_events t) (map (event_vector false) ys)) (event_again t false y good.0)
      ∙ ap (λ (xs : List KeyEvent). y ∷ xs) (later_again t ys good.1)

  later_in_range : (t : AttributeType) (ys : List KeyEvent) → AllByRecursion (IsGood t) ys → list_all (is_in_range t) (map (event_vector false) ys) ≡ true
  later_in_range t [] good = refl
  later_in_range t (y ∷ ys) good = and_from _ _ (event_in_range t false y good.0) (later_in_range t ys good.1)

  -- the events that the vectors of a type say
  pub vectors_again : (leave : Bool) (t : AttributeType) (ys : List KeyEvent) → AllByRecursion (IsGood t) ys → flat_map (vector_events t) (type_vectors leave t ys) ≡ ys
  vectors_again true t [] good = refl
  vectors_again false t [] good = refl
  vectors_again leave t (y ∷ ys) good =
      ap (flat_map (vector_events t)) (vectors_more leave t y ys ∙ ap (λ (vs : List VectorAttr). event_vector leave y ∷ vs) (all_later t ys))
      ∙ ap (λ (xs : List KeyEvent). xs ++ flat_map (vector_events t) (map (event_vector false) ys)) (event_again t leave y good.0)
      ∙ ap (λ (xs : List KeyEvent). y ∷ xs) (later_again t ys good.1)

  pub vectors_in_range : (leave : Bool) (t : AttributeType) (ys : List KeyEvent) → AllByRecursion (IsGood t) ys → list_all (is_in_range t) (type_vectors leave t ys) ≡ true
  vectors_in_range true t [] good = and_from _ _ (leave_in_range t) refl
  vectors_in_range false t [] good = refl
  vectors_in_range leave t (y ∷ ys) good =
      ap (list_all (is_in_range t)) (vectors_more leave t y ys ∙ ap (λ (vs : List VectorAttr). event_vector leave y ∷ vs) (all_later t ys))
      ∙ and_from _ _ (event_in_range t leave y good.0) (later_in_range t ys good.1)

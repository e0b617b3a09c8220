-- The PDU that is written: it can be written, says what was written, and is small.
use Rattle.std.proofs.Common.{◌≡◌, ℕ, zero, suc, ◌+◌, ◌*◌, ◌^◌, ◌<◌, ◌≤◌, Bool, true, false, ltb, ◌||◌, inl, inr, List, [], ◌∷◌, ◌++◌, length, map, Option, Some, Result, Ok, refl, sym, ap, subst, ◌∙◌, append-nil, length-append, arith}
use Rattle.std.specs.{List.flat_map, List.list_all, List.list_any, List.sum_by, List.AllByRecursion, Int.bytes_high_first}
use Rattle.std.proofs.lemmas.{Bool.cases_Bool, Bool.and_from, Bool.le-leb, Bool.lt-ltb, Bool.ne_eqb, Bool.eq-eqb, List.Concat.flat_map-append, List.Folds.list_all-append, List.Folds.list_any-append, List.Sums.sum_by-append, List.Sums.sum_by-cons}
use Rattle.srp_base.proofs.Bools.{or_no}
use Rattle.srp_base.specs.Hexadecimal.{number_high_first}
use Rattle.srp_base.specs.declared.{mrp.MrpEvent.MrpEvent, streams.ListenerKind.ListenerKind}
use Rattle.srp_base.specs.declared.streams.ListenerKind.TheVariants.{AskingFailed, Ready, ReadyFailed}
use Rattle.mrpdu_codec.specs.declared.{form.AppForm.TheVariants.Msrp, form.TypeForm.TypeForm, pdu.VectorAttr.VectorAttr, pdu.Message.Message}
use Rattle.mrpdu_codec.specs.{Types.row_of, Tree.vectors_octets, Shape.vector_fits, Shape.vectors_fit, Shape.message_leaves, Canonical.vectors_for, Canonical.vectors_size, Canonical.message_size, Canonical.pdu_size, Canonical.message_fits, Canonical.well_formed, Reading.reading}
use Rattle.msrp_codec.specs.declared.attribute_type.AttributeType.{AttributeType}
use Rattle.msrp_codec.specs.declared.attribute_type.AttributeType.TheVariants.{Advertise, Failed, Listener, Domain}
use Rattle.msrp_codec.specs.{MsrpKey, MsrpContent, MsrpPdu, number_of_type, type_of, length_of, type_form, all_types, IsFirst, type_of_content, Belongs, octets_of_type, octets_of, value_of, KeyEvent, typed_events, message_events, vector_events, meaning, is_in_range, are_in_range, message_in_range, meaning_or_place, read_as, msrp_reading, has_type, of_type, event_vector, leave_vector, type_vectors, messages_for, type_messages, list_size, pdu_for, msrp_spelling, in_type_order, as_written, stated_octets, IsWritable}
use Rattle.msrp_codec.specs.declared.pdu.MsrpContent.TheVariants as contents
use Rattle.msrp_codec.proofs.{WritingLemmas.vectors_more, WritingLemmas.all_later, SizeLemmas.same_type, SizeLemmas.list_sized, ReadBackLemmas.IsGood, ReadBackLemmas.vectors_again, ReadBackLemmas.vectors_in_range, PastLemmas.past_all}

abbrev BelongAll : List KeyEvent → Type 0
BelongAll events = AllByRecursion (λ x. Belongs x.1 x.2) events

abbrev FitAll : List KeyEvent → Type 0
FitAll events = AllByRecursion (λ x. IsFirst (value_of x.1 x.2)) events

good_of_type : (t : AttributeType) (events : List KeyEvent) → BelongAll events → FitAll events → AllByRecursion (IsGood t) (of_type t events)
good_of_type t [] belong fit = tt
good_of_type t (x ∷ xs) belong fit =
    elim (cases_Bool (has_type t x)) [
      | inl typed ↦ rw typed (record { typed = same_type (type_of_content x.2) t typed; belongs = belong.0; fits = fit.0 }, good_of_type t xs belong.1 fit.1)
      | inr other ↦ rw other (good_of_type t xs belong.1 fit.1)
    ]

-- ---- the Message of a type

type_again : (t : AttributeType) → type_of (number_of_type t) ≡ Some t
type_again Advertise = refl
type_again Failed = refl
type_again Listener = refl
type_again Domain = refl

row_again : (t : AttributeType) → row_of Msrp (number_of_type t) ≡ Some (type_form t)
row_again Advertise = refl
row_again Failed = refl
row_again Listener = refl
row_again Domain = refl

messages_say : (t : AttributeType) (vs : List VectorAttr) → flat_map message_events (messages_for t vs) ≡ flat_map (vector_events t) vs
messages_say t [] = refl
messages_say t (v ∷ vs) =
    append-nil (typed_events (type_of (number_of_type t)) (v ∷ vs)) ∙ ap (λ (k : Option AttributeType). typed_events k (v ∷ vs)) (type_again t)

messages_in_range : (t : AttributeType) (vs : List VectorAttr) → list_all (is_in_range t) vs ≡ true → list_all message_in_range (messages_for t vs) ≡ true
messages_in_range t [] h = refl
messages_in_range t (v ∷ vs) h = and_from _ _ (ap (λ (k : Option AttributeType). are_in_range k (v ∷ vs)) (type_again t) ∙ h) refl

messages_leave : (t : AttributeType) (vs : List VectorAttr) → list_any message_leaves (messages_for t vs) ≡ list_any (λ (v : VectorAttr). v.leave_all) vs
messages_leave t [] = refl
messages_leave t (v ∷ vs) = or_no (list_any (λ (w : VectorAttr). w.leave_all) (v ∷ vs))

none_leave : (ys : List KeyEvent) → list_any (λ (v : VectorAttr). v.leave_all) (map (event_vector false) ys) ≡ false
none_leave [] = refl
none_leave (y ∷ ys) = none_leave ys

vectors_leave : (leave : Bool) (t : AttributeType) (ys : List KeyEvent) → list_any (λ (v : VectorAttr). v.leave_all) (type_vectors leave t ys) ≡ leave
vectors_leave true t [] = refl
vectors_leave false t [] = refl
vectors_leave true t (y ∷ ys) = refl
vectors_leave false t (y ∷ ys) = none_leave ys

-- ---- its vectors can be written

content_fits : (leave : Bool) (event : MrpEvent) (key : MsrpKey) (content : MsrpContent) → vector_fits (type_form (type_of_content content)) (event_vector leave (event, key, content)) ≡ true
content_fits true event key (contents.Advertise t) = refl
content_fits true event key (contents.Failed t f) = refl
content_fits true event key (contents.Listener kind) = kind_small kind where
  kind_small : (k : ListenerKind) → vector_fits (type_form Listener) (event_vector true (event, key, contents.Listener k)) ≡ true
  kind_small AskingFailed = refl
  kind_small Ready = refl
  kind_small ReadyFailed = refl
content_fits true event key (contents.Domain priority vid) = refl
content_fits false event key (contents.Advertise t) = refl
content_fits false event key (contents.Failed t f) = refl
content_fits false event key (contents.Listener kind) = kind_small kind where
  kind_small : (k : ListenerKind) → vector_fits (type_form Listener) (event_vector false (event, key, contents.Listener k)) ≡ true
  kind_small AskingFailed = refl
  kind_small Ready = refl
  kind_small ReadyFailed = refl
content_fits false event key (contents.Domain priority vid) = refl

event_fits : (leave : Bool) (t : AttributeType) (x : KeyEvent) → type_of_content x.2 ≡ t → vector_fits (type_form t) (event_vector leave x) ≡ true
event_fits leave t x typed = subst (λ (u : AttributeType). vector_fits (type_form u) (event_vector leave x) ≡ true) typed (content_fits leave x.0 x.1 x.2)

leave_fits : (t : AttributeType) → vector_fits (type_form t) (leave_vector t) ≡ true
leave_fits Advertise = refl
leave_fits Failed = refl
leave_fits Listener = refl
leave_fits Domain = refl

later_fit : (t : AttributeType) (ys : List KeyEvent) → AllByRecursion (IsGood t) ys → list_all (vector_fits (type_form t)) (map (event_vector false) ys) ≡ true
later_fit t [] good = refl
later_fit t (y ∷ ys) good = and_from _ _ (event_fits false t y good.0.typed) (later_fit t ys good.1)

vectors_fit_type : (leave : Bool) (t : AttributeType) (ys : List KeyEvent) → AllByRecursion (IsGood t) ys → list_all (vector_fits (type_form t)) (type_vectors leave t ys) ≡ true
vectors_fit_type true t [] good = and_from _ _ (leave_fits t) refl
vectors_fit_type false t [] good = refl
vectors_fit_type leave t (y ∷ ys) good =
    ap (list_all (vector_fits (type_form t))) (vectors_more leave t y ys ∙ ap (λ (vs : List VectorAttr). event_vector leave y ∷ vs) (all_later t ys))
    ∙ and_from _ _ (event_fits leave t y good.0.typed) (later_fit t ys good.1)

messages_fit : (t : AttributeType) (vs : List VectorAttr) → list_all (vector_fits (type_form t)) vs ≡ true → length (vectors_octets (vectors_for vs)) ≤ 65533
    → list_all (message_fits Msrp) (messages_for t vs) ≡ true
messages_fit t [] h small = refl
messages_fit t (v ∷ vs) h small =
    and_from _ _ (and_from _ _ (ap (λ (row : Option TypeForm). vectors_fit row (v ∷ vs)) (row_again t) ∙ h) (le-leb (length (vectors_octets (vectors_for (v ∷ vs))) + 2) 65535 (omega arith))) refl

-- ---- all four types

all_of : (p : Message → Bool) (leave : Bool) (events : List KeyEvent) → ((t : AttributeType) → list_all p (type_messages leave events t) ≡ true)
    → list_all p (flat_map (type_messages leave events) all_types) ≡ true
all_of p leave events each =
    let m = type_messages leave events in
    list_all-append p (m Advertise) (m Failed ++ (m Listener ++ (m Domain ++ [])))
    ∙ and_from _ _ (each Advertise) (list_all-append p (m Failed) (m Listener ++ (m Domain ++ []))
    ∙ and_from _ _ (each Failed) (list_all-append p (m Listener) (m Domain ++ [])
    ∙ and_from _ _ (each Listener) (list_all-append p (m Domain) [] ∙ and_from _ _ (each Domain) refl)))

say_all : (leave : Bool) (events : List KeyEvent) → ((t : AttributeType) → flat_map message_events (type_messages leave events t) ≡ of_type t events)
    → flat_map message_events (flat_map (type_messages leave events) all_types) ≡ in_type_order events
say_all leave events each =
    let m = type_messages leave events in
    let say = flat_map message_events in
    flat_map-append message_events (m Advertise) (m Failed ++ (m Listener ++ (m Domain ++ [])))
    ∙ ap (λ (xs : List KeyEvent). xs ++ say (m Failed ++ (m Listener ++ (m Domain ++ [])))) (each Advertise)
    ∙ ap (λ (xs : List KeyEvent). of_type Advertise events ++ xs) (
    flat_map-append message_events (m Failed) (m Listener ++ (m Domain ++ []))
    ∙ ap (λ (xs : List KeyEvent). xs ++ say (m Listener ++ (m Domain ++ []))) (each Failed)
    ∙ ap (λ (xs : List KeyEvent). of_type Failed events ++ xs) (
    flat_map-append message_events (m Listener) (m Domain ++ [])
    ∙ ap (λ (xs : List KeyEvent). xs ++ say (m Domain ++ [])) (each Listener)
    ∙ ap (λ (xs : List KeyEvent). of_type Listener events ++ xs) (
    flat_map-append message_events (m Domain) [] ∙ ap (λ (xs : List KeyEvent). xs ++ []) (each Domain))))

leave_all_of : (leave : Bool) (events : List KeyEvent) → list_any message_leaves (flat_map (type_messages leave events) all_types) ≡ leave
leave_all_of leave events =
    let m = type_messages leave events in
    let each : (t : AttributeType) → list_any message_leaves (m t) ≡ leave = λ t. messages_leave t (type_vectors leave t (of_type t events)) ∙ vectors_leave leave t (of_type t events) in
    list_any-append message_leaves (m Advertise) (m Failed ++ (m Listener ++ (m Domain ++ [])))
    ∙ ap (λ (b : Bool). b || list_any message_leaves (m Failed ++ (m Listener ++ (m Domain ++ [])))) (each Advertise)
    ∙ ap (λ (b : Bool). leave || b) (
    list_any-append message_leaves (m Failed) (m Listener ++ (m Domain ++ []))
    ∙ ap (λ (b : Bool). b || list_any message_leaves (m Listener ++ (m Domain ++ []))) (each Failed)
    ∙ ap (λ (b : Bool). leave || b) (
    list_any-append message_leaves (m Listener) (m Domain ++ [])
    ∙ ap (λ (b : Bool). b || list_any message_leaves (m Domain ++ [])) (each Listener)
    ∙ ap (λ (b : Bool). leave || b) (list_any-append message_leaves (m Domain) [] ∙ ap (λ (b : Bool). b || false) (each Domain))))
    ∙ four_times leave where
      four_times : (b : Bool) → (b || (b || (b || (b || false)))) ≡ b
      four_times true = refl
      four_times false = refl

-- ---- what was written is read

module _ (back : (n number : ℕ) → number < 256 ^ n → number_high_first (bytes_high_first n number) ≡ number) (read : MsrpPdu) (belong : BelongAll read.events) (fit : FitAll read.events) where
  in_range : list_all message_in_range (pdu_for read).messages ≡ true
  in_range = all_of message_in_range read.leave_all read.events (λ t.
      messages_in_range t (type_vectors read.leave_all t (of_type t read.events)) (vectors_in_range back read.leave_all t (of_type t read.events) (good_of_type t read.events belong fit)))

  meaning_again : meaning (pdu_for read) ≡ as_written read
  meaning_again =
      ap (λ (b : Bool). let m : MsrpPdu = record { leave_all = b; events = flat_map message_events (pdu_for read).messages } in m) (leave_all_of read.leave_all read.events)
      ∙ ap (λ (xs : List KeyEvent). let m : MsrpPdu = record { leave_all = read.leave_all; events = xs } in m) (say_all read.leave_all read.events (λ t.
      messages_say t (type_vectors read.leave_all t (of_type t read.events))
      ∙ vectors_again back read.leave_all t (of_type t read.events) (good_of_type t read.events belong fit)))

  pub reads_again : reading Msrp (msrp_spelling read) ≡ Ok (pdu_for read) → msrp_reading (msrp_spelling read) ≡ Ok (as_written read)
  reads_again e =
      ap (read_as (msrp_spelling read)) e
      ∙ ap (meaning_or_place (msrp_spelling read) (pdu_for read)) (past_all 0 (pdu_for read).messages in_range)
      ∙ ap (λ (m : MsrpPdu). let x : Result MsrpPdu ℕ = Ok m in x) meaning_again

-- ---- it can be written

-- a type has vectors where there is LeaveAll, or an event of it
some_message : (leave : Bool) (t : AttributeType) (ys : List KeyEvent) → (leave || ltb 0 (length ys)) ≡ true → 0 < length (messages_for t (type_vectors leave t ys))
some_message true t [] h = omega arith
some_message false t [] h = absurd cc
some_message true t (y ∷ ys) h = omega arith
some_message false t (y ∷ ys) h = omega arith

four_long : (leave : Bool) (events : List KeyEvent) → length (flat_map (type_messages leave events) all_types)
    ≡ length (type_messages leave events Advertise) + (length (type_messages leave events Failed) + (length (type_messages leave events Listener) + length (type_messages leave events Domain)))
four_long leave events =
    let m = type_messages leave events in
    omega (
      arith,
      length-append (m Advertise) (m Failed ++ (m Listener ++ (m Domain ++ []))),
      length-append (m Failed) (m Listener ++ (m Domain ++ [])),
      length-append
          (m Listener) (m Domain ++ []),
      length-append (m Domain) [],
    )

-- one of four is there
one_of : (leave : Bool) (events : List KeyEvent) (t : AttributeType) → 0 < length (type_messages leave events t) → 0 < length (flat_map (type_messages leave events) all_types)
one_of leave events Advertise h = omega (arith, four_long leave events, h)
one_of leave events Failed h = omega (arith, four_long leave events, h)
one_of leave events Listener h = omega (arith, four_long leave events, h)
one_of leave events Domain h = omega (arith, four_long leave events, h)

-- the first event has its type
first_typed : (x : KeyEvent) (xs : List KeyEvent) → (t : AttributeType) → type_of_content x.2 ≡ t → ltb 0 (length (of_type t (x ∷ xs))) ≡ true
first_typed x xs t typed =
    let same : has_type t x ≡ true = eq-eqb (number_of_type (type_of_content x.2)) (number_of_type t) (ap number_of_type typed) in
    rw same (lt-ltb 0 (suc (length (of_type t xs))) (omega arith))

some_messages : (leave : Bool) (events : List KeyEvent) → (leave || ltb 0 (length events)) ≡ true → 0 < length (flat_map (type_messages leave events) all_types)
some_messages true events h = one_of true events Advertise (some_message true Advertise (of_type Advertise events) refl)
some_messages false [] h = absurd cc
some_messages false (x ∷ xs) h =
    let t = type_of_content x.2 in
    one_of false (x ∷ xs) t (some_message false t (of_type t (x ∷ xs)) (first_typed x xs t refl))

-- ---- it is small

size_below : (leave : Bool) (t : AttributeType) (n : ℕ) → list_size leave t n ≤ 2 + length_of t + n * octets_of_type t
size_below true t zero = omega arith
size_below false t zero = omega arith
size_below leave t (suc n) = rw (ne_eqb (suc n) 0 (λ e. absurd (omega arith))) (omega arith)

-- the octets of the declarations of a type
abbrev typed_octets : AttributeType → List KeyEvent → ℕ
typed_octets t events = length (of_type t events) * octets_of_type t

abbrev octets_in_all : List KeyEvent → ℕ
octets_in_all events = sum_by (λ (x : KeyEvent). octets_of x.2) events

list_below : (leave : Bool) (t : AttributeType) (events : List KeyEvent) → vectors_size (type_vectors leave t (of_type t events)) ≤ 2 + length_of t + typed_octets t events
list_below leave t events = omega (arith, list_sized leave t events, size_below leave t (length (of_type t events)))

four_typed : (event : MrpEvent) (key : MsrpKey) (content : MsrpContent) (xs : List KeyEvent) → (let all : List KeyEvent = (event, key, content) ∷ xs in
    typed_octets Advertise all + (typed_octets Failed all + (typed_octets Listener all + typed_octets Domain all))) ≡ octets_of content +
    (typed_octets Advertise xs + (typed_octets Failed xs + (typed_octets Listener xs + typed_octets Domain xs)))
four_typed event key (contents.Advertise t) xs = omega arith
four_typed event key (contents.Failed t f) xs = omega arith
four_typed event key (contents.Listener kind) xs = omega arith
four_typed event key (contents.Domain priority vid) xs = omega arith

typed_in_all : (events : List KeyEvent) → typed_octets Advertise events + (typed_octets Failed events + (typed_octets Listener events + typed_octets Domain events)) ≡ octets_in_all events
typed_in_all [] = refl
typed_in_all (x ∷ xs) = four_typed x.0 x.1 x.2 xs ∙ ap (λ (n : ℕ). octets_of x.2 + n) (typed_in_all xs) ∙ sym (sum_by-cons (λ (y : KeyEvent). octets_of y.2) x xs)

message_below : (t : AttributeType) (vs : List VectorAttr) → sum_by (message_size Msrp) (messages_for t vs) ≤ 6 + vectors_size vs
message_below t [] = omega arith
message_below t (v ∷ vs) = omega (arith, sum_by-cons (message_size Msrp) (let m : Message = record { kind = number_of_type t; vectors = v ∷ vs } in m) [])

type_below : (leave : Bool) (t : AttributeType) (events : List KeyEvent) → sum_by (message_size Msrp) (type_messages leave events t) ≤ 8 + length_of t + typed_octets t events
type_below leave t events = omega (arith, message_below t (type_vectors leave t (of_type t events)), list_below leave t events)

four_sizes : (leave : Bool) (events : List KeyEvent) → (let m = type_messages leave events in let size = sum_by (message_size Msrp) in
    size (flat_map m all_types) ≡ size (m Advertise) + (size (m Failed) + (size (m Listener) + size (m Domain))))
four_sizes leave events =
    let m = type_messages leave events in
    omega (
      arith,
      sum_by-append (message_size Msrp) (m Advertise) (m Failed ++ (m Listener ++ (m Domain ++ []))),
      sum_by-append (message_size Msrp) (m Failed)
          (m Listener ++ (m Domain ++ [])),
      sum_by-append (message_size Msrp) (m Listener) (m Domain ++ []),
      sum_by-append (message_size Msrp) (m Domain) [],
    )

pub stated_suffice : (read : MsrpPdu) → length (msrp_spelling read) ≡ pdu_size Msrp (pdu_for read) → length (msrp_spelling read) ≤ stated_octets read.events
stated_suffice read size =
    let leave = read.leave_all in
    let events = read.events in
    omega (
      arith,
      size,
      four_sizes leave events,
      type_below leave Advertise events,
      type_below leave Failed events,
      type_below leave Listener events,
      type_below leave
          Domain events,
      typed_in_all events,
    )

typed_few : (t : AttributeType) (events : List KeyEvent) → typed_octets t events ≤ octets_in_all events
typed_few Advertise events = omega (arith, typed_in_all events)
typed_few Failed events = omega (arith, typed_in_all events)
typed_few Listener events = omega (arith, typed_in_all events)
typed_few Domain events = omega (arith, typed_in_all events)

length_small : (t : AttributeType) → length_of t ≤ 34
length_small Advertise = omega arith
length_small Failed = omega arith
length_small Listener = omega arith
length_small Domain = omega arith

pub is_well_formed : (read : MsrpPdu) → IsWritable read → FitAll read.events → ((vs : List VectorAttr) → length (vectors_octets (vectors_for vs)) ≡ vectors_size vs)
    → well_formed Msrp (pdu_for read) ≡ true
is_well_formed read w fit sizes =
    let leave = read.leave_all in
    let events = read.events in
    and_from _ _ (and_from _ _ refl (lt-ltb 0 (length (pdu_for read).messages) (some_messages leave events w.some))) (
    all_of (message_fits Msrp) leave events (λ t.
    messages_fit t (type_vectors leave t (of_type t events)) (vectors_fit_type leave t (of_type t events) (good_of_type t events w.belong fit))
    (omega (arith, sizes (type_vectors leave t (of_type t events)), list_below leave t events, typed_few t events, length_small t, w.few))))

-- How many octets the vectors of events take.
use Rattle.std.proofs.Common.{◌≡◌, ℕ, suc, ◌+◌, ◌*◌, ◌≤◌, Bool, true, false, eqb, List, [], ◌∷◌, length, map, refl, sym, ap, ◌∙◌, inl, inr, arith}
use Rattle.std.specs.List.{sum_by}
use Rattle.std.proofs.Math.Nat.{suc-mul}
use Rattle.std.proofs.lemmas.{Bool.cases_Bool, Bool.false≢true, Bool.ne_eqb, List.Sums.sum_by-cons}
use Rattle.mrpdu_codec.specs.declared.pdu.VectorAttr.{VectorAttr}
use Rattle.mrpdu_codec.specs.{Tree.vectors_octets, Canonical.vectors_for, Canonical.vector_size, Canonical.vectors_size}
use Rattle.msrp_codec.specs.declared.attribute_type.AttributeType.{AttributeType}
use Rattle.msrp_codec.specs.declared.attribute_type.AttributeType.TheVariants.{Advertise, Failed, Listener, Domain}
use Rattle.msrp_codec.specs.{MsrpContent, number_of_type, length_of, type_of_content, octets_of_type, octets_of, KeyEvent, has_type, of_type, event_vector, leave_vector, type_vectors, list_size, stated_octets}
use Rattle.msrp_codec.specs.declared.pdu.MsrpContent.TheVariants as contents
use Rattle.msrp_codec.proofs.WritingLemmas.{type_octets, vectors_more, all_later}

-- a number has one type
pub same_type : (a b : AttributeType) → eqb (number_of_type a) (number_of_type b) ≡ true → a ≡ b
same_type Advertise Advertise h = refl
same_type Failed Failed h = refl
same_type Listener Listener h = refl
same_type Domain Domain h = refl
same_type Advertise Failed h = absurd (false≢true h)
same_type Advertise Listener h = absurd (false≢true h)
same_type Advertise Domain h = absurd (false≢true h)
same_type Failed Advertise h = absurd (false≢true h)
same_type Failed Listener h = absurd (false≢true h)
same_type Failed Domain h = absurd (false≢true h)
same_type Listener Advertise h = absurd (false≢true h)
same_type Listener Failed h = absurd (false≢true h)
same_type Listener Domain h = absurd (false≢true h)
same_type Domain Advertise h = absurd (false≢true h)
same_type Domain Failed h = absurd (false≢true h)
same_type Domain Listener h = absurd (false≢true h)

-- the vector of an event alone has its stated octets
content_size : (leave : Bool) (x : KeyEvent) (content : MsrpContent) → x.2 ≡ content → vector_size (event_vector leave x) ≡ octets_of content
content_size leave x (contents.Advertise t) e = rw e refl
content_size leave x (contents.Failed t f) e = rw e refl
content_size leave x (contents.Listener kind) e = rw e refl
content_size leave x (contents.Domain priority vid) e = rw e refl

pub event_size : (leave : Bool) (x : KeyEvent) → vector_size (event_vector leave x) ≡ octets_of x.2
event_size leave x = content_size leave x x.2 refl

pub leave_size : (t : AttributeType) → vector_size (leave_vector t) ≡ 2 + length_of t
leave_size Advertise = refl
leave_size Failed = refl
leave_size Listener = refl
leave_size Domain = refl

typed_size : (leave : Bool) (t : AttributeType) (x : KeyEvent) → has_type t x ≡ true → vector_size (event_vector leave x) ≡ octets_of_type t
typed_size leave t x h = event_size leave x ∙ ap octets_of_type (same_type (type_of_content x.2) t h)

-- later events
later_size : (t : AttributeType) (events : List KeyEvent) → vectors_size (map (event_vector false) (of_type t events)) ≡ length (of_type t events) * octets_of_type t
later_size t [] = omega arith
later_size t (x ∷ xs) =
    elim (cases_Bool (has_type t x)) [
      | inl typed ↦ rw typed (
          sum_by-cons vector_size (event_vector false x) (map (event_vector false) (of_type t xs))
          ∙ ap (λ (n : ℕ). n + vectors_size (map (event_vector false) (of_type t xs))) (typed_size false t x typed)
          ∙ ap (λ (n : ℕ). octets_of_type t + n) (later_size t xs)
          ∙ omega (arith, suc-mul (length (of_type t xs)) (octets_of_type t)))
      | inr other ↦ rw other (later_size t xs)
    ]

-- the LeaveAll takes no octet
any_leave : (leave : Bool) (t : AttributeType) (y : KeyEvent) (ys : List KeyEvent) → vectors_size (type_vectors leave t (y ∷ ys)) ≡ vectors_size (map (event_vector false) (y ∷ ys))
any_leave leave t y ys =
    ap vectors_size (vectors_more leave t y ys)
    ∙ sum_by-cons vector_size (event_vector leave y) (type_vectors false t ys)
    ∙ ap (λ (n : ℕ). n + vectors_size (type_vectors false t ys)) (event_size leave y ∙ sym (event_size false y))
    ∙ ap (λ (vs : List VectorAttr). vector_size (event_vector false y) + vectors_size vs) (all_later t ys)
    ∙ sym (sum_by-cons vector_size (event_vector false y) (map (event_vector false) ys))

sized : (leave : Bool) (t : AttributeType) (ys : List KeyEvent) → vectors_size (map (event_vector false) ys) ≡ length ys * octets_of_type t
    → vectors_size (type_vectors leave t ys) ≡ list_size leave t (length ys)
sized true t [] h = sum_by-cons vector_size (leave_vector t) [] ∙ omega (arith, leave_size t)
sized false t [] h = refl
sized leave t (y ∷ ys) h =
    any_leave leave t y ys ∙ h ∙ rw (ne_eqb (suc (length ys)) 0 (λ e. absurd (omega arith))) refl

pub list_sized : (leave : Bool) (t : AttributeType) (events : List KeyEvent) → vectors_size (type_vectors leave t (of_type t events)) ≡ list_size leave t (length (of_type t events))
list_sized leave t events = sized leave t (of_type t events) (later_size t events)

-- the octets that were counted are those that are written
pub list_counted : ((vs : List VectorAttr) → length (vectors_octets (vectors_for vs)) ≡ vectors_size vs) → (leave : Bool) (t : AttributeType) (events : List KeyEvent) (n size : ℕ)
    → n ≡ length (of_type t events) → size ≡ list_size leave t n → size ≡ length (type_octets leave t events)
list_counted sizes leave t events n size e f = f ∙ ap (list_size leave t) e ∙ sym (sizes (type_vectors leave t (of_type t events)) ∙ list_sized leave t events)

-- ---- how many octets in all

some_octets : (t : AttributeType) → 1 ≤ octets_of_type t
some_octets Advertise = omega arith
some_octets Failed = omega arith
some_octets Listener = omega arith
some_octets Domain = omega arith

each_some : (events : List KeyEvent) → length events ≤ sum_by (λ (x : KeyEvent). octets_of x.2) events
each_some [] = omega arith
each_some (x ∷ xs) = omega (arith, sum_by-cons (λ (y : KeyEvent). octets_of y.2) x xs, some_octets (type_of_content x.2), each_some xs)

pub few_events : (events : List KeyEvent) → stated_octets events ≤ 1500 → length events ≤ 1500
few_events events few = omega (arith, each_some events, few)

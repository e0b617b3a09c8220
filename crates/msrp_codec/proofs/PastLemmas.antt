-- The first vector whose values pass the end of a field, and its place.
use Rattle.std.proofs.Common.{◌≡◌, ℕ, ◌+◌, Bool, true, false, List, [], ◌∷◌, take, Option, Some, None, refl, sym, ap, subst, ◌∙◌, arith}
use Rattle.std.specs.Prelude.{slice_get, if◌then◌else◌}
use Rattle.std.specs.{List.list_all, Option.unwrap_or}
use Rattle.mrpdu_codec.specs.declared.{form.AppForm.TheVariants.Msrp, pdu.VectorAttr.VectorAttr, pdu.Message.Message, pdu.Pdu.Pdu}
use Rattle.mrpdu_codec.specs.{Grammar.Spells, Places.first_places, Places.AllStandAt}
use Rattle.mrpdu_codec.proofs.{FirstFailing.first_failing, FirstFailing.IsSearch, FirstFailing.past_none as none_fails, FirstFailing.past_all as all_fit, FirstFailing.past_some as some_fails, FirstFailing.past_at as fails_at, PlacesStand.has_place}
use Rattle.msrp_codec.specs.declared.attribute_type.AttributeType.{AttributeType}
use Rattle.msrp_codec.specs.{type_of, is_in_range, are_in_range, message_in_range, first_past_in, typed_past, found_in, first_past, place_in, PassesEnd}

-- ---- vectors, by the type of their Message

in_vectors : (t : AttributeType) (i : ℕ) (vs : List VectorAttr) → first_past_in t i vs ≡ first_failing (is_in_range t) i vs
in_vectors t i [] = refl
in_vectors t i (v ∷ vs) = ap (λ (o : Option ℕ). if is_in_range t v then o else Some i) (in_vectors t (i + 1) vs)

abbrev fits_type : Option AttributeType → VectorAttr → Bool
fits_type None v = true
fits_type (Some t) v = is_in_range t v

all_in_range : (kind : Option AttributeType) (vs : List VectorAttr) → are_in_range kind vs ≡ list_all (fits_type kind) vs
all_in_range None [] = refl
all_in_range None (v ∷ vs) = all_in_range None vs
all_in_range (Some t) vs = refl

none_untyped : (i : ℕ) (vs : List VectorAttr) → None ≡ first_failing (fits_type None) i vs
none_untyped i [] = refl
none_untyped i (v ∷ vs) = none_untyped (i + 1) vs

in_typed : (kind : Option AttributeType) (vs : List VectorAttr) → typed_past kind vs ≡ first_failing (fits_type kind) 0 vs
in_typed None vs = none_untyped 0 vs
in_typed (Some t) vs = in_vectors t 0 vs

typed : (kind : Option AttributeType) (v : VectorAttr) → fits_type kind v ≡ false → (t : AttributeType) × (kind ≡ Some t) × (is_in_range t v ≡ false)
typed None v h = absurd cc
typed (Some t) v h = (t, refl, h)

-- ---- Messages

abbrev looked : Message → List VectorAttr
looked m = m.vectors

abbrev fits : Message → VectorAttr → Bool
fits m v = fits_type (type_of m.kind) v

search : IsSearch looked fits message_in_range first_past
search = record {
  whole = λ m. all_in_range (type_of m.kind) m.vectors;
  ends = λ i. refl;
  later = λ i m ms e. ap (λ (o : Option ℕ). found_in i o (first_past (i + 1) ms)) (in_typed (type_of m.kind) m.vectors ∙ e);
  found = λ i m ms y e. ap (λ (o : Option ℕ). found_in i o (first_past (i + 1) ms)) (in_typed (type_of m.kind) m.vectors ∙ e);
}

pub past_none : (i : ℕ) (ms : List Message) → first_past i ms ≡ None → list_all message_in_range ms ≡ true
past_none i ms h = none_fails looked fits message_in_range first_past search i ms h

pub past_all : (i : ℕ) (ms : List Message) → list_all message_in_range ms ≡ true → first_past i ms ≡ None
past_all i ms h = all_fit looked fits message_in_range first_past search i ms h

pub past_at : (i : ℕ) (ms : List Message) (n y : ℕ) (m : Message) (t : AttributeType) (v : VectorAttr) → slice_get ms n ≡ Some m → type_of m.kind ≡ Some t → slice_get m.vectors y ≡ Some v
    → is_in_range t v ≡ false → list_all message_in_range (take n ms) ≡ true → list_all (is_in_range t) (take y m.vectors) ≡ true → first_past i ms ≡ Some (i + n, y)
past_at i ms n y m t v is_message is_type is_vector passes before_m before_v =
    fails_at looked fits message_in_range first_past search i ms n y m v is_message is_vector
    (ap (λ (o : Option AttributeType). fits_type o v) is_type ∙ passes) before_m
    (ap (λ (o : Option AttributeType). list_all (fits_type o) (take y m.vectors)) is_type ∙ before_v)

-- what was found is a value that passes the end of its field, at its place
pub passes_end : (octets : List ℕ) (pdu : Pdu) (x : ℕ × ℕ) → Spells Msrp octets pdu → AllStandAt octets (first_places Msrp octets) pdu.messages → first_past 0 pdu.messages ≡ Some x
    → PassesEnd octets (place_in octets x)
passes_end octets pdu x spelled stand found =
    let past = some_fails looked fits message_in_range first_past search 0 pdu.messages x.0 x.1 found in
    let kind = typed (type_of past.m.kind) past.v past.passes in
    let number : past.n ≡ x.0 = omega (arith, past.number) in
    let is_message = subst (λ (j : ℕ). slice_get pdu.messages j ≡ Some past.m) number past.is_message in
    let place = has_place octets (first_places Msrp octets) pdu.messages x.0 x.1 past.m past.v stand is_message past.is_vector in
    let value : place.0 ≡ place_in octets x = sym (ap (λ (o : Option ℕ). unwrap_or o 0) place.1) in
    record {
      pdu = pdu;
      spelled = spelled;
      message = x.0;
      vector = x.1;
      m = past.m;
      v = past.v;
      t = kind.0;
      is_message = is_message;
      is_vector = past.is_vector;
      is_type = kind.1;
      passes = kind.2;
      earlier_messages = subst (λ (j : ℕ). list_all message_in_range (take j pdu.messages) ≡ true) number past.earlier_messages;
      earlier_vectors = ap (λ (o : Option AttributeType). list_all (fits_type o) (take x.1 past.m.vectors)) (sym kind.1) ∙ past.earlier_vectors;
      stands = place.1 ∙ ap (λ (k : ℕ). Some k) value;
    }

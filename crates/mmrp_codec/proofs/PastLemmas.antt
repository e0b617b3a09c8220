-- The first vector whose values pass 48 bits, and its place.
use Rattle.std.proofs.Common.{◌≡◌, ℕ, ◌+◌, Bool, true, false, eqb, List, [], ◌∷◌, take, Option, Some, None, refl, sym, ap, subst, ◌∙◌, arith}
use Rattle.std.specs.Prelude.{slice_get, if◌then◌else◌}
use Rattle.std.specs.{List.list_all, Option.unwrap_or}
use Rattle.mrpdu_codec.specs.declared.{form.AppForm.TheVariants.Mmrp, pdu.VectorAttr.VectorAttr, pdu.Message.Message, pdu.Pdu.Pdu}
use Rattle.mrpdu_codec.specs.{Grammar.Spells, Places.first_places, Places.AllStandAt}
use Rattle.mrpdu_codec.proofs.{FirstFailing.first_failing, FirstFailing.IsSearch, FirstFailing.past_none as none_fails, FirstFailing.past_all as all_fit, FirstFailing.past_some as some_fails, FirstFailing.past_at as fails_at, PlacesStand.has_place}
use Rattle.mmrp_codec.specs.{mac_vectors, is_in_range, message_in_range, first_past_in, found_in, first_past, place_in, PassesEnd}

in_vectors : (i : ℕ) (vs : List VectorAttr) → first_past_in i vs ≡ first_failing is_in_range i vs
in_vectors i [] = refl
in_vectors i (v ∷ vs) = ap (λ (o : Option ℕ). if is_in_range v then o else Some i) (in_vectors (i + 1) vs)

abbrev fits : Message → VectorAttr → Bool
fits m v = is_in_range v

search : IsSearch mac_vectors fits message_in_range first_past
search = record {
  whole = λ m. refl;
  ends = λ i. refl;
  later = λ i m ms e. ap (λ (o : Option ℕ). found_in i o (first_past (i + 1) ms)) (in_vectors 0 (mac_vectors m) ∙ e);
  found = λ i m ms y e. ap (λ (o : Option ℕ). found_in i o (first_past (i + 1) ms)) (in_vectors 0 (mac_vectors m) ∙ e);
}

pub past_none : (i : ℕ) (ms : List Message) → first_past i ms ≡ None → list_all message_in_range ms ≡ true
past_none i ms h = none_fails mac_vectors fits message_in_range first_past search i ms h

pub past_all : (i : ℕ) (ms : List Message) → list_all message_in_range ms ≡ true → first_past i ms ≡ None
past_all i ms h = all_fit mac_vectors fits message_in_range first_past search i ms h

pub past_at : (i : ℕ) (ms : List Message) (n y : ℕ) (m : Message) (v : VectorAttr) → slice_get ms n ≡ Some m → slice_get (mac_vectors m) y ≡ Some v
    → is_in_range v ≡ false → list_all message_in_range (take n ms) ≡ true → list_all is_in_range (take y (mac_vectors m)) ≡ true → first_past i ms ≡ Some (i + n, y)
past_at i ms n y m v is_message is_vector passes before_m before_v =
    fails_at mac_vectors fits message_in_range first_past search i ms n y m v is_message is_vector passes before_m before_v

-- a vector of MAC addresses is the vector of that number in its Message
mac_vector : (m : Message) (y : ℕ) (v : VectorAttr) → slice_get (mac_vectors m) y ≡ Some v → slice_get m.vectors y ≡ Some v
mac_vector m y v h = by (eqb m.kind 2) h
  where
    by : (b : Bool) → slice_get (if b then m.vectors else []) y ≡ Some v → slice_get m.vectors y ≡ Some v
    by true h = h
    by false h = absurd cc

-- what was found is a value that passes 48 bits, at its place
pub passes_end : (octets : List ℕ) (pdu : Pdu) (x : ℕ × ℕ) → Spells Mmrp octets pdu → AllStandAt octets (first_places Mmrp octets) pdu.messages → first_past 0 pdu.messages ≡ Some x
    → PassesEnd octets (place_in octets x)
passes_end octets pdu x spelled stand found =
    let past = some_fails mac_vectors fits message_in_range first_past search 0 pdu.messages x.0 x.1 found in
    let number : past.n ≡ x.0 = omega (arith, past.number) in
    let is_message = subst (λ (j : ℕ). slice_get pdu.messages j ≡ Some past.m) number past.is_message in
    let place = has_place octets (first_places Mmrp octets) pdu.messages x.0 x.1 past.m past.v stand is_message (mac_vector past.m x.1 past.v past.is_vector) in
    let there : place.0 ≡ place_in octets x = sym (ap (λ (o : Option ℕ). unwrap_or o 0) place.1) in
    record {
      pdu = pdu;
      spelled = spelled;
      message = x.0;
      vector = x.1;
      m = past.m;
      v = past.v;
      is_message = is_message;
      is_vector = past.is_vector;
      passes = past.passes;
      earlier_messages = subst (λ (j : ℕ). list_all message_in_range (take j pdu.messages) ≡ true) number past.earlier_messages;
      earlier_vectors = past.earlier_vectors;
      stands = place.1 ∙ ap (λ (k : ℕ). Some k) there;
    }

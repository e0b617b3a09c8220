-- What a PDU that octets spell looks like: known types, and vectors of their forms.
use Rattle.std.proofs.Common.{◌≡◌, ℕ, zero, suc, ◌*◌, ◌/◌, ◌%◌, ◌<◌, Bool, true, false, cond, leb, ltb, eqb, ◌&&◌, ◌||◌, inl, inr, List, [], ◌∷◌, ◌++◌, length, take, map, Option, Some, None, refl, sym, ap, ◌∙◌, length-append, arith}
use Rattle.std.specs.List.{flat_map, list_all}
use Rattle.std.proofs.lemmas.{Bool.cases_Bool, Bool.and_from, Bool.and_parts, Bool.le-leb, Bool.lt-ltb, Bool.eq-eqb, Bool.eqb-true, Bool.ltb-false, List.length-take-le}
use Rattle.mrpdu_codec.specs.{AppForm, Mvrp, Msrp, Mmrp, TypeForm, Pdu, quarters, three_events, four_params, row_of, Vector, header, count, AllUpTo, IsVector, AreVectors, attr_of, AttributeList, list_attrs, IsBody, length_fits, MessageTree, AreMessages, messages_from, messages_meant, Spells, vector_fits, vectors_fit, has_form}
use Rattle.mrpdu_codec.specs.Tree.AttributeList.{Vectors, Skipped}

-- ---- lists

all_take : {A : Type 0} (p : A → Bool) (n : ℕ) (xs : List A) → list_all p xs ≡ true → list_all p (take n xs) ≡ true
all_take p zero xs h = refl
all_take p (suc n) [] h = refl
all_take p (suc n) (x ∷ xs) h = let q = and_parts (p x) (list_all p xs) h in and_from _ _ q.0 (all_take p n xs q.1)

all_append : {A : Type 0} (p : A → Bool) (xs ys : List A) → list_all p xs ≡ true → list_all p ys ≡ true → list_all p (xs ++ ys) ≡ true
all_append p [] ys h k = k
all_append p (x ∷ xs) ys h k = let q = and_parts (p x) (list_all p xs) h in and_from _ _ q.0 (all_append p xs ys q.1 k)

-- ---- a vector

pub three_each : (octets : List ℕ) → length (flat_map three_events octets) ≡ 3 * length octets
three_each [] = refl
three_each (o ∷ octets) = omega (arith, length-append (three_events o) (flat_map three_events octets), three_each octets)

pub four_each : (octets : List ℕ) → length (flat_map four_params octets) ≡ 4 * length octets
four_each [] = refl
four_each (o ∷ octets) = omega (arith, length-append (four_params o) (flat_map four_params octets), four_each octets)

small_each : (octets : List ℕ) → AllUpTo 255 octets → list_all (λ p. leb p 3) (flat_map four_params octets) ≡ true
small_each [] h = refl
small_each (o ∷ octets) h = grind (arith, small_each octets h.1, all_append, and_from, le-leb)

params_formed : (b : Bool) (n events : ℕ) (fours : List ℕ) → length fours ≡ cond b (quarters n) 0 → AllUpTo 255 fours → events ≡ n
    → (let params = take n (flat_map four_params fours) in cond b (eqb (length params) events && list_all (λ p. leb p 3) params) (eqb (length params) 0)) ≡ true
params_formed b n events fours h1 h2 h3 = grind (arith, length-take-le, four_each, and_from, eq-eqb, all_take, small_each)

leave_or_some : (h : ℕ) → 0 < h → (ltb 0 (h / 8192) || ltb 0 (h % 8192)) ≡ true
leave_or_some h some = grind (arith, cases_Bool, ltb-false, lt-ltb)

vector_formed : (row : TypeForm) (len : ℕ) (v : Vector) → len ≡ row.length → IsVector (Some row) len v → vector_fits row (attr_of v) ≡ true
vector_formed row len v e is = grind (arith, length-take-le, three_each, and_from, eq-eqb, leave_or_some, le-leb, params_formed)

vectors_formed : (row : TypeForm) (len : ℕ) (vs : List Vector) → len ≡ row.length → AreVectors (Some row) len vs → list_all (vector_fits row) (map attr_of vs) ≡ true
vectors_formed row len [] e all = refl
vectors_formed row len (v ∷ vs) e all = and_from _ _ (vector_formed row len v e all.0) (vectors_formed row len vs e all.1)

-- ---- a Message

region_formed : (form : AppForm) (row : TypeForm) (len : ℕ) (list_length : List ℕ) (region : AttributeList) (mark : List ℕ) → len ≡ row.length → IsBody form (Some row) len list_length region mark
    → list_all (vector_fits row) (list_attrs region) ≡ true
region_formed form row len list_length region mark h1 h2 = grind (arith, vectors_formed)

message_formed : (form : AppForm) (row : Option TypeForm) (kind len : ℕ) (list_length : List ℕ) (region : AttributeList) (mark : List ℕ) → row_of form kind ≡ row → length_fits row len ≡ true
    → IsBody form row len list_length region mark → list_all (has_form form) (messages_from row kind (list_attrs region)) ≡ true
message_formed form row kind len list_length region mark h1 h2 h3 = grind (arith, and_from, region_formed, eqb-true)

messages_formed : (form : AppForm) (bs : List MessageTree) (after : Option (List ℕ)) → AreMessages form bs after → list_all (has_form form) (flat_map (messages_meant form) bs) ≡ true
messages_formed form [] after all = refl
messages_formed form (b ∷ bs) after all = grind (arith, messages_formed form bs after all.2, all_append, message_formed)

pub pdu_formed : (form : AppForm) (octets : List ℕ) (pdu : Pdu) → Spells form octets pdu → list_all (has_form form) pdu.messages ≡ true
pdu_formed form octets pdu s = ap (λ (p : Pdu). list_all (has_form form) p.messages) s.meaning ∙ messages_formed form s.tree.messages s.tree.after s.rules.messages

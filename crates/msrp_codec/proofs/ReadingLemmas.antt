-- What a PDU that was read in place says of its vectors, and loops over values, vectors and Messages.
use Rattle.std.proofs.Common.{◌≡◌, ℕ, ◌+◌, ◌≤◌, ◌^◌, true, eqb, leb, ◌&&◌, inl, inr, List, map, Some, sym, ◌∙◌, subst, arith}
use Rattle.std.specs.List.{list_all, flat_map}
use Rattle.std.proofs.lemmas.{List.Folds.list_all-map, List.Folds.flat_map-map, Bool.cases_Bool, Bool.and_parts, Bool.and_from, Bool.leb-true, Bool.le-leb}
use Rattle.mrpdu_codec.specs.declared.{raw.RawVector.RawVector, raw.RawMessage.RawMessage, form.AppForm.TheVariants.Msrp, pdu.VectorAttr.VectorAttr}
use Rattle.mrpdu_codec.specs.{Raw.attr_in, Raw.attrs_in, Raw.message_in, Shape.vector_fits, Shape.vectors_fit, Shape.has_form, Types.row_of}
use Rattle.msrp_codec.specs.{fits_in_place, events_in_place, vector_events, message_events, type_of, type_form, values_fit}
use Rattle.msrp_codec.specs.declared.attribute_type.AttributeType.{AttributeType}
use Rattle.msrp_codec.specs.declared.attribute_type.AttributeType.TheVariants.{Advertise, Failed, Listener, Domain}
use Rattle.msrp_codec.specs.declared.first_value.FirstValue.{FirstValue}
use Rattle.msrp_codec.specs.declared.first_value.FirstValue.TheVariants as firsts

-- ---- fewer values

fewer : (a m n limit : ℕ) → leb (a + n) limit ≡ true → m ≤ n → leb (a + m) limit ≡ true
fewer a m n limit h le = le-leb (a + m) limit (omega (arith, leb-true (a + n) limit h))

both_fewer : (a b m n p q : ℕ) → (leb (a + n) p && leb (b + n) q) ≡ true → m ≤ n → (leb (a + m) p && leb (b + m) q) ≡ true
both_fewer a b m n p q h le =
    let parts = and_parts (leb (a + n) p) (leb (b + n) q) h in
    and_from (leb (a + m) p) (leb (b + m) q) (fewer a m n p parts.0 le) (fewer b m n q parts.1 le)

pub fits_fewer : (first : FirstValue) (m n : ℕ) → values_fit first n ≡ true → m ≤ n → values_fit first m ≡ true
fits_fewer (firsts.Advertise t) m n h le = both_fewer t.stream.0 t.dest m n (2 ^ 64) (2 ^ 48) h le
fits_fewer (firsts.Failed t f) m n h le = both_fewer t.stream.0 t.dest m n (2 ^ 64) (2 ^ 48) h le
fits_fewer (firsts.Listener stream) m n h le = fewer stream.0 m n (2 ^ 64) h le
fits_fewer (firsts.Domain class priority vid) m n h le = both_fewer class priority m n 256 256 h le

-- ---- the types of Messages

-- the vectors of a type have its form
pub typed_vectors_fit : (kind : ℕ) (t : AttributeType) (vs : List VectorAttr) → vectors_fit (row_of Msrp kind) vs ≡ true → type_of kind ≡ Some t → list_all (vector_fits (type_form t)) vs ≡ true
typed_vectors_fit kind t vs fits is =
    elim (cases_Bool (eqb kind 1)) [
      | inl one ↦ let e = rw one at fits in let i = rw one at is in let same : Advertise ≡ t = cc in subst (λ (x : AttributeType). list_all (vector_fits (type_form x)) vs ≡ true) same e
      | inr not_one ↦
          elim (cases_Bool (eqb kind 2)) [
            | inl two ↦ let e = rw (not_one, two) at fits in let i = rw (not_one, two) at is in let same : Failed ≡ t = cc
                in subst (λ (x : AttributeType). list_all (vector_fits (type_form x)) vs ≡ true) same e
            | inr not_two ↦
                elim (cases_Bool (eqb kind 3)) [
                  | inl three ↦ let e = rw (not_one, not_two, three) at fits in let i = rw (not_one, not_two, three) at is in let same : Listener ≡ t = cc
                      in subst (λ (x : AttributeType). list_all (vector_fits (type_form x)) vs ≡ true) same e
                  | inr not_three ↦
                      elim (cases_Bool (eqb kind 4)) [
                        | inl four ↦ let e = rw (not_one, not_two, not_three, four) at fits in let i = rw (not_one, not_two, not_three, four) at is
                            in let same : Domain ≡ t = cc in subst (λ (x : AttributeType). list_all (vector_fits (type_form x)) vs ≡ true) same e
                        | inr not_four ↦ let i = rw (not_one, not_two, not_three, not_four) at is in absurd cc
                      ]
                ]
          ]
    ]

-- ---- in place

-- vectors in place have the form of their type
pub typed_in_place : (kind : ℕ) (t : AttributeType) (raws : List RawVector) → vectors_fit (row_of Msrp kind) (attrs_in raws) ≡ true → type_of kind ≡ Some t → list_all (fits_in_place t) raws ≡ true
typed_in_place kind t raws fits is = sym (list_all-map (vector_fits (type_form t)) attr_in raws) ∙ typed_vectors_fit kind t (attrs_in raws) fits is

-- their events are those of the Message
pub events_meant : (t : AttributeType) (raws : List RawVector) → flat_map (vector_events t) (attrs_in raws) ≡ flat_map (events_in_place t) raws
events_meant t raws = flat_map-map (vector_events t) attr_in raws

-- the same of Messages
pub forms_in_place : (raws : List RawMessage) → list_all (has_form Msrp) (map message_in raws) ≡ true → list_all (λ m. has_form Msrp (message_in m)) raws ≡ true
forms_in_place raws h = sym (list_all-map (has_form Msrp) message_in raws) ∙ h

pub messages_meant : (raws : List RawMessage) → flat_map message_events (map message_in raws) ≡ flat_map (λ m. message_events (message_in m)) raws
messages_meant raws = flat_map-map message_events message_in raws

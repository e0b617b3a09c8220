-- The canonical tree of a PDU that can be written meets the rules, and means the PDU.
use Rattle.std.proofs.Common.{◌≡◌, ℕ, zero, suc, ◌+◌, ◌/◌, ◌%◌, ◌<◌, ◌≤◌, Bool, true, false, cond, leb, ltb, eqb, ◌&&◌, ◌||◌, List, [], ◌∷◌, ◌++◌, length, take, drop, map, Option, Some, None, inr, refl, sym, ap, subst, ◌∙◌, arith}
use Rattle.std.specs.List.{flat_map, list_all, AllByRecursion}
use Rattle.std.proofs.lemmas.{Bool.false≢true, Bool.and_parts, Bool.leb-true, Bool.le-leb, Bool.lt-ltb, Bool.le-ltb, Bool.ltb-true, Bool.eqb-true, Bool.eq-eqb, List.drop_at}
use Rattle.srp_base.specs.declared.mrp.MrpEvent.{MrpEvent}
use Rattle.mrpdu_codec.specs.{AppForm, Mvrp, Msrp, Mmrp, TypeForm, VectorAttr, Message, Pdu, number, thirds, quarters, three_events, four_params, row_of, AllUpTo, IsVector, AreVectors, attr_of, vectors_octets, IsBody, length_fits, IsMessage, messages_from, messages_meant, AreMessages, Spells, pack_events, pack_params, header_for, vector_for, vectors_for, list_length_for, length_for, message_for, tree_for, spelling, message_fits, well_formed, CanPut, vector_fits, vectors_fit, has_form}
use Rattle.mrpdu_codec.specs.Tree.AttributeList.{Vectors}
use Rattle.mrpdu_codec.proofs.Packed.{events_again, packed_length, packed_limit_holds, params_again, fours_length, fours_limit}

-- ---- a vector

record HeaderFacts (b : Bool) (n h : ℕ) : Type 0 where
  some : 0 < h
  limit : leb (h / 8192) 1 ≡ true
  counted : h % 8192 ≡ n
  leave_all : ltb 0 (h / 8192) ≡ b

header_facts : (b : Bool) (n : ℕ) → n ≤ 8191 → (b || ltb 0 n) ≡ true → HeaderFacts b n (cond b 8192 0 + n)
header_facts true n few some = record { some = omega arith; limit = le-leb ((8192 + n) / 8192) 1 (omega arith); counted = omega arith; leave_all = lt-ltb 0 ((8192 + n) / 8192) (omega arith) }
header_facts false n few some =
    let above = ltb-true 0 n some in
    record { some = omega arith; limit = le-leb ((0 + n) / 8192) 1 (omega arith); counted = omega arith; leave_all = le-ltb 0 ((0 + n) / 8192) (omega arith) }

record ParamsFacts (b : Bool) (n : ℕ) (params : List ℕ) : Type 0 where
  len : length (pack_params params) ≡ cond b (quarters n) 0
  limit : AllUpTo 255 (pack_params params)
  again : take n (flat_map four_params (pack_params params)) ≡ params

take_nil : (n : ℕ) → take {A = ℕ} n [] ≡ []
take_nil n = grind arith

params_facts : (b : Bool) (n : ℕ) (params : List ℕ) → cond b (eqb (length params) n && list_all (λ p. leb p 3) params) (eqb (length params) 0) ≡ true → ParamsFacts b n params
params_facts true n params h =
    let p = and_parts (eqb (length params) n) (list_all (λ q. leb q 3) params) h in
    let e = eqb-true (length params) n p.0 in
    record { len = fours_length params ∙ ap quarters e; limit = fours_limit params p.1; again = ap (λ (k : ℕ). take k (flat_map four_params (pack_params params))) (sym e) ∙ params_again params p.1 }
params_facts false n [] h = record { len = refl; limit = tt; again = take_nil n }
params_facts false n (p ∷ params) h = let e = eqb-true (suc (length params)) 0 h in absurd (omega arith)

pub header_again : (h : ℕ) → number (h / 256) (h % 256) ≡ h
header_again h = omega arith

attr_is : (b c : Bool) (first : List ℕ) (es fs : List MrpEvent) (ps qs : List ℕ) → b ≡ c → es ≡ fs → ps ≡ qs
    → (let v : VectorAttr = record { leave_all = b; first = first; events = es; params = ps } in v) ≡ record { leave_all = c; first = first; events = fs; params = qs }
attr_is b c first es fs ps qs e f g = grind arith

vector_again : (t : TypeForm) (v : VectorAttr) → vector_fits t v ≡ true → IsVector (Some t) t.length (vector_for v) × (attr_of (vector_for v) ≡ v)
vector_again t v fits =
    let p = and_parts _ _ fits in
    let q = and_parts _ _ p.0 in
    let r = and_parts _ _ q.0 in
    let n = length v.events in
    let h = header_for v in
    let e = header_again h in
    let few : n ≤ 8191 = leb-true n 8191 q.1 in
    let f = header_facts v.leave_all n few r.1 in
    let g = params_facts t.four_packed n v.params p.1 in
    let counted : number (h / 256) (h % 256) % 8192 ≡ n = ap (λ (x : ℕ). x % 8192) e ∙ f.counted in (
      record {
        no_mark = omega (arith, e, f.some);
        leave_all = ap (λ (x : ℕ). leb (x / 8192) 1) e ∙ f.limit;
        first = eqb-true (length v.first) t.length r.0;
        three_packed = packed_length v.events ∙ ap thirds (sym counted);
        events = packed_limit_holds v.events;
        four_packed = g.len ∙ ap (λ (x : ℕ). cond t.four_packed (quarters x) 0) (sym counted);
        params = g.limit;
      },
      attr_is _ v.leave_all v.first _ v.events _ v.params
          (ap (λ (x : ℕ). ltb 0 (x / 8192)) e ∙ f.leave_all)
          (ap (λ (x : ℕ). take x (flat_map three_events (pack_events v.events))) counted ∙ events_again v.events)
          (ap (λ (x : ℕ). take x (flat_map four_params (pack_params v.params))) counted ∙ g.again),
    )

vectors_again : (t : TypeForm) (vs : List VectorAttr) → list_all (vector_fits t) vs ≡ true → AreVectors (Some t) t.length (vectors_for vs) × (map attr_of (vectors_for vs) ≡ vs)
vectors_again t [] fits = (tt, refl)
vectors_again t (v ∷ vs) fits =
    let p = and_parts _ _ fits in
    let one = vector_again t v p.0 in
    let more = vectors_again t vs p.1 in
    ((one.0, more.0), ap (λ (w : VectorAttr). w ∷ map attr_of (vectors_for vs)) one.1 ∙ ap (λ (ws : List VectorAttr). v ∷ ws) more.1)

-- ---- a Message

record BodyAgain (form : AppForm) (row : Option TypeForm) (m : Message) : Type 0 where
  len : length_fits row (length_for row) ≡ true
  body : IsBody form row (length_for row) (list_length_for form m.vectors) (Vectors (vectors_for m.vectors)) (0 ∷ 0 ∷ [])
  meaning : messages_from row m.kind (map attr_of (vectors_for m.vectors)) ≡ m ∷ []

body_again : (form : AppForm) (row : Option TypeForm) (m : Message) → vectors_fit row m.vectors ≡ true → BodyAgain form row m
body_again form None m fits = absurd (false≢true fits)
body_again form (Some t) m fits = record {
  len = eq-eqb t.length t.length refl;
  body = rules form;
  meaning = ap
      (λ (vs : List VectorAttr). let x : Message = record { kind = m.kind; vectors = vs } in x ∷ []) vectors.1;
} where
  vectors : AreVectors (Some t) t.length (vectors_for m.vectors) × (map attr_of (vectors_for m.vectors) ≡ m.vectors)
  vectors = vectors_again t m.vectors fits

  rules : (f : AppForm) → IsBody f (Some t) t.length (list_length_for f m.vectors) (Vectors (vectors_for m.vectors)) (0 ∷ 0 ∷ [])
  rules Mvrp = (refl, vectors.0, inr refl)
  rules Msrp = (header_again (length (vectors_octets (vectors_for m.vectors)) + 2), vectors.0, inr refl)
  rules Mmrp = (refl, vectors.0, inr refl)

known_kind : (form : AppForm) (kind : ℕ) (vs : List VectorAttr) → vectors_fit (row_of form kind) vs ≡ true → 0 < kind
known_kind form kind vs h1 = grind (arith, false≢true)

message_again : (form : AppForm) (m : Message) → has_form form m ≡ true → IsMessage form (message_for form m) × (messages_meant form (message_for form m) ≡ m ∷ [])
message_again form m fits =
    let b = body_again form (row_of form m.kind) m fits in
    (record { kind = known_kind form m.kind m.vectors fits; len = b.len; body = b.body }, b.meaning)

-- ---- a PDU

messages_again : (form : AppForm) (ms : List Message) → list_all (message_fits form) ms ≡ true
    → AreMessages form (map (message_for form) ms) (Some []) × (flat_map (messages_meant form) (map (message_for form) ms) ≡ ms)
messages_again form [] fits = (tt, refl)
messages_again form (m ∷ ms) fits =
    let p = and_parts _ _ fits in
    let one = message_again form m (and_parts _ _ p.0).0 in
    let more = messages_again form ms p.1 in
    ((one.0, λ e. absurd cc, more.0), ap (λ (x : List Message). x ++ flat_map (messages_meant form) (map (message_for form) ms)) one.1 ∙ ap (λ (x : List Message). m ∷ x) more.1)

some_again : (form : AppForm) (ms : List Message) → 0 < length ms → 0 < length (map (message_for form) ms)
some_again form [] h = h
some_again form (m ∷ ms) h = omega arith

pub spells_again : (form : AppForm) (pdu : Pdu) → well_formed form pdu ≡ true → Spells form (spelling form pdu) pdu
spells_again form pdu fits =
    let p = and_parts _ _ fits in
    let q = and_parts _ _ p.0 in
    let b = messages_again form pdu.messages p.1 in
    record {
      tree = tree_for form pdu;
      rules = record { some = some_again form pdu.messages (ltb-true 0 (length pdu.messages) q.1); messages = b.0 };
      spelling = refl;
      meaning = ap (λ (ms : List Message). let x : Pdu = record { version = pdu.version; messages = ms } in x) (sym b.1);
    }

-- and so does what stands behind other octets
pub spells_behind : (form : AppForm) (pdu : Pdu) (before after : List ℕ) → well_formed form pdu ≡ true → after ≡ before ++ spelling form pdu → Spells form (drop (length before) after) pdu
spells_behind form pdu before after fits e = grind (arith, drop_at, spells_again)

-- ---- what a writer asks of its vectors

params_small : (b : Bool) (n : ℕ) (params : List ℕ) → cond b (eqb (length params) n && list_all (λ p. leb p 3) params) (eqb (length params) 0) ≡ true → list_all (λ p. leb p 3) params ≡ true
params_small true n params h = (and_parts (eqb (length params) n) (list_all (λ q. leb q 3) params) h).1
params_small false n [] h = refl
params_small false n (p ∷ params) h = let e = eqb-true (suc (length params)) 0 h in absurd (omega arith)

can_put : (t : TypeForm) (vs : List VectorAttr) → list_all (vector_fits t) vs ≡ true → AllByRecursion CanPut vs
can_put t [] fits = tt
can_put t (v ∷ vs) fits =
    let p = and_parts _ _ fits in
    let q = and_parts _ _ p.0 in
    let r = and_parts _ _ q.0 in
    (record { events = leb-true (length v.events) 8191 r.1; params = params_small t.four_packed (length v.events) v.params q.1 }, can_put t vs p.1)

can_put_known : (row : Option TypeForm) (vs : List VectorAttr) → vectors_fit row vs ≡ true → AllByRecursion CanPut vs
can_put_known row vs h1 = grind (arith, false≢true, can_put)

pub message_can_put : (form : AppForm) (m : Message) → message_fits form m ≡ true → AllByRecursion CanPut m.vectors
message_can_put form m fits = can_put_known (row_of form m.kind) m.vectors (and_parts _ _ fits).0

-- What the grammar says is what reading gives: regions, Messages and PDUs.
use Rattle.std.proofs.Common.{◌≡◌, ℕ, zero, suc, ◌+◌, ◌-◌, ◌<◌, ◌≤◌, true, false, eqb, List, [], ◌∷◌, ◌++◌, length, take, drop, map, Option, Some, None, Result, Ok, Err, ◌⊎◌, inl, inr, refl, sym, ap, subst, ◌∙◌, append_assoc, length-append, arith}
use Rattle.std.specs.List.{flat_map}
use Rattle.std.proofs.lemmas.{Bool.le-leb, Bool.lt-leb, Bool.le-ltb, Bool.lt-ltb, Bool.ne_eqb, Bool.eq-eqb, List.append-nil, List.take_at, List.drop_at, List.take_all, List.drop_all}
use Rattle.mrpdu_codec.specs.{AppForm, Mvrp, Msrp, Mmrp, TypeForm, VectorAttr, Pdu, number, row_of, Vector, vectors_octets, AreVectors, attr_of, AttributeList, IsEndMark, IsBody, list_octets, list_attrs, length_fits, MessageTree, IsMessage, message_octets, messages_octets, messages_meant, AreMessages, after_octets, MrpduTree, IsPduTree, tree_octets, pdu_of, EndMarkBreaks, ListLengthBreaks, LengthBreaks, FirstTypeBreaks, LaterTypeBreaks, ListBreaks, RegionBreaks, IsRegion, CountedBreaks, BodyBreaks, MessageBreaks, AreClosed, PduBreaks, Spells, Breaks, ends_list, vectors_of, mark_at, list_at, region_at, known_at, unknown_at, size_at, sized_at, counted_at, body_at, length_at, message_at, end_at, messages_at, messages_of, version_at, first_type_at, pdu_at}
use Rattle.mrpdu_codec.specs.Tree.AttributeList.{Vectors, Skipped}
use Rattle.mrpdu_codec.specs.Grammar.RegionBreaks.{vector as region_vector, end_mark as region_mark, short as region_short}
use Rattle.mrpdu_codec.specs.Grammar.CountedBreaks.{list_length as counted_length, region as counted_region, end_mark as counted_mark, skipped as counted_skipped}
use Rattle.mrpdu_codec.specs.Grammar.MessageBreaks.{len as length_breaks, body as body_breaks_at}
use Rattle.mrpdu_codec.specs.Grammar.PduBreaks.{version as version_breaks, first_type, later_type, message as message_breaks_at}
use Rattle.srp_base.specs.Results.{◌>>=◌}
use Rattle.mrpdu_codec.proofs.{Longer.message_longer, SpelledVectors.of_reads, SpelledVectors.of_breaks}

-- a number that isn't 0
nonzero : (kind : ℕ) → 0 < kind → eqb kind 0 ≡ false
nonzero kind some = ne_eqb kind 0 (λ e. omega arith)

-- ---- EndMarks

mark_reads : (mark rest : List ℕ) → IsEndMark mark → (mark ≡ [] → rest ≡ []) → mark_at (mark ++ rest) ≡ Ok rest
unfolding mark_at
mark_reads mark rest (inl e) last = rw (last e) (ap (λ (o : List ℕ). mark_at (o ++ [])) e)
mark_reads mark rest (inr e) last = ap (λ (o : List ℕ). mark_at (o ++ rest)) e

mark_breaks : (octets : List ℕ) → EndMarkBreaks octets → mark_at octets ≡ Err (length octets)
unfolding mark_at
mark_breaks [] h = absurd h
mark_breaks (a ∷ []) h = refl
mark_breaks (a ∷ b ∷ rest) h = rw (ne_eqb (number a b) 0 (λ e. omega arith)) refl

mark_ends : (mark rest : List ℕ) → IsEndMark mark → (mark ≡ [] → rest ≡ []) → ends_list (mark ++ rest) ≡ true
unfolding ends_list
mark_ends mark rest (inl e) last = rw (last e) (ap (λ (o : List ℕ). ends_list (o ++ [])) e)
mark_ends mark rest (inr e) last = ap (λ (o : List ℕ). ends_list (o ++ rest)) e

list_reads : (row : Option TypeForm) (len : ℕ) (vs : List Vector) (mark rest : List ℕ) → AreVectors row len vs → IsEndMark mark → (mark ≡ [] → rest ≡ [])
    → list_at row len (vectors_octets vs ++ (mark ++ rest)) ≡ Ok (map attr_of vs, rest)
unfolding list_at
list_reads row len vs mark rest all is last = rw (of_reads row len vs (mark ++ rest) all (mark_ends mark rest is last), mark_reads mark rest is last) refl

list_breaks : (row : Option TypeForm) (len : ℕ) (front rest : List ℕ) → ListBreaks row len front rest → list_at row len (front ++ rest) ≡ Err (length rest)
unfolding list_at
list_breaks row len front rest h = rw (of_breaks row len front rest h) refl

-- ---- a region of stated size

ends_nil : ends_list [] ≡ true
unfolding ends_list
ends_nil = refl

ends_zero : (more : List ℕ) → ends_list (0 ∷ 0 ∷ more) ≡ true
unfolding ends_list
ends_zero more = refl

all_reads : (row : Option TypeForm) (len : ℕ) (vs : List Vector) → AreVectors row len vs → vectors_of row len (vectors_octets vs) ≡ Ok (map attr_of vs, [])
all_reads row len vs all = ap (λ (o : List ℕ). vectors_of row len o) (sym (append-nil (vectors_octets vs))) ∙ of_reads row len vs [] all ends_nil

region_reads : (row : Option TypeForm) (len size : ℕ) (vs : List Vector) → AreVectors row len vs → length (vectors_octets vs) ≡ size → region_at row len size (vectors_octets vs) ≡ Ok (map attr_of vs)
unfolding region_at
region_reads row len size vs all full = rw (all_reads row len vs all, le-ltb (length (vectors_octets vs)) size (omega arith)) refl

region_breaks : (row : Option TypeForm) (len size : ℕ) (front rest : List ℕ) → RegionBreaks row len size front rest → region_at row len size (front ++ rest) ≡ Err (length rest)
unfolding region_at
region_breaks row len size front rest (region_vector h) = rw (of_breaks row len front rest h) refl
region_breaks row len size front rest (region_mark vs all front-is more rest-is) =
    ap (λ (o : List ℕ). region_at row len size (o ++ rest)) front-is ∙ ap (λ (o : List ℕ). region_at row len size (vectors_octets vs ++ o)) rest-is
    ∙ rw (of_reads row len vs (0 ∷ 0 ∷ more) all (ends_zero more), nonzero (suc (suc (length more))) (omega arith))
    (ap (λ (n : ℕ). let e : Result (List VectorAttr) ℕ = Err n in e) (sym (ap length rest-is)))
region_breaks row len size front rest (region_short vs all front-is rest-is lt) =
    ap (λ (o : List ℕ). region_at row len size (front ++ o)) rest-is ∙ ap (λ (o : List ℕ). region_at row len size o) (append-nil front) ∙ ap (λ (o : List ℕ). region_at row len size o) front-is
    ∙ rw (all_reads row len vs all, lt-ltb (length (vectors_octets vs)) size (omega (arith, ap length front-is)))
    (ap (λ (n : ℕ). let e : Result (List VectorAttr) ℕ = Err n in e) (sym (ap length rest-is)))

known_reads : (t : TypeForm) (len size : ℕ) (vs : List Vector) (mark rest : List ℕ) → AreVectors (Some t) len vs → length (vectors_octets vs) ≡ size → IsEndMark mark → (mark ≡ [] → rest ≡ [])
    → known_at t len size (vectors_octets vs ++ (mark ++ rest)) ≡ Ok (map attr_of vs, rest)
unfolding known_at
known_reads t len size vs mark rest all full is last =
    rw (take_at (vectors_octets vs) (mark ++ rest) size full, drop_at (vectors_octets vs) (mark ++ rest) size full, region_reads (Some t) len size vs all full, mark_reads mark rest is last) refl

cut : (size : ℕ) (region beyond : List ℕ) → IsRegion size region beyond → (take size (region ++ beyond) ≡ region) × (drop size (region ++ beyond) ≡ beyond)
cut size region beyond (inl full) = (take_at region beyond size full, drop_at region beyond size full)
cut size region beyond (inr (lt, none)) =
    let e : region ++ beyond ≡ region = ap (λ (o : List ℕ). region ++ o) none ∙ append-nil region in
    (ap (λ (o : List ℕ). take size o) e ∙ take_all size region (omega arith), ap (λ (o : List ℕ). drop size o) e ∙ drop_all size region (omega arith) ∙ sym none)

known_breaks : (t : TypeForm) (len size : ℕ) (part within beyond : List ℕ) → IsRegion size (part ++ within) beyond → RegionBreaks (Some t) len size part within
    → known_at t len size ((part ++ within) ++ beyond) ≡ Err (length within + length beyond)
unfolding known_at
known_breaks t len size part within beyond is h =
    let c = cut size (part ++ within) beyond is in
    rw (c.0, c.1, region_breaks (Some t) len size part within h) refl

known_mark_breaks : (t : TypeForm) (len size : ℕ) (vs : List Vector) (rest : List ℕ) → AreVectors (Some t) len vs → length (vectors_octets vs) ≡ size → EndMarkBreaks rest
    → known_at t len size (vectors_octets vs ++ rest) ≡ Err (length rest)
unfolding known_at
known_mark_breaks t len size vs rest all full h =
    rw (take_at (vectors_octets vs) rest size full, drop_at (vectors_octets vs) rest size full, region_reads (Some t) len size vs all full, mark_breaks rest h) refl

-- ---- an unknown type's region

unknown_reads : (size : ℕ) (skipped mark rest : List ℕ) → length skipped ≡ size → (mark ≡ []) ⊎ (length mark ≡ 2) → (mark ≡ [] → rest ≡ []) → unknown_at size (skipped ++ (mark ++ rest)) ≡ Ok rest
unfolding unknown_at
unknown_reads size skipped mark rest full (inl e) last =
    let all : skipped ++ (mark ++ rest) ≡ skipped = ap (λ (o : List ℕ). skipped ++ (o ++ rest)) e ∙ ap (λ (o : List ℕ). skipped ++ o) (last e) ∙ append-nil skipped in
    ap (λ (o : List ℕ). unknown_at size o) all ∙ rw (lt-leb (size + 2) (length skipped) (omega arith), eq-eqb (length skipped) size full, last e) refl
unknown_reads size skipped mark rest full (inr e) last =
    let text : skipped ++ (mark ++ rest) ≡ (skipped ++ mark) ++ rest = sym (append_assoc skipped mark rest) in
    let long : length (skipped ++ mark) ≡ size + 2 = omega (arith, length-append skipped mark) in
    ap (λ (o : List ℕ). unknown_at size o) text
    ∙ rw (le-leb (size + 2) (length ((skipped ++ mark) ++ rest)) (omega (arith, length-append (skipped ++ mark) rest)), drop_at (skipped ++ mark) rest (size + 2) long) refl

unknown_breaks : (size : ℕ) (octets : List ℕ) → (length octets < size) ⊎ (length octets ≡ size + 1) → unknown_at size octets ≡ Err (length octets)
unfolding unknown_at
unknown_breaks size octets (inl h) = rw (lt-leb (size + 2) (length octets) (omega arith), ne_eqb (length octets) size (λ e. omega arith)) refl
unknown_breaks size octets (inr h) = rw (lt-leb (size + 2) (length octets) (omega arith), ne_eqb (length octets) size (λ e. omega arith)) refl

-- ---- MSRP's AttributeListLength

size_reads : (high low size : ℕ) (rest : List ℕ) → number high low ≡ size + 2 → size_at (high ∷ low ∷ rest) ≡ Ok (size, rest)
unfolding size_at
size_reads high low size rest e =
    let k : number high low - 2 ≡ size = omega arith in
    rw (le-ltb (number high low) 2 (omega arith), k) refl

size_breaks : (octets : List ℕ) → ListLengthBreaks octets → size_at octets ≡ Err (length octets)
unfolding size_at
size_breaks [] h = refl
size_breaks (high ∷ []) h = refl
size_breaks (high ∷ low ∷ rest) h = rw (lt-ltb (number high low) 2 h) refl

counted_reads : (row : Option TypeForm) (len high low size : ℕ) (octets : List ℕ) → number high low ≡ size + 2 → counted_at row len (high ∷ low ∷ octets) ≡ sized_at row len size octets
unfolding counted_at
counted_reads row len high low size octets e = rw (size_reads high low size octets e) refl

counted_breaks : (row : Option TypeForm) (len : ℕ) (front rest : List ℕ) → CountedBreaks row len front rest → counted_at row len (front ++ rest) ≡ Err (length rest)
unfolding counted_at
counted_breaks row len front rest (counted_length front-is h) = ap (λ (o : List ℕ). counted_at row len (o ++ rest)) front-is ∙ rw (size_breaks rest h) refl
counted_breaks row len front rest (counted_region t row-is high low size counts part within beyond is front-is rest-is h) =
    let text : front ++ rest ≡ high ∷ low ∷ ((part ++ within) ++ beyond)
    = ap (λ (o : List ℕ). o ++ rest) front-is ∙ ap (λ (o : List ℕ). high ∷ low ∷ (part ++ o)) rest-is
    ∙ ap (λ (o : List ℕ). high ∷ low ∷ o) (sym (append_assoc part within beyond)) in
    let left : length within + length beyond ≡ length rest = sym (ap length rest-is ∙ length-append within beyond) in
    ap (λ (o : List ℕ). counted_at row len o) text ∙ counted_reads row len high low size ((part ++ within) ++ beyond) counts
    ∙ ap (λ (r : Option TypeForm). sized_at r len size ((part ++ within) ++ beyond)) row-is
    ∙ known_breaks t len size part within beyond is (subst (λ (r : Option TypeForm). RegionBreaks r len size part within) row-is h)
    ∙ ap (λ (n : ℕ). let e : Result (List VectorAttr × List ℕ) ℕ = Err n in e) left
counted_breaks row len front rest (counted_mark t row-is high low vs all counts front-is h) =
    ap (λ (o : List ℕ). counted_at row len (o ++ rest)) front-is ∙ counted_reads row len high low (length (vectors_octets vs)) (vectors_octets vs ++ rest) counts
    ∙ ap (λ (r : Option TypeForm). sized_at r len (length (vectors_octets vs)) (vectors_octets vs ++ rest)) row-is
    ∙ known_mark_breaks t len (length (vectors_octets vs)) vs rest (subst (λ (r : Option TypeForm). AreVectors r len vs) row-is all) refl h
counted_breaks row len front rest (counted_skipped row-is high low size counts front-is h) =
    ap (λ (o : List ℕ). counted_at row len (o ++ rest)) front-is ∙ counted_reads row len high low size rest counts
    ∙ ap (λ (r : Option TypeForm). sized_at r len size rest) row-is ∙ rw (unknown_breaks size rest h) refl

-- ---- the body of a Message

body_reads : (form : AppForm) (row : Option TypeForm) (len : ℕ) (list_length : List ℕ) (region : AttributeList) (mark rest : List ℕ)
    → IsBody form row len list_length region mark → (mark ≡ [] → rest ≡ [])
    → body_at form row len (list_length ++ (list_octets region ++ (mark ++ rest))) ≡ Ok (list_attrs region, rest)
body_reads Mvrp row len list_length (Vectors vs) mark rest is last =
    ap (λ (o : List ℕ). list_at row len (o ++ (vectors_octets vs ++ (mark ++ rest)))) is.0 ∙ list_reads row len vs mark rest is.1 is.2 last
body_reads Mmrp row len list_length (Vectors vs) mark rest is last =
    ap (λ (o : List ℕ). list_at row len (o ++ (vectors_octets vs ++ (mark ++ rest)))) is.0 ∙ list_reads row len vs mark rest is.1 is.2 last
body_reads Msrp (Some t) len (high ∷ low ∷ []) (Vectors vs) mark rest is last =
    counted_reads (Some t) len high low (length (vectors_octets vs)) (vectors_octets vs ++ (mark ++ rest)) is.0 ∙ known_reads t len (length (vectors_octets vs)) vs mark rest is.1 refl is.2 last
body_reads Msrp None len (high ∷ low ∷ []) (Skipped skipped) mark rest is last =
    counted_reads None len high low (length skipped) (skipped ++ (mark ++ rest)) is.0 ∙ rw (unknown_reads (length skipped) skipped mark rest refl is.1 last) refl
body_reads Mvrp row len list_length (Skipped skipped) mark rest is last = absurd is
body_reads Mmrp row len list_length (Skipped skipped) mark rest is last = absurd is
body_reads Msrp (Some t) len list_length (Skipped skipped) mark rest is last = absurd is
body_reads Msrp None len list_length (Vectors vs) mark rest is last = absurd is
body_reads Msrp (Some t) len [] (Vectors vs) mark rest is last = absurd is.0
body_reads Msrp (Some t) len (high ∷ []) (Vectors vs) mark rest is last = absurd is.0
body_reads Msrp (Some t) len (high ∷ low ∷ more ∷ others) (Vectors vs) mark rest is last = absurd is.0
body_reads Msrp None len [] (Skipped skipped) mark rest is last = absurd is.0
body_reads Msrp None len (high ∷ []) (Skipped skipped) mark rest is last = absurd is.0
body_reads Msrp None len (high ∷ low ∷ more ∷ others) (Skipped skipped) mark rest is last = absurd is.0

body_breaks : (form : AppForm) (row : Option TypeForm) (len : ℕ) (front rest : List ℕ) → BodyBreaks form row len front rest → body_at form row len (front ++ rest) ≡ Err (length rest)
body_breaks Mvrp row len front rest h = list_breaks row len front rest h
body_breaks Msrp row len front rest h = counted_breaks row len front rest h
body_breaks Mmrp row len front rest h = list_breaks row len front rest h

-- ---- a Message

message_tail : MessageTree → List ℕ → List ℕ
message_tail b rest = (b.list_length ++ (list_octets b.list ++ b.end_mark)) ++ rest

message_reads : (form : AppForm) (b : MessageTree) (rest : List ℕ) → IsMessage form b → (b.end_mark ≡ [] → rest ≡ [])
    → message_at form b.kind (b.len ∷ message_tail b rest) ≡ Ok (messages_meant form b, rest)
unfolding message_at length_at message_tail
message_reads form b rest is last =
    let text : message_tail b rest ≡ b.list_length ++ (list_octets b.list ++ (b.end_mark ++ rest))
    = append_assoc b.list_length (list_octets b.list ++ b.end_mark) rest
    ∙ ap (λ (o : List ℕ). b.list_length ++ o) (append_assoc (list_octets b.list) b.end_mark rest) in
    ap (λ (o : List ℕ). message_at form b.kind (b.len ∷ o)) text
    ∙ rw (is.len, body_reads form (row_of form b.kind) b.len b.list_length b.list b.end_mark rest is.body last) refl

record BrokenMessage (form : AppForm) (front rest : List ℕ) : Type 0 where
  kind : ℕ
  tail : List ℕ
  text : front ++ rest ≡ kind ∷ tail
  some : 0 < kind
  fails : message_at form kind tail ≡ Err (length rest)

length_breaks_at : (row : Option TypeForm) (octets : List ℕ) → LengthBreaks row octets → length_at row octets ≡ Err (length octets)
unfolding length_at
length_breaks_at row [] h = refl
length_breaks_at row (len ∷ rest) h = rw h refl

length_reads : (row : Option TypeForm) (len : ℕ) (rest : List ℕ) → length_fits row len ≡ true → length_at row (len ∷ rest) ≡ Ok (len, rest)
unfolding length_at
length_reads row len rest fits = rw fits refl

message_breaks : (form : AppForm) (front rest : List ℕ) → MessageBreaks form front rest → BrokenMessage form front rest
unfolding message_at
message_breaks form front rest (length_breaks kind some front-is h) = record {
  kind = kind;
  tail = rest;
  text = ap (λ (o : List ℕ). o ++ rest) front-is;
  some = some;
  fails = rw (length_breaks_at (row_of form kind) rest h) refl;
}
message_breaks form front rest (body_breaks_at kind len some fits part front-is h) = record {
  kind = kind;
  tail = len ∷ (part ++ rest);
  text = ap (λ (o : List ℕ). o ++ rest) front-is;
  some = some;
  fails = rw (length_reads (row_of form kind) len (part ++ rest) fits, body_breaks form (row_of form kind) len part rest h) refl;
}

-- ---- Messages up to an end

one_more : (fuel : ℕ) (form : AppForm) (b : MessageTree) (rest : List ℕ) → IsMessage form b → (b.end_mark ≡ [] → rest ≡ [])
    → messages_at (suc fuel) form (message_octets b ++ rest) ≡ (messages_at fuel form rest >>= λ ms. Ok (messages_meant form b ++ ms))
unfolding messages_at message_tail
one_more fuel form b rest is last = rw (nonzero b.kind is.kind, message_reads form b rest is last) refl

messages_read : (fuel : ℕ) (form : AppForm) (bs : List MessageTree) (after : Option (List ℕ)) → AreMessages form bs after → length (messages_octets bs ++ after_octets after) ≤ fuel
    → messages_at fuel form (messages_octets bs ++ after_octets after) ≡ Ok (flat_map (messages_meant form) bs)
unfolding messages_at end_at
messages_read zero form [] None all enough = refl
messages_read (suc fuel) form [] None all enough = refl
messages_read zero form [] (Some rest) all enough = refl
messages_read (suc fuel) form [] (Some rest) all enough = refl
messages_read zero form (b ∷ bs) after all enough = absurd (omega arith)
messages_read (suc fuel) form (b ∷ bs) after all enough =
    let others = messages_octets bs ++ after_octets after in
    let regrouped : (message_octets b ++ messages_octets bs) ++ after_octets after ≡ message_octets b ++ others = append_assoc (message_octets b) (messages_octets bs) (after_octets after) in
    let more = message_longer _ b others refl in
    let last : b.end_mark ≡ [] → others ≡ [] = λ e. ap (λ (cs : List MessageTree). messages_octets cs ++ after_octets after) (all.1 e).0 ∙ ap after_octets (all.1 e).1 in
    ap (λ (o : List ℕ). messages_at (suc fuel) form o) regrouped
    ∙ one_more fuel form b others all.0 last
    ∙ rw (messages_read fuel form bs after all.2 (omega (arith, ap length regrouped))) refl

-- whole Messages, and what is read behind them
past_messages : (form : AppForm) (rest : List ℕ) (left : ℕ) → ((fuel : ℕ) → length rest ≤ fuel → messages_at fuel form rest ≡ Err left)
    → (fuel : ℕ) (bs : List MessageTree) → AreClosed form bs → length (messages_octets bs ++ rest) ≤ fuel → messages_at fuel form (messages_octets bs ++ rest) ≡ Err left
past_messages form rest left h fuel [] all enough = h fuel enough
past_messages form rest left h zero (b ∷ bs) all enough = absurd (omega arith)
past_messages form rest left h (suc fuel) (b ∷ bs) all enough =
    let others = messages_octets bs ++ rest in
    let regrouped : (message_octets b ++ messages_octets bs) ++ rest ≡ message_octets b ++ others = append_assoc (message_octets b) (messages_octets bs) rest in
    let more = message_longer _ b others refl in
    ap (λ (o : List ℕ). messages_at (suc fuel) form o) regrouped
    ∙ one_more fuel form b others all.0.0 (λ e. absurd (omega (arith, all.0.1, ap length e)))
    ∙ rw (past_messages form rest left h fuel bs all.1 (omega (arith, ap length regrouped))) refl

type_breaks : (form : AppForm) (octets : List ℕ) → LaterTypeBreaks octets → (fuel : ℕ) → length octets ≤ fuel → messages_at fuel form octets ≡ Err (length octets)
unfolding messages_at end_at
type_breaks form [] h fuel enough = absurd h
type_breaks form (kind ∷ rest) h zero enough = absurd (omega arith)
type_breaks form (kind ∷ []) h (suc fuel) enough = rw h refl
type_breaks form (kind ∷ next ∷ rest) h (suc fuel) enough = rw (h.0, nonzero next h.1) refl

inner_breaks : (form : AppForm) (part rest : List ℕ) → MessageBreaks form part rest → (fuel : ℕ) → length (part ++ rest) ≤ fuel → messages_at fuel form (part ++ rest) ≡ Err (length rest)
unfolding messages_at
inner_breaks form part rest h zero enough = let b = message_breaks form part rest h in absurd (omega (arith, ap length b.text))
inner_breaks form part rest h (suc fuel) enough =
    let b = message_breaks form part rest h in
    ap (λ (o : List ℕ). messages_at (suc fuel) form o) b.text ∙ rw (nonzero b.kind b.some, b.fails) refl

-- ---- a PDU

-- a first Message has an AttributeType, so that octets with one are read as Messages
pdu_from : (form : AppForm) (version kind : ℕ) (octets tail : List ℕ) → octets ≡ kind ∷ tail → 0 < kind
    → pdu_at form (version ∷ octets) ≡ (messages_of form octets >>= λ ms. let pdu : Pdu = record { version = version; messages = ms } in Ok pdu)
unfolding pdu_at version_at first_type_at
pdu_from form version kind octets tail e some =
    ap (λ (o : List ℕ). pdu_at form (version ∷ o)) e
    ∙ rw (nonzero kind some) (ap (λ (o : List ℕ). messages_of form o >>= λ ms. let pdu : Pdu = record { version = version; messages = ms } in Ok pdu) (sym e))

all_read : (form : AppForm) (bs : List MessageTree) (after : Option (List ℕ)) → AreMessages form bs after
    → messages_of form (messages_octets bs ++ after_octets after) ≡ Ok (flat_map (messages_meant form) bs)
unfolding messages_of
all_read form bs after all = messages_read (length (messages_octets bs ++ after_octets after)) form bs after all (omega arith)

past_of : (form : AppForm) (bs : List MessageTree) (rest : List ℕ) (left : ℕ) → AreClosed form bs → ((fuel : ℕ) → length rest ≤ fuel → messages_at fuel form rest ≡ Err left)
    → messages_of form (messages_octets bs ++ rest) ≡ Err left
unfolding messages_of
past_of form bs rest left all h = past_messages form rest left h (length (messages_octets bs ++ rest)) bs all (omega arith)

first_fails : (form : AppForm) (version : ℕ) (rest : List ℕ) → FirstTypeBreaks rest → pdu_at form (version ∷ rest) ≡ Err (length rest)
unfolding pdu_at version_at first_type_at
first_fails form version [] h = refl
first_fails form version (kind ∷ rest) h = rw h refl

tree_reads : (form : AppForm) (tree : MrpduTree) → IsPduTree form tree → pdu_at form (tree_octets tree) ≡ Ok (pdu_of form tree)
tree_reads form tree is = go tree.messages is.some is.messages where
  go : (bs : List MessageTree) → 0 < length bs → AreMessages form bs tree.after
      → pdu_at form (tree.version ∷ (messages_octets bs ++ after_octets tree.after)) ≡ Ok (pdu_of form (record { version = tree.version; messages = bs; after = tree.after }))
  go [] some all = absurd (omega arith)
  go (b ∷ bs) some all =
      pdu_from form tree.version b.kind (messages_octets (b ∷ bs) ++ after_octets tree.after) _ refl all.0.kind
      ∙ rw (all_read form (b ∷ bs) tree.after all) refl

pdu_fails : (form : AppForm) (front rest : List ℕ) → PduBreaks form front rest → pdu_at form (front ++ rest) ≡ Err (length rest)
unfolding pdu_at version_at first_type_at
pdu_fails form front rest (version_breaks front-is rest-is) =
    ap (λ (o : List ℕ). pdu_at form (o ++ rest)) front-is ∙ ap (λ (o : List ℕ). pdu_at form o) rest-is ∙ rw rest-is refl
pdu_fails form front rest (first_type version front-is h) = ap (λ (o : List ℕ). pdu_at form (o ++ rest)) front-is ∙ first_fails form version rest h
pdu_fails form front rest (later_type version [] some all front-is h) = absurd (omega arith)
pdu_fails form front rest (later_type version (b ∷ bs) some all front-is h) =
    ap (λ (o : List ℕ). pdu_at form (o ++ rest)) front-is
    ∙ pdu_from form version b.kind (messages_octets (b ∷ bs) ++ rest) _ refl all.0.0.kind
    ∙ rw (past_of form (b ∷ bs) rest (length rest) all (type_breaks form rest h)) refl
pdu_fails form front rest (message_breaks_at version [] part all front-is h) =
    let b = message_breaks form part rest h in
    ap (λ (o : List ℕ). pdu_at form (o ++ rest)) front-is
    ∙ pdu_from form version b.kind (part ++ rest) b.tail b.text b.some
    ∙ rw (past_of form [] (part ++ rest) (length rest) tt (inner_breaks form part rest h)) refl
pdu_fails form front rest (message_breaks_at version (b ∷ bs) part all front-is h) =
    ap (λ (o : List ℕ). pdu_at form (o ++ rest)) front-is
    ∙ ap (λ (o : List ℕ). pdu_at form (version ∷ o)) (append_assoc (messages_octets (b ∷ bs)) part rest)
    ∙ pdu_from form version b.kind (messages_octets (b ∷ bs) ++ (part ++ rest)) _ refl all.0.0.kind
    ∙ rw (past_of form (b ∷ bs) (part ++ rest) (length rest) all (inner_breaks form part rest h)) refl

-- a PDU that octets spell is the one that reading gives
pub spells_reads : (form : AppForm) (octets : List ℕ) (pdu : Pdu) → Spells form octets pdu → pdu_at form octets ≡ Ok pdu
spells_reads form octets pdu s = ap (λ (o : List ℕ). pdu_at form o) s.spelling ∙ tree_reads form s.tree s.rules ∙ ap (λ (p : Pdu). let r : Result Pdu ℕ = Ok p in r) (sym s.meaning)

-- and a place where they break is the one where it stops
pub breaks_reads : (form : AppForm) (octets : List ℕ) (place : ℕ) → Breaks form octets place → (left : ℕ) × (pdu_at form octets ≡ Err left) × (place + left ≡ length octets)
breaks_reads form octets place b =
    (length b.rest, ap (λ (o : List ℕ). pdu_at form o) b.whole ∙ pdu_fails form b.front b.rest b.breaks, omega (arith, b.at_place, ap length b.whole, length-append b.front b.rest))

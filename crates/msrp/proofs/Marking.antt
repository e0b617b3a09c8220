-- Keys that are put into sets piece by piece, in their place, and the room that this takes.
use Rattle.std.proofs.Common.{◌≡◌, ◌≤◌, ◌<◌, ◌+◌, ℕ, zero, suc, Bool, true, false, if◌then◌else◌, List, [], ◌∷◌, ◌++◌, length, map, drop, get_or, add-one, refl, ap, sym, ◌∙◌, arith}
use Rattle.std.specs.Prelude.{slice_get, slice_index_or, slice_set, option_map, Option, Some, None}
use Rattle.std.specs.List.{flat_map}
use Rattle.std.proofs.lemmas.{List.drop_more, Option.slice_get-map, Option.slice_get_read}
use Rattle.srp_base.proofs.Lists.{mapped_length as mapped_count, map-set}
use Rattle.attribute_propagation.specs.{Dirty.KeySet, Dirty.all_marked, Ports.keys_in, Ports.keys_or_none, Ports.marked_everywhere}
use Rattle.msrp_codec.specs.declared.{pdu.MsrpKey.MsrpKey, pdu.MsrpContent.MsrpContent}
use Rattle.msrp_codec.specs.declared.pdu.MsrpKey.TheVariants as keys
use Rattle.srp_base.specs.declared.{numbers.StreamId.StreamId, streams.Talker.Talker}
use Rattle.mrp_participant.specs.{Lookup.key_of, State.registered_at}
use Rattle.msrp.specs.Part.{Part}
use Rattle.msrp.specs.{key_cmp, talker_reg_of, is_present, DomainSet, PortHolding, ports_in, all_keys_with, is_domain_told, keys_of, keys_with, marked_here, stream_in, told_sets, talker_key_if, talker_keys, talker_keys_in}

-- ---- marks

pub marked_joined : (xs ys set : List MsrpKey) → all_marked key_cmp (xs ++ ys) set ≡ all_marked key_cmp ys (all_marked key_cmp xs set)
marked_joined [] ys set = refl
marked_joined (x ∷ xs) ys set = marked_joined xs ys (all_marked key_cmp (x ∷ []) set)

pub everywhere_joined : (xs ys : List MsrpKey) (sets : List (List MsrpKey)) → marked_everywhere key_cmp (xs ++ ys) sets ≡ marked_everywhere key_cmp ys (marked_everywhere key_cmp xs sets)
everywhere_joined xs ys [] = refl
everywhere_joined xs ys (set ∷ sets) =
    ap (λ s. s ∷ marked_everywhere key_cmp (xs ++ ys) sets) (marked_joined xs ys set) ∙ ap (λ ss. all_marked key_cmp ys (all_marked key_cmp xs set) ∷ ss) (everywhere_joined xs ys sets)

pub length_joined : (xs ys : List MsrpKey) → length (xs ++ ys) ≡ length xs + length ys
length_joined [] ys = omega arith
length_joined (x ∷ xs) ys = let rest = length_joined xs ys in omega (arith, rest)

-- a set gets the piece of one element more of a list
pub mark_more : {X : Type 0} (f : List X → List MsrpKey) (piece : X → List MsrpKey) (xs : List X) (i : ℕ) (d : X) (old new whole : List MsrpKey)
    → ((x : X) (ys : List X) → f (x ∷ ys) ≡ piece x ++ f ys) → i < length xs → new ≡ all_marked key_cmp (piece (get_or xs i d)) old
    → all_marked key_cmp (f (drop i xs)) old ≡ whole → all_marked key_cmp (f (drop (i + 1) xs)) new ≡ whole
mark_more f piece xs i d old new whole step below is done =
    ap (all_marked key_cmp (f (drop (i + 1) xs))) is
    ∙ (sym (marked_joined (piece (get_or xs i d)) (f (drop (i + 1) xs)) old)
    ∙ (ap (λ ks. all_marked key_cmp ks old) (sym (ap f (drop_more xs i d below) ∙ step (get_or xs i d) (drop (i + 1) xs))) ∙ done))

-- the keys that are left are fewer by that piece
pub left_less : {X : Type 0} (f : List X → List MsrpKey) (piece : X → List MsrpKey) (xs : List X) (i : ℕ) (d : X)
    → ((x : X) (ys : List X) → f (x ∷ ys) ≡ piece x ++ f ys) → i < length xs
    → length (f (drop i xs)) ≡ length (piece (get_or xs i d)) + length (f (drop (i + 1) xs))
left_less f piece xs i d step below =
    ap (λ ys. length (f ys)) (drop_more xs i d below)
    ∙ (ap (λ (ks : List MsrpKey). length ks) (step (get_or xs i d) (drop (i + 1) xs)) ∙ length_joined (piece (get_or xs i d)) (f (drop (i + 1) xs)))

-- ---- the Talker keys

abbrev pub by_key : Part → MsrpKey → List MsrpKey
by_key s key = talker_key_if key (registered_at key_cmp key s)

-- the Talker keys of the rows from a place on
abbrev pub talker_keys_from : ℕ → Part → List MsrpKey
talker_keys_from place s = flat_map (by_key s) (drop place (map key_of s.rows))

at_most_one : (key : MsrpKey) (s : Part) → length (by_key s key) ≤ 1
at_most_one (keys.Talker stream) s = by (is_present (talker_reg_of (registered_at key_cmp (keys.Talker stream) s)))
  where
    by : (b : Bool) → length (if b then keys.Talker stream ∷ [] else []) ≤ 1
    by true = omega arith
    by false = omega arith
at_most_one (keys.Listener stream) s = omega arith
at_most_one (keys.Domain class) s = omega arith

few : (s : Part) (ks : List MsrpKey) → length (flat_map (by_key s) ks) ≤ length ks
few s [] = omega arith
few s (key ∷ ks) = omega (arith, length_joined (by_key s key) (flat_map (by_key s) ks), at_most_one key s, few s ks)

-- a participant has no more Talker keys than rows
pub few_talkers : (s : Part) → length (talker_keys_in s) ≤ length s.rows
few_talkers s = omega (arith, few s (map key_of s.rows), mapped_count key_of s.rows)

-- the key at a place, where a Talker is registered, and those after it, and nothing where there is no row
pub talkers_more : (s : Part) (i : ℕ) (key : MsrpKey) (content : Option MsrpContent) → Some key ≡ slice_get (map key_of s.rows) i → content ≡ registered_at key_cmp key s
    → talker_keys_from i s ≡ talker_key_if key content ++ talker_keys_from (i + 1) s
talkers_more s i key content h is =
    one_more (map key_of s.rows) i (sym h) ∙ (ap (λ n. by_key s key ++ talker_keys_from n s) (sym (add-one i)) ∙ ap (λ o. talker_key_if key o ++ talker_keys_from (i + 1) s) (sym is))
  where
    one_more : (ks : List MsrpKey) (i : ℕ) → slice_get ks i ≡ Some key → flat_map (by_key s) (drop i ks) ≡ by_key s key ++ flat_map (by_key s) (drop (suc i) ks)
    one_more [] i h = cc
    one_more (k ∷ ks) zero h = let same : k ≡ key = cc in ap (λ x. by_key s x ++ flat_map (by_key s) ks) same
    one_more (k ∷ ks) (suc i) h = one_more ks i h

pub talkers_end : (s : Part) (i : ℕ) → None ≡ slice_get (map key_of s.rows) i → talker_keys_from (i + 1) s ≡ talker_keys_from i s
talkers_end s i h = ap (λ n. talker_keys_from n s) (add-one i) ∙ sym (no_more (map key_of s.rows) i (sym h))
  where
    no_more : (ks : List MsrpKey) (i : ℕ) → slice_get ks i ≡ None → flat_map (by_key s) (drop i ks) ≡ flat_map (by_key s) (drop (suc i) ks)
    no_more [] zero h = refl
    no_more [] (suc i) h = refl
    no_more (k ∷ ks) zero h = cc
    no_more (k ∷ ks) (suc i) h = no_more ks i h

-- the Talker keys are those of the application, one for each Talker, and those of the ports
pub own_count : (talks : List Talker) (ports : List PortHolding)
    → length (talker_keys talks (ports_in ports)) ≡ length talks + length (flat_map (λ p. talker_keys_in p.part) (ports_in ports))
own_count talks ports =
    length_joined (map (λ (t : Talker). keys.Talker t.stream) talks) (flat_map (λ p. talker_keys_in p.part) (ports_in ports))
    ∙ ap (λ n. n + length (flat_map (λ p. talker_keys_in p.part) (ports_in ports))) (mapped_count (λ (t : Talker). keys.Talker t.stream) talks)

-- ---- both keys of a stream

pub keys_some : (key : MsrpKey) (stream : StreamId) → stream_in key ≡ Some stream → keys_with key ≡ keys_of stream
keys_some (keys.Talker s) stream e = let one : s ≡ stream = cc in ap keys_of one
keys_some (keys.Listener s) stream e = let one : s ≡ stream = cc in ap keys_of one
keys_some (keys.Domain c) stream e = cc

pub keys_none : (key : MsrpKey) → stream_in key ≡ None → keys_with key ≡ []
keys_none (keys.Talker s) e = cc
keys_none (keys.Listener s) e = cc
keys_none (keys.Domain c) e = refl

pub none_marked : (sets : List (List MsrpKey)) → marked_everywhere key_cmp [] sets ≡ sets
none_marked [] = refl
none_marked (set ∷ sets) = ap (λ ss. set ∷ ss) (none_marked sets)

pub as_many_told : (ks : List MsrpKey) (old new : List (KeySet MsrpKey)) → keys_in new ≡ marked_everywhere key_cmp ks (keys_in old) → length new ≡ length old
as_many_told ks old new is =
    sym (mapped_count (λ (set : KeySet MsrpKey). set.keys) new)
    ∙ (ap (λ (sets : List (List MsrpKey)). length sets) is ∙ (mapped_count (all_marked key_cmp ks) (keys_in old) ∙ mapped_count (λ (set : KeySet MsrpKey). set.keys) old))

-- all sets get the piece of one element more of a list
pub everywhere_more : {X : Type 0} (f : List X → List MsrpKey) (piece : X → List MsrpKey) (xs : List X) (i : ℕ) (d : X) (old new whole : List (List MsrpKey))
    → ((x : X) (ys : List X) → f (x ∷ ys) ≡ piece x ++ f ys) → i < length xs → new ≡ marked_everywhere key_cmp (piece (get_or xs i d)) old
    → marked_everywhere key_cmp (f (drop i xs)) old ≡ whole → marked_everywhere key_cmp (f (drop (i + 1) xs)) new ≡ whole
everywhere_more f piece xs i d old new whole step below is done =
    ap (marked_everywhere key_cmp (f (drop (i + 1) xs))) is
    ∙ (sym (everywhere_joined (piece (get_or xs i d)) (f (drop (i + 1) xs)) old)
    ∙ (ap (λ ks. marked_everywhere key_cmp ks old) (sym (ap f (drop_more xs i d below) ∙ step (get_or xs i d) (drop (i + 1) xs))) ∙ done))

-- one is left fewer
pub two_less : {X : Type 0} (xs : List X) (i : ℕ) → i < length xs → length (drop i xs) ≡ suc (length (drop (i + 1) xs))
two_less [] i below = absurd (omega arith)
two_less (x ∷ xs) zero below = refl
two_less (x ∷ xs) (suc i) below =
    let next : suc (i + 1) ≡ suc i + 1 = omega arith in
    two_less xs i (omega (arith, below)) ∙ ap (λ n. suc (length (drop n (x ∷ xs)))) next

-- ---- where a Domain is told

-- the keys at the port that told it, with both keys of each known stream
pub told_here : (at : ℕ) (domain : DomainSet) (told known : List MsrpKey) (old new : List (KeySet MsrpKey)) (x y : KeySet MsrpKey) → at < length new → x ≡ slice_index_or new at x
    → keys_in new ≡ marked_everywhere key_cmp (all_keys_with told) (keys_in old) → y.keys ≡ all_marked key_cmp (all_keys_with known) x.keys → is_domain_told domain told ≡ true
    → keys_in (slice_set new at y) ≡ told_sets at domain told known (keys_in old)
told_here at domain told known old new x y below is marked became heeded =
    let there : slice_get (keys_in new) at ≡ Some x.keys =
    slice_get-map (λ (set : KeySet MsrpKey). set.keys) new at ∙ ap (option_map (λ (set : KeySet MsrpKey). set.keys)) (slice_get_read new (length new) at x refl below is) in
    let all : List (List MsrpKey) = marked_everywhere key_cmp (all_keys_with told) (keys_in old) in
    map-set (λ (set : KeySet MsrpKey). set.keys) new at y
    ∙ (ap (slice_set (keys_in new) at) (became ∙ ap (λ o. all_marked key_cmp (all_keys_with known) (keys_or_none o)) (sym there))
    ∙ (ap (λ sets. marked_here at (all_keys_with known) sets) marked ∙ ap (λ b. if b then marked_here at (all_keys_with known) all else all) (sym heeded)))

-- what stands at a place, before the rest
pub split_at : {X : Type 0} (xs : List X) (i : ℕ) → i < length xs → (x : X) × (slice_get xs i ≡ Some x) × (drop i xs ≡ x ∷ drop (i + 1) xs)
split_at [] i below = absurd (omega arith)
split_at (x ∷ xs) zero below = (x, refl, refl)
split_at (x ∷ xs) (suc i) below =
    let next : suc (i + 1) ≡ suc i + 1 = omega arith in
    let rest = split_at xs i (omega (arith, below)) in
    (rest.0, rest.1, rest.2 ∙ ap (λ n. rest.0 ∷ drop n (x ∷ xs)) next)

-- A stream without a Talker: what a port states and wants of it, and which Talker keys there are.
use Rattle.std.proofs.Common.{◌≡◌, ℕ, zero, suc, ◌<◌, Bool, true, false, ◌||◌, ◌==◌, if◌then◌else◌, List, [], ◌∷◌, ◌++◌, length, map, refl, sym, ap, ◌∙◌, arith}
use Rattle.std.specs.Prelude.{Option, Some, None, IsSome, find, position, Contains, slice_index_or, unwrap_or}
use Rattle.std.specs.{List.AllByRecursion, List.flat_map, List.list_any, Ordering.nat_cmp, Ordering.is_eq}
use Rattle.std.proofs.lemmas.{List.Quantifiers.position-Some, Bool.Decides.nat_tests}
use Rattle.std.proofs.lemmas.Bool.{or_left as either, or_parts as or_false}
use Rattle.srp_base.specs.declared.{numbers.StreamId.StreamId, streams.Talker.Talker, streams.TalkerReg.TalkerReg, streams.TalkerReg.TheVariants.Absent, streams.ListenerKind.ListenerKind}
use Rattle.stream_importance.specs.declared.{entry.Fit.TheVariants.Fits, entry.Want.Want}
use Rattle.msrp_talker.specs.declared.port_config.PortConfig.{PortConfig}
use Rattle.msrp_talker.specs.TalkerOut.{talker_out}
use Rattle.port_ledger.specs.Book.{Book}
use Rattle.attribute_propagation.specs.Dirty.{is_awaiting}
use Rattle.mrp_participant.specs.{Lookup.key_of, State.registered_at}
use Rattle.msrp_codec.specs.declared.{pdu.MsrpKey.MsrpKey, pdu.MsrpContent.MsrpContent}
use Rattle.msrp_codec.specs.declared.pdu.MsrpKey.TheVariants as keys
use Rattle.msrp.specs.PortState.{PortState}
use Rattle.msrp.proofs.KeyLemmas.{key_self}
use Rattle.msrp.specs.Part.{Part}
use Rattle.msrp.specs.{key_cmp, registered_talker, talker_content, talker_reg_of, fit_at, is_present, is_ready, is_talker_port, want_of_reg, talk_of, talker_at, first_talker, talkers_of, talker_key_if, talker_keys, talker_keys_in}

-- what a port states of a Talker and wants for it, by what it looks at
abbrev pub stated_by : ℕ → PortConfig → Book → Bool → List TalkerReg → TalkerReg
stated_by at config book edge talkers =
    if is_talker_port (suc at) talkers then Absent
    else talker_out (first_talker talkers) config edge (unwrap_or (fit_at book.moment at book talkers) Fits)

abbrev pub wanted_by : ℕ → Option ListenerKind → Bool → List TalkerReg → Option Want
wanted_by at kind edge talkers =
    if is_talker_port (suc at) talkers then None
    else if is_ready kind then want_of_reg edge (first_talker talkers) else None

-- nothing is stated of a stream without a Talker
pub absent_stated : (at : ℕ) (p : PortState) (talkers : List TalkerReg) → first_talker talkers ≡ Absent → talker_content (talker_at at p talkers) ≡ None
absent_stated at p talkers none = by (is_talker_port (suc at) talkers) refl
  where
    by : (b : Bool) → is_talker_port (suc at) talkers ≡ b → talker_content (talker_at at p talkers) ≡ None
    by true e = rw e refl
    by false e = rw (e, none) refl

-- where no Talker is registered there is no Talker's port
get_absent : (xs : List TalkerReg) → AllByRecursion (λ x. x ≡ Absent) xs → (i : ℕ) → slice_index_or xs i Absent ≡ Absent
get_absent [] all i = refl
get_absent (x ∷ xs) all zero = all.0
get_absent (x ∷ xs) all (suc i) = get_absent xs all.1 i

pub no_port : (xs : List TalkerReg) → AllByRecursion (λ x. x ≡ Absent) xs → position is_present xs ≡ None
no_port xs all = by (position is_present xs) refl
  where
    by : (o : Option ℕ) → position is_present xs ≡ o → o ≡ None
    by None e = refl
    by (Some i) e =
        let found = position-Some is_present xs i Absent e in
        let absent : is_present (slice_index_or xs i Absent) ≡ false = ap is_present (get_absent xs all i) in
        let present : is_present (slice_index_or xs i Absent) ≡ true = found.1 in
        cc

-- ---- the Talker keys

-- a key is among the joined keys where it is among either
any-append : (p : MsrpKey → Bool) (xs ys : List MsrpKey) → list_any p (xs ++ ys) ≡ (list_any p xs || list_any p ys)
any-append p [] ys = refl
any-append p (x ∷ xs) ys = ap (λ b. p x || b) (any-append p xs ys) ∙ joined (p x) (list_any p xs) (list_any p ys)
  where
    joined : (a b c : Bool) → (a || (b || c)) ≡ ((a || b) || c)
    joined true b c = refl
    joined false b c = refl

pub not_in : (key : MsrpKey) (xs ys : List MsrpKey) → is_awaiting key_cmp key (xs ++ ys) ≡ false → (is_awaiting key_cmp key xs ≡ false) × (is_awaiting key_cmp key ys ≡ false)
not_in key xs ys h = or_false (is_awaiting key_cmp key xs) (is_awaiting key_cmp key ys) (sym (any-append (λ x. is_eq (key_cmp x key)) xs ys) ∙ h)

-- what a key that is there gives is among what all keys give
from_flat : (key : MsrpKey) (f : MsrpKey → List MsrpKey) (ks : List MsrpKey) (i : ℕ) (k : MsrpKey) → i < length ks → slice_index_or ks i k ≡ k
    → is_awaiting key_cmp key (flat_map f ks) ≡ false → is_awaiting key_cmp key (f k) ≡ false
from_flat key f [] i k below at h = absurd (omega arith)
from_flat key f (x ∷ ks) zero k below at h = let parts = not_in key (f x) (flat_map f ks) h in ap (λ y. is_awaiting key_cmp key (f y)) (sym at) ∙ parts.0
from_flat key f (x ∷ ks) (suc i) k below at h = let parts = not_in key (f x) (flat_map f ks) h in from_flat key f ks i k (omega arith) at parts.1

-- each key that is registered has a row
abbrev pub HasRows : Type 0
HasRows = (s : Part) (k : MsrpKey) → IsSome (registered_at key_cmp k s) → Contains (map key_of s.rows) k

-- a Talker key that isn't among those of a participant: no Talker of the stream is registered there
absent_in : HasRows → (s : Part) (x : StreamId) → is_awaiting key_cmp (keys.Talker x) (talker_keys_in s) ≡ false → is_present (registered_talker x s) ≡ false
absent_in rows s x h = by (registered_at key_cmp (keys.Talker x) s) refl
  where
    here : (o : Option MsrpContent) → is_awaiting key_cmp (keys.Talker x) (talker_key_if (keys.Talker x) o) ≡ false → is_present (talker_reg_of o) ≡ false
    here o k = test (is_present (talker_reg_of o)) k
      where
        test : (b : Bool) → is_awaiting key_cmp (keys.Talker x) (if b then keys.Talker x ∷ [] else []) ≡ false → b ≡ false
        test true k = let self = key_self (keys.Talker x) in let none = (or_false (is_eq (key_cmp (keys.Talker x) (keys.Talker x))) false k).0 in cc
        test false k = refl

    by : (o : Option MsrpContent) → registered_at key_cmp (keys.Talker x) s ≡ o → is_present (talker_reg_of o) ≡ false
    by None e = refl
    by (Some c) e =
        let some : IsSome (registered_at key_cmp (keys.Talker x) s) = rw e refl in
        let at = rows s (keys.Talker x) some in
        ap (λ o. is_present (talker_reg_of o)) (sym e)
        ∙ here (registered_at key_cmp (keys.Talker x) s)
        (from_flat (keys.Talker x) (λ key. talker_key_if key (registered_at key_cmp key s)) (map key_of s.rows) at.0 (keys.Talker x) at.1 at.2 h)

pub own_absent : (talks : List Talker) (x : StreamId) → is_awaiting key_cmp (keys.Talker x) (map (λ (t : Talker). keys.Talker t.stream) talks) ≡ false → talk_of x talks ≡ None
own_absent [] x h = refl
own_absent (t ∷ talks) x h =
    let parts = or_false (is_eq (nat_cmp t.stream.0 x.0)) (is_awaiting key_cmp (keys.Talker x) (map (λ (t : Talker). keys.Talker t.stream) talks)) h in
    let other : (t.stream.0 == x.0) ≡ false = grind (arith, nat_tests, parts.0) in
    rw other (own_absent talks x parts.1)

ports_absent : HasRows → (ports : List PortState) (x : StreamId) → is_awaiting key_cmp (keys.Talker x) (flat_map (λ (p : PortState). talker_keys_in p.part) ports) ≡ false
    → find is_present (map (λ (p : PortState). registered_talker x p.part) ports) ≡ None
ports_absent rows [] x h = refl
ports_absent rows (p ∷ ports) x h =
    let parts = not_in (keys.Talker x) (talker_keys_in p.part) (flat_map (λ (q : PortState). talker_keys_in q.part) ports) h in
    rw (absent_in rows p.part x parts.0) (ports_absent rows ports x parts.1)

-- a stream whose Talker key isn't among those of all streams with a Talker has none
pub no_talker : HasRows → (talks : List Talker) (ports : List PortState) (x : StreamId) → is_awaiting key_cmp (keys.Talker x) (talker_keys talks ports) ≡ false
    → first_talker (talkers_of talks ports x) ≡ Absent
no_talker rows talks ports x h =
    let parts = not_in (keys.Talker x) (map (λ (t : Talker). keys.Talker t.stream) talks) (flat_map (λ (p : PortState). talker_keys_in p.part) ports) h in
    let one = own_absent talks x parts.0 in
    let two = ports_absent rows ports x parts.1 in
    rw (one, two) refl

-- Domains: which registrations make a port a boundary, what is known at a node, and what a new port declares.
use Rattle.std.proofs.Common.{◌≡◌, ◌<◌, ℕ, zero, suc, Bool, true, false, not, ◌&&◌, ◌==◌, if◌then◌else◌, List, [], ◌∷◌, length, map, refl, sym, ap, subst, ◌∙◌, arith}
use Rattle.std.specs.Prelude.{Option, Some, None, IsSome, filter, find, is_some, slice_index_or, option_map}
use Rattle.std.specs.{List.flat_map, List.list_any, Ordering.nat_cmp, Ordering.is_eq}
use Rattle.std.proofs.lemmas.{Bool.eqb-true, Bool.Decides.nat_tests}
use Rattle.std.proofs.lemmas.Bool.{or_parts as or_false}
use Rattle.srp_base.specs.declared.{bandwidth.Class.Class, bandwidth.Class.TheVariants.A, bandwidth.Class.TheVariants.B, numbers.Cs.Cs, numbers.StreamId.StreamId, streams.Talker.Talker, streams.TalkerReg.TalkerReg, streams.TalkerReg.TheVariants.Absent}
use Rattle.attribute_propagation.specs.Dirty.{is_awaiting}
use Rattle.mrp_participant.specs.{Lookup.key_of, Row.declared_in, Row.declared_row, Row.fresh_row, Row.registered_in, State.AreRows, State.declared_at, State.new_state, State.registered_at}
use Rattle.msrp_codec.specs.declared.{pdu.MsrpKey.MsrpKey, pdu.MsrpContent.MsrpContent}
use Rattle.msrp_codec.specs.declared.pdu.MsrpKey.TheVariants as keys
use Rattle.msrp.specs.{DomainSet, Off, Nothing, OnlyA, Both, key_cmp, same_content, registered_talker, talker_reg_of, are_counted, class_id, class_in, classes_of, domain_content, domain_key, domain_part, domain_stated, has_class, is_boundary_of, is_edge, is_value, first_talker, is_present, talkers_of, is_domain, is_domain_told, known_keys, registered_keys}
use Rattle.msrp.specs.PortState.{PortState}
use Rattle.msrp.specs.Part.{Part}
use Rattle.msrp.proofs.{KeyLemmas.key_is, KeyLemmas.key_self, Contents.HoldsOfEach, Contents.IsRowOf, Contents.MsrpRow, Talkers.HasRows, Talkers.not_in, Talkers.own_absent}

-- ---- boundaries

-- where the Domains are registered alike, a port is at the same boundaries
pub edge_same : (domain : DomainSet) (s t : Part) (reg : TalkerReg)
    → ((class : Class) → registered_at key_cmp (domain_key class) t ≡ registered_at key_cmp (domain_key class) s) → is_edge domain t reg ≡ is_edge domain s reg
edge_same domain s t reg same = ap (λ b. are_counted domain && b) (by (class_in reg))
  where
    by : (o : Option Class) → is_boundary_of domain t o ≡ is_boundary_of domain s o
    by None = refl
    by (Some class) = ap (λ (o : Option MsrpContent). are_counted domain && not (has_class domain class && is_value class o)) (same class)

-- where no Talker is registered a port is at none
edge_absent : (domain : DomainSet) (s : Part) → is_edge domain s Absent ≡ false
edge_absent Off s = refl
edge_absent Nothing s = refl
edge_absent OnlyA s = refl
edge_absent Both s = refl

-- so it is at the same ones, whatever is registered there
pub edge_alike : (domain : DomainSet) (s t : Part) (reg : TalkerReg) → reg ≡ Absent → is_edge domain s reg ≡ is_edge domain t reg
edge_alike domain s t reg none = ap (is_edge domain s) none ∙ (edge_absent domain s ∙ sym (ap (is_edge domain t) none ∙ edge_absent domain t))

-- no Domain is among keys of which none is a Domain's
none_among : (told : List MsrpKey) (class : ℕ) → list_any is_domain told ≡ false → is_awaiting key_cmp (keys.Domain class) told ≡ false
none_among [] class h = refl
none_among (keys.Talker s ∷ told) class h = none_among told class h
none_among (keys.Listener s ∷ told) class h = none_among told class h
none_among (keys.Domain c ∷ told) class h = cc

-- where no Domain has to be heeded, none is told or none counts
pub edge_untold : (domain : DomainSet) (told : List MsrpKey) (s t : Part) (reg : TalkerReg)
    → ((key : MsrpKey) → is_awaiting key_cmp key told ≡ false → registered_at key_cmp key t ≡ registered_at key_cmp key s)
    → is_domain_told domain told ≡ false → is_edge domain t reg ≡ is_edge domain s reg
edge_untold domain told s t reg stays h = by (are_counted domain) refl h
  where
    by : (b : Bool) → are_counted domain ≡ b → (b && list_any is_domain told) ≡ false → is_edge domain t reg ≡ is_edge domain s reg
    by true e k = edge_same domain s t reg (λ class. stays (domain_key class) (none_among told (class_id class) k))
    by false e k =
        ap (λ b. b && is_boundary_of domain t (class_in reg)) e ∙ sym (ap (λ b. b && is_boundary_of domain s (class_in reg)) e)

-- ---- what is known at a node

-- whether anything is registered of a key
abbrev is_in : Part → MsrpKey → Bool
is_in s key = is_some (registered_at key_cmp key s)

-- a key that passes a test and is among some keys is among those that pass
among_tested : (test : MsrpKey → Bool) (key : MsrpKey) (ks : List MsrpKey) (i : ℕ) → i < length ks → slice_index_or ks i key ≡ key → test key ≡ true
    → is_awaiting key_cmp key (filter test ks) ≡ false → ⊥
among_tested test key [] i below at is out = absurd (omega arith)
among_tested test key (k ∷ ks) zero below at is out = by (test k) (ap test at ∙ is) out
  where
    by : (b : Bool) → b ≡ true → is_awaiting key_cmp key (if b then k ∷ filter test ks else filter test ks) ≡ false → ⊥
    by true e o =
        let self : is_eq (key_cmp k key) ≡ true = ap (λ (x : MsrpKey). is_eq (key_cmp x key)) at ∙ key_self key in
        let other = (or_false (is_eq (key_cmp k key)) (is_awaiting key_cmp key (filter test ks)) o).0 in cc
    by false e o = cc
among_tested test key (k ∷ ks) (suc i) below at is out = by (test k) out (among_tested test key ks i (omega arith) at is)
  where
    by : (b : Bool) → is_awaiting key_cmp key (if b then k ∷ filter test ks else filter test ks) ≡ false → (is_awaiting key_cmp key (filter test ks) ≡ false → ⊥) → ⊥
    by true o rest = rest (or_false (is_eq (key_cmp k key)) (is_awaiting key_cmp key (filter test ks)) o).1
    by false o rest = rest o

-- a key that isn't among those that a participant has registered isn't registered
unregistered : HasRows → (s : Part) (key : MsrpKey) → is_awaiting key_cmp key (registered_keys s) ≡ false → registered_at key_cmp key s ≡ None
unregistered rows s key h = by (registered_at key_cmp key s) refl
  where
    by : (o : Option MsrpContent) → registered_at key_cmp key s ≡ o → o ≡ None
    by None e = refl
    by (Some c) e =
        let some : IsSome (registered_at key_cmp key s) = rw e refl in
        let at = rows s key some in
        absurd (among_tested (is_in s) key (map key_of s.rows) at.0 at.1 at.2 (ap is_some e) h)

ports_unknown : HasRows → (ports : List PortState) (x : StreamId) → is_awaiting key_cmp (keys.Talker x) (flat_map (λ (p : PortState). registered_keys p.part) ports) ≡ false
    → find is_present (map (λ (p : PortState). registered_talker x p.part) ports) ≡ None
ports_unknown rows [] x h = refl
ports_unknown rows (p ∷ ports) x h =
    let parts = not_in (keys.Talker x) (registered_keys p.part) (flat_map (λ (q : PortState). registered_keys q.part) ports) h in
    let absent : is_present (registered_talker x p.part) ≡ false = ap (λ o. is_present (talker_reg_of o)) (unregistered rows p.part (keys.Talker x) parts.0) in
    rw absent (ports_unknown rows ports x parts.1)

-- a stream of which no key is known at a node has no Talker there
pub unknown_absent : HasRows → (talks : List Talker) (listens : List StreamId) (ports : List PortState) (x : StreamId) → is_awaiting key_cmp (keys.Talker x) (known_keys talks listens ports) ≡ false
    → first_talker (talkers_of talks ports x) ≡ Absent
unknown_absent rows talks listens ports x h =
    let own = not_in (keys.Talker x) (map (λ (t : Talker). keys.Talker t.stream) talks) _ h in
    let rest = not_in (keys.Talker x) (map (λ (s : StreamId). keys.Listener s) listens) (flat_map (λ (p : PortState). registered_keys p.part) ports) own.1 in
    let one = own_absent talks x own.0 in
    let two = ports_unknown rows ports x rest.1 in
    rw (one, two) refl

-- ---- what a new port declares

-- the row of a Domain that was declared once
abbrev domain_row : Class → MsrpRow
domain_row class = declared_row same_content (domain_content class) (fresh_row (domain_key class) (domain_content class))

-- what holds of a Domain's value holds of its row's contents, where the row is found
found_row : (P : MsrpKey → MsrpContent → Type 0) (class : Class) → P (domain_key class) (domain_content class) → (key : MsrpKey) (r : MsrpRow) (rest : Option MsrpRow)
    → ((q : MsrpRow) → rest ≡ Some q → IsRowOf P key q) → (if is_eq (key_cmp (domain_key class) key) then Some (domain_row class) else rest) ≡ Some r → IsRowOf P key r
found_row P class holds key r rest others h = by (is_eq (key_cmp (domain_key class) key)) refl h
  where
    by : (b : Bool) → is_eq (key_cmp (domain_key class) key) ≡ b → (if b then Some (domain_row class) else rest) ≡ Some r → IsRowOf P key r
    by true e k =
        let same : domain_row class ≡ r = cc in
        let own : IsRowOf P (domain_key class) (domain_row class) = record { content = holds; heard = holds } in
        subst (λ (x : MsrpRow). IsRowOf P key x) same (subst (λ (x : MsrpKey). IsRowOf P x (domain_row class)) (key_is (domain_key class) key e) own)
    by false e k = others r k

module _ (period leave_time : Cs) (periodic : Bool) where
  abbrev new : DomainSet → Part
  new domain = domain_part domain (new_state period leave_time periodic)

  pub new_rows : (domain : DomainSet) → AreRows key_cmp (new domain).rows
  new_rows Off = (tt, tt)
  new_rows Nothing = (tt, tt)
  new_rows OnlyA = ((tt, tt), (refl, tt))
  new_rows Both = (((refl, tt), (tt, tt)), (refl, (refl, tt)))

  pub new_each : (P : MsrpKey → MsrpContent → Type 0) → ((class : Class) → P (domain_key class) (domain_content class)) → (domain : DomainSet) → HoldsOfEach P (new domain)
  new_each P holds Off key r h = cc
  new_each P holds Nothing key r h = cc
  new_each P holds OnlyA key r h = found_row P A (holds A) key r None (λ q e. cc) h
  new_each P holds Both key r h =
      found_row P B (holds B) key r (if is_eq (key_cmp (domain_key A) key) then Some (domain_row A) else None)
      (λ q e. found_row P A (holds A) key q None (λ x k. cc) e) h

  -- nothing is registered
  pub new_registered : (domain : DomainSet) (key : MsrpKey) → registered_at key_cmp key (new domain) ≡ None
  new_registered Off key = refl
  new_registered Nothing key = refl
  new_registered OnlyA key = by (is_eq (key_cmp (domain_key A) key))
    where
      by : (b : Bool) → registered_in (if b then Some (domain_row A) else None) ≡ None
      by true = refl
      by false = refl
  new_registered Both key = by (is_eq (key_cmp (domain_key B) key)) (is_eq (key_cmp (domain_key A) key))
    where
      by : (b a : Bool) → registered_in (if b then Some (domain_row B) else if a then Some (domain_row A) else None) ≡ None
      by true a = refl
      by false true = refl
      by false false = refl

  -- no Talker and no Listeners are declared
  pub new_talker : (domain : DomainSet) (s : StreamId) → declared_at key_cmp (keys.Talker s) (new domain) ≡ None
  new_talker Off s = refl
  new_talker Nothing s = refl
  new_talker OnlyA s = refl
  new_talker Both s = refl

  pub new_listener : (domain : DomainSet) (s : StreamId) → declared_at key_cmp (keys.Listener s) (new domain) ≡ None
  new_listener Off s = refl
  new_listener Nothing s = refl
  new_listener OnlyA s = refl
  new_listener Both s = refl

  -- each Domain is declared as it is for good
  pub new_domain : (domain : DomainSet) (id : ℕ) → declared_at key_cmp (keys.Domain id) (new domain) ≡ domain_stated domain id
  new_domain Off id = refl
  new_domain Nothing id = refl
  new_domain OnlyA id =
      let six : is_eq (nat_cmp 6 id) ≡ (6 == id) = grind (arith, nat_tests) in
      ap (λ b. declared_in (if b then Some (domain_row A) else None)) six ∙ by (6 == id)
    where
      by : (a : Bool) → declared_in (if a then Some (domain_row A) else None) ≡ option_map domain_content (if a then Some A else None)
      by true = refl
      by false = refl
  new_domain Both id =
      let six : is_eq (nat_cmp 6 id) ≡ (6 == id) = grind (arith, nat_tests) in
      let five : is_eq (nat_cmp 5 id) ≡ (5 == id) = grind (arith, nat_tests) in
      ap (λ b. declared_in (if b then Some (domain_row B) else if is_eq (nat_cmp 6 id) then Some (domain_row A) else None)) five
      ∙ (ap (λ a. declared_in (if 5 == id then Some (domain_row B) else if a then Some (domain_row A) else None)) six ∙ by (5 == id) refl (6 == id) refl)
    where
      by : (b : Bool) → (5 == id) ≡ b → (a : Bool) → (6 == id) ≡ a
          → declared_in (if b then Some (domain_row B) else if a then Some (domain_row A) else None)
          ≡ option_map domain_content (if a then Some A else if b then Some B else None)
      by true e true f = absurd (grind (arith, nat_tests, e, f))
      by true e false f = refl
      by false e true f = refl
      by false e false f = refl

-- what holds of the Domain value of each class holds of the one with an SRclassID
found_value : (P : MsrpKey → MsrpContent → Type 0) → ((class : Class) → P (domain_key class) (domain_content class)) → (classes : List Class) (id : ℕ) (c : MsrpContent)
    → option_map domain_content (find (λ (class : Class). class_id class == id) classes) ≡ Some c → P (keys.Domain id) c
found_value P holds [] id c h = cc
found_value P holds (class ∷ classes) id c h = by (class_id class == id) refl (found_value P holds classes id c) h
  where
    by : (b : Bool) → (class_id class == id) ≡ b
        → (option_map domain_content (find (λ (x : Class). class_id x == id) classes) ≡ Some c → P (keys.Domain id) c)
        → option_map domain_content (if b then Some class else find (λ (x : Class). class_id x == id) classes) ≡ Some c → P (keys.Domain id) c
    by true e rest k =
        let same : domain_content class ≡ c = cc in
        subst (λ (x : MsrpContent). P (keys.Domain id) x) same (subst (λ (n : ℕ). P (keys.Domain n) (domain_content class)) (eqb-true (class_id class) id e) (holds class))
    by false e rest k = rest k

-- so it holds of what is declared of a Domain
pub stated_value : (P : MsrpKey → MsrpContent → Type 0) → ((class : Class) → P (domain_key class) (domain_content class)) → (domain : DomainSet) (id : ℕ) (c : MsrpContent)
    → domain_stated domain id ≡ Some c → P (keys.Domain id) c
stated_value P holds domain id c h = found_value P holds (classes_of domain) id c h

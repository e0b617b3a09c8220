-- What becomes of a side where the port at a place changes in its place.
use Rattle.std.proofs.Common.{◌≡◌, ◌≤◌, ◌<◌, ℕ, zero, suc, Bool, true, false, ◌&&◌, if◌then◌else◌, List, [], ◌∷◌, ◌++◌, length, map, refl, ap, sym, subst, ◌∙◌, arith}
use Rattle.std.specs.Prelude.{◌≢◌, ◌||◌, nat_le, Contains, filter, fold, slice_get, slice_set, slice_index_or, Option, Some, None, option_map, Result, Ok, Err, OnOk, OnErr}
use Rattle.std.specs.List.{list_any}
use Rattle.std.proofs.lemmas.Option.{slice_get-map, slice_get_read}
use Rattle.std.proofs.lemmas.Bool.{or_parts as or_false}
use Rattle.srp_base.proofs.Lists.{map-set}
use Rattle.registrar.specs.Table.{is_leaving}
use Rattle.srp_base.specs.declared.{numbers.Cs.Cs, numbers.StreamId.StreamId, streams.Talker.Talker}
use Rattle.attribute_propagation.specs.{Dirty.KeySet, Ports.HasRoom, Ports.keys_in}
use Rattle.mrp_participant.specs.{Lookup.find, Lookup.key_of, Lookup.same, Row.after_hear, Row.leave_all_row, Row.leave_is_due, Row.registered_in, Row.row_after_receive, Row.row_hearing, State.after, State.changed_keys, State.left_keys, State.received_state, State.registered_at}
use Rattle.msrp_codec.specs.declared.pdu.MsrpKey.{MsrpKey}
use Rattle.msrp_codec.specs.declared.pdu.MsrpKey.TheVariants as keys
use Rattle.registrar.proofs.RegistrarLemmas.{leave_all-registered}
use Rattle.msrp.specs.{DomainSet, key_cmp, same_content, are_counted, is_domain, is_domain_leaving, is_domain_told, known_keys, told_sets, IsKept, Streams, at_port, with_part, with_port_at, with_told_port, PortHolding, ports_in, streams_of}
use Rattle.msrp.specs.PortState.{PortState}
use Rattle.msrp.specs.Part.{Part}
use Rattle.msrp.proofs.Contents.{MsrpHeard, MsrpRow}

-- room for so many keys is room for fewer
pub fewer : (n m : ℕ) (sets : List (KeySet MsrpKey)) → n ≤ m → HasRoom m sets → HasRoom n sets
fewer n m [] le h = tt
fewer n m (set ∷ sets) le h = (omega (arith, le, h.0), fewer n m sets le h.1)

-- ---- the port at a place

pub states-set : (ports : List PortHolding) (at : ℕ) (y : PortHolding) → ports_in (slice_set ports at y) ≡ slice_set (ports_in ports) at y.state
states-set ports at y = map-set (λ (p : PortHolding). p.state) ports at y

pub states_joined : (ports : List PortHolding) (y : PortHolding) → ports_in (ports ++ y ∷ []) ≡ ports_in ports ++ y.state ∷ []
states_joined [] y = refl
states_joined (p ∷ ports) y = ap (λ ss. p.state ∷ ss) (states_joined ports y)

-- the state that is read at a place
pub state-read : (ports : List PortHolding) (at : ℕ) (x : PortHolding) → slice_index_or (ports_in ports) at x.state ≡ (slice_index_or ports at x).state
state-read [] at x = refl
state-read (p ∷ ports) zero x = refl
state-read (p ∷ ports) (suc at) x = state-read ports at x

pub port_is : (ports : List PortHolding) (at : ℕ) (x : PortHolding) → at < length ports → x ≡ slice_index_or ports at x → slice_get ports at ≡ Some x
port_is ports at x below is = slice_get_read ports (length ports) at x refl below is

pub state_is : (ports : List PortHolding) (at : ℕ) (x : PortHolding) → slice_get ports at ≡ Some x → slice_get (ports_in ports) at ≡ Some x.state
state_is ports at x here = slice_get-map (λ (p : PortHolding). p.state) ports at ∙ ap (option_map (λ (p : PortHolding). p.state)) here

-- one of the same state takes the place
pub same_states : (ports : List PortHolding) (at : ℕ) (x y : PortHolding) → x ≡ slice_index_or ports at x → y.state ≡ x.state → ports_in (slice_set ports at y) ≡ ports_in ports
same_states [] at x y is e = refl
same_states (p ∷ ports) zero x y is e = ap (λ (s : PortState). s ∷ ports_in ports) (e ∙ ap (λ (q : PortHolding). q.state) is)
same_states (p ∷ ports) (suc at) x y is e = ap (λ ss. p.state ∷ ss) (same_states ports at x y is e)

-- its participant changes, and tells nothing
pub changed_is : (ports : List PortHolding) (sets : List (KeySet MsrpKey)) (talks : List Talker) (listens : List StreamId) (moment at : ℕ) (x y : PortHolding) (f : Part → Part)
    → at < length ports → x ≡ slice_index_or ports at x → y.state ≡ with_part (f x.state.part) x.state
    → streams_of (slice_set ports at y) sets talks listens moment
    ≡ at_port at (λ r. with_port_at at (with_part (f r.part) r) (streams_of ports sets talks listens moment)) (streams_of ports sets talks listens moment)
changed_is ports sets talks listens moment at x y f below is e =
    let here : slice_get (ports_in ports) at ≡ Some x.state = state_is ports at x (port_is ports at x below is) in
    rw (here, states-set ports at y, e) refl

-- which keys are known is nothing where no Domain has to be heeded
pub known_or_not : (at : ℕ) (domain : DomainSet) (told some known : List MsrpKey) (sets : List (List MsrpKey)) → (is_domain_told domain told ≡ true → some ≡ known)
    → told_sets at domain told some sets ≡ told_sets at domain told known sets
known_or_not at domain told some known sets same = by (is_domain_told domain told) refl
  where
    by : (b : Bool) → is_domain_told domain told ≡ b → told_sets at domain told some sets ≡ told_sets at domain told known sets
    by true e = ap (λ ks. told_sets at domain told ks sets) (same e)
    by false e = rw e refl

-- its participant changes, and tells keys
pub told_is : (ports : List PortHolding) (old new : List (KeySet MsrpKey)) (talks : List Talker) (listens : List StreamId) (moment at : ℕ) (x y : PortHolding) (f : Part
    → Part) (told : List MsrpKey) (g : Part → List MsrpKey)
    (some : List MsrpKey) → at < length ports → x ≡ slice_index_or ports at x → y.state ≡ with_part (f x.state.part) x.state → told ≡ g x.state.part
    → (is_domain_told x.state.domain told ≡ true → some ≡ known_keys talks listens (ports_in ports))
    → keys_in new ≡ told_sets at x.state.domain told some (keys_in old)
    → streams_of (slice_set ports at y) new talks listens moment
    ≡ at_port at (λ r. with_told_port at (with_part (f r.part) r) (g r.part) (streams_of ports old talks listens moment)) (streams_of ports old talks listens moment)
told_is ports old new talks listens moment at x y f told g some below is e said known marked =
    let here : slice_get (ports_in ports) at ≡ Some x.state = state_is ports at x (port_is ports at x below is) in
    let sets : keys_in new ≡ told_sets at x.state.domain (g x.state.part) (known_keys talks listens (ports_in ports)) (keys_in old) =
    marked ∙ (known_or_not at x.state.domain told some (known_keys talks listens (ports_in ports)) (keys_in old) known
    ∙ ap (λ ks. told_sets at x.state.domain ks (known_keys talks listens (ports_in ports)) (keys_in old)) said) in
    rw (here, states-set ports at y, e, sets) refl

-- ---- what an answer says

pub kept_either : {X E : Type 0} (r : Result X E) (old new done : Streams) → IsKept old → IsKept done → OnOk r (new ≡ done) → OnErr r (new ≡ old) → IsKept new
kept_either (Ok x) old new done was is ok err = subst IsKept (sym ok) is
kept_either (Err e) old new done was is ok err = subst IsKept (sym err) was

-- two states of the same are one
pub same_streams : (ports those : List PortHolding) (sets these : List (KeySet MsrpKey)) (talks : List Talker) (listens : List StreamId) (moment : ℕ)
    → ports_in ports ≡ ports_in those → keys_in sets ≡ keys_in these
    → streams_of ports sets talks listens moment ≡ streams_of those these talks listens moment
same_streams ports those sets these talks listens moment p s = rw (p, s) refl

-- ---- where a Domain may be told

any_by : {X : Type 0} (p : X → Bool) (x : X) (xs : List X) (b : Bool) → p x ≡ b → (b || list_any p xs) ≡ true → (list_any p xs ≡ true → (z : X) × (Contains xs z) × (p z ≡ true))
    → (z : X) × (Contains (x ∷ xs) z) × (p z ≡ true)
any_by p x xs true e k rest = (x, (0, omega arith, refl), e)
any_by p x xs false e k rest =
    let one = rest k in
    (one.0, (suc one.1.0, omega (arith, one.1.1), one.1.2), one.2)

any_there : {X : Type 0} (p : X → Bool) (xs : List X) → list_any p xs ≡ true → (x : X) × (Contains xs x) × (p x ≡ true)
any_there p [] h = cc
any_there p (x ∷ xs) h = any_by p x xs (p x) refl h (any_there p xs)

-- a Domain's key is no other's
domain_apart : (a b : MsrpKey) → is_domain a ≡ false → is_domain b ≡ true → same key_cmp a b ≡ false
domain_apart (keys.Talker s) (keys.Talker t) x y = cc
domain_apart (keys.Talker s) (keys.Listener t) x y = cc
domain_apart (keys.Talker s) (keys.Domain c) x y = refl
domain_apart (keys.Listener s) (keys.Talker t) x y = cc
domain_apart (keys.Listener s) (keys.Listener t) x y = cc
domain_apart (keys.Listener s) (keys.Domain c) x y = refl
domain_apart (keys.Domain c) b x y = cc

-- where no event of a Domain came in, what is registered of one stays
unheard : (leave : Cs) (k : MsrpKey) (events : List MsrpHeard) (r : Option MsrpRow) → is_domain k ≡ true → list_any (λ (e : MsrpHeard). is_domain e.1) events ≡ false
    → fold (row_hearing key_cmp leave k) r events ≡ r
unheard leave k [] r is none = refl
unheard leave k (e ∷ events) r is none =
    let parts = or_false (is_domain e.1) (list_any (λ (x : MsrpHeard). is_domain x.1) events) none in
    ap (λ b. fold (row_hearing key_cmp leave k) (if b then after_hear e.0 e.1 e.2 leave r else r) events) (domain_apart e.1 k parts.0 is) ∙ unheard leave k events r is parts.1

left_alone : (leave : Cs) (b : Bool) (r : Option MsrpRow) → registered_in (if b then option_map (leave_all_row leave) r else r) ≡ registered_in r
left_alone leave true None = refl
left_alone leave true (Some r) = ap (λ x. if x then Some r.heard else None) (leave_all-registered r.registrar)
left_alone leave false r = refl

-- the law that each told key's registration has changed, and that of each key's row
abbrev pub TellsOnly : Cs → Bool → List MsrpHeard → Part → Type 0
TellsOnly now leave_all events s =
    (k : MsrpKey) → Contains (changed_keys key_cmp same_content s.rows (received_state key_cmp now leave_all events s).rows) k
    → registered_at key_cmp k (received_state key_cmp now leave_all events s) ≢ registered_at key_cmp k s

abbrev pub HasHeard : Cs → Bool → List MsrpHeard → Part → Type 0
HasHeard now leave_all events s =
    (k : MsrpKey) → find key_cmp k (received_state key_cmp now leave_all events s).rows ≡ row_after_receive key_cmp (after now s.leave_time) leave_all events k (find key_cmp k s.rows)

-- a Domain is told only where an event of one came in
pub told_heard : (now : Cs) (leave_all : Bool) (events : List MsrpHeard) (s : Part) → TellsOnly now leave_all events s → HasHeard now leave_all events s
    → list_any is_domain (changed_keys key_cmp same_content s.rows (received_state key_cmp now leave_all events s).rows) ≡ true → list_any (λ (e : MsrpHeard). is_domain e.1) events ≡ true
told_heard now leave_all events s only heard told = by (list_any (λ (e : MsrpHeard). is_domain e.1) events) refl
  where
    by : (b : Bool) → list_any (λ (e : MsrpHeard). is_domain e.1) events ≡ b → b ≡ true
    by true e = refl
    by false e =
        let one = any_there is_domain _ told in
        absurd (only one.0 one.1
        (ap registered_in (heard one.0
        ∙ unheard (after now s.leave_time) one.0 events
        (if leave_all then option_map (leave_all_row (after now s.leave_time)) (find key_cmp one.0 s.rows) else find key_cmp one.0 s.rows) one.2 e)
        ∙ left_alone (after now s.leave_time) leave_all (find key_cmp one.0 s.rows)))

-- a Domain leaves only where a registrar of one is LV
left_by : (now : ℕ) (r : MsrpRow) (rs : List MsrpRow) → (list_any is_domain (map key_of (filter (leave_is_due now) rs)) ≡ true → list_any is_domain_leaving rs ≡ true)
    → (a : Bool) (b : Bool) (d : Bool) → is_domain r.key ≡ d
    → list_any is_domain (map key_of (if a && b then r ∷ filter (leave_is_due now) rs else filter (leave_is_due now) rs)) ≡ true → ((d && a) || list_any is_domain_leaving rs) ≡ true
left_by now r rs rest true true true z k = refl
left_by now r rs rest true true false z k = rest (ap (λ v. v || list_any is_domain (map key_of (filter (leave_is_due now) rs))) (sym z) ∙ k)
left_by now r rs rest true false true z k = refl
left_by now r rs rest true false false z k = rest k
left_by now r rs rest false b true z k = rest k
left_by now r rs rest false b false z k = rest k

left_rows : (now : ℕ) (rs : List MsrpRow) → list_any is_domain (map key_of (filter (leave_is_due now) rs)) ≡ true → list_any is_domain_leaving rs ≡ true
left_rows now [] h = cc
left_rows now (r ∷ rs) h = left_by now r rs (left_rows now rs) (is_leaving r.registrar) (nat_le r.leave.0 now) (is_domain r.key) refl h

pub left_leaving : (now : Cs) (s : Part) → list_any is_domain (left_keys now s) ≡ true → list_any is_domain_leaving s.rows ≡ true
left_leaving now s told = left_rows now.0 s.rows told

-- what is known is there where it has to be
pub known_there : (domain : DomainSet) (told : List MsrpKey) (may : Bool) (some all : List MsrpKey) → (list_any is_domain told ≡ true → may ≡ true)
    → some ≡ (if are_counted domain && may then all else []) → is_domain_told domain told ≡ true → some ≡ all
known_there domain told may some all only is heeded = by (are_counted domain) refl (list_any is_domain told) refl
  where
    by : (a : Bool) → are_counted domain ≡ a → (b : Bool) → list_any is_domain told ≡ b → some ≡ all
    by true x true y = is ∙ (ap (λ v. if v && may then all else []) x ∙ ap (λ v. if v then all else []) (only y))
    by true x false y = absurd (let no : true ≡ false = sym heeded ∙ (ap (λ v. v && list_any is_domain told) x ∙ y) in cc)
    by false x b y = absurd (let no : true ≡ false = sym heeded ∙ ap (λ v. v && list_any is_domain told) x in cc)

-- What every scenario keeps of its events.
use Rattle.std.proofs.Common.{◌≡◌, ℕ, suc, zero, ◌+◌, ◌<◌, ◌≤◌, Bool, true, false, if◌then◌else◌, List, [], ◌∷◌, Option, Some, None, option_map, Result, Ok, Err, refl, sym, subst, length, leb-true, ltb-true, ltb-false, IfSome, IfOk, arith}
use Rattle.std.proofs.lemmas.List.Elements.{All-nil, All-cons, All-weaker, All-map}
use Rattle.std.specs.{Cmp.Lexicographic.pointwise, List.All, List.AllByRecursion, List.list_any, List.Sorted.IsNonDecreasing}
use Rattle.std.specs.Prelude.{nat_le, nat_lt, nat_eq, codes, option_and_then}
use Rattle.srp_base.proofs.Options.{opened as some-says}
use Rattle.hex.specs.Hex.{decode_of, IsBytes}
use Rattle.hex.specs.declared.error.FromHexError.{FromHexError}
use Rattle.hex.proofs.HexLemmas.{decode_of-ok}
use Rattle.srp_base.specs.declared.numbers.NodeNo.{NodeNo}
use Rattle.toml.specs.Data.{Members}
use Rattle.toml_rules.specs.{Fields.number, Fields.text, Fields.has_only, Rules.each_entry, Rules.first_fall}
use Rattle.tree_topology.specs.Graph.{IsNode}
use Rattle.topology_file.specs.{NodeEntry, LinkEntry, StreamEntry, EventEntry, EventForm, EventKind, name_at, node_named, station_named, joins_both, tick_at, event_form, form_ticks, event_ticks, event_entry, vlan_keys, vid_at, vlan_at, talker_keys, talker_at, listener_at, both_named, listener_named, pdu_keys, index_at, joined_named, known_pdu, pdu_at, forgery_keys, app_at, decoded, octets_of_text, pdu_octets_at, forgery_form, kind_form, vlan_form, talker_form, pdu_form, ArePduOctets, IsAtVlan, IsAtPdu, IsStationNumber, IsStreamNumber, IsNotTalker, AreJoinedNumbers, IsKnownKind, events_of, stream_named, is_talker_of}
use Rattle.topology_file.specs.declared.entries.EventKind.TheVariants as kinds
use Rattle.topology_file.proofs.{Chains.and_then-if, Chains.map-if, Chains.made-if, Chains.when-if, Chains.unless-if, Chains.either-if, Chains.within-range, Chains.chain-if, Chains.chain-none, Chains.ok-all, Chains.ok-says, Chains.each-all, Chains.each-map, Chains.each-keeps, Chains.alike-length, NetworkKept.node-known, NetworkKept.station-known, StreamsKept.stream-known, StreamsKept.not-talker}

-- ---- VIDs and PDUs

joined-known : (nodes : List NodeEntry) (links : List LinkEntry) (from to : List ℕ) → IfSome (joined_named nodes links from to) (λ p. AreJoinedNumbers nodes links p.0.0 p.1.0)
joined-known nodes links from to =
    let P : NodeNo × NodeNo → Type 0 = λ p. AreJoinedNumbers nodes links p.0.0 p.1.0 in
    let N : NodeNo → Type 0 = λ x. IsNode (length nodes) x.0 in
    and_then-if P _ (node_named nodes from) (λ x ex.
    and_then-if P _ (node_named nodes to) (λ y ey.
    when-if P (list_any (joins_both x.0 y.0) links) (Some (x, y)) (λ e. (
      some-says N (node_named nodes from) x ex (node-known from nodes),
      some-says N (node_named nodes to) y ey (node-known to nodes),
      e,
    ))))

vlan-known : (nodes : List NodeEntry) (ms : Members) → IfSome (vlan_at nodes ms) (λ p. IfSome p.0 (λ x. IsStationNumber nodes x.0) × ((1 ≤ p.1) × (p.1 ≤ 4094)))
vlan-known nodes ms =
    let P : Option NodeNo × ℕ → Type 0 = λ p. IfSome p.0 (λ x. IsStationNumber nodes x.0) × ((1 ≤ p.1) × (p.1 ≤ 4094)) in
    when-if P (has_only vlan_keys ms) _ (λ _.
    and_then-if P _ (name_at (codes "station") ms) (λ name en.
    and_then-if P _ (vid_at ms) (λ vid ev.
    (station-known name nodes, some-says (λ n. (1 ≤ n) × (n ≤ 4094)) (vid_at ms) vid ev (within-range 1 4094 (number (codes "vid") ms))))))

known-pdu-known : (nodes : List NodeEntry) (links : List LinkEntry) (ms : Members) → IfSome (known_pdu nodes links ms) (λ p. IfSome p.0 (λ x. AreJoinedNumbers nodes links x.0.0 x.1.0) × (p.1 ≤ 65535))
known-pdu-known nodes links ms =
    let P : Option (NodeNo × NodeNo) × ℕ → Type 0 = λ p. IfSome p.0 (λ x. AreJoinedNumbers nodes links x.0.0 x.1.0) × (p.1 ≤ 65535) in
    and_then-if P _ (name_at (codes "from") ms) (λ from ef.
    and_then-if P _ (name_at (codes "to") ms) (λ to et.
    and_then-if P _ (index_at ms) (λ index ei.
    (joined-known nodes links from to, (some-says (λ n. (0 ≤ n) × (n ≤ 65535)) (index_at ms) index ei (within-range 0 65535 (number (codes "index") ms))).1))))

pub pdu-known : (nodes : List NodeEntry) (links : List LinkEntry) (ms : Members) → IfSome (pdu_at nodes links ms) (λ p. IfSome p.0 (λ x. AreJoinedNumbers nodes links x.0.0 x.1.0) × (p.1 ≤ 65535))
pdu-known nodes links ms =
    when-if (λ p. IfSome p.0 (λ x. AreJoinedNumbers nodes links x.0.0 x.1.0) × (p.1 ≤ 65535)) (has_only pdu_keys ms) (known_pdu nodes links ms) (λ _. known-pdu-known nodes links ms)

-- what is made of parts that may be missing has what the parts have
parts-if : {A : Type 0} (Part : A → Type 0) (Number : ℕ → Type 0) (P : EventKind → Type 0) (kind : A → ℕ → EventKind) (o : Option (Option A × ℕ))
    → ((x : A) (n : ℕ) → Part x → Number n → P (kind x n)) → IfSome o (λ p. IfSome p.0 Part × Number p.1)
    → IfSome (option_map (λ p. option_map (λ x. kind x p.1) p.0) o) (λ k. IfSome k P)
parts-if Part Number P kind None h all = tt
parts-if Part Number P kind (Some (None, n)) h all = tt
parts-if Part Number P kind (Some (Some x, n)) h all = h x n all.0 all.1

-- ---- forged PDUs

-- octets that stand at each place stand by recursion
octets-each : (octets : List ℕ) → IsBytes octets → AllByRecursion (λ o. o < 256) octets
octets-each [] h = tt
octets-each (o ∷ octets) h = (h 0, octets-each octets (λ i. h (suc i)))

octets-known : (digits : List ℕ) → IfSome (octets_of_text digits) ArePduOctets
octets-known digits = when-if ArePduOctets (nat_le (length digits) 3000) (decoded (decode_of digits)) (λ few. by few (decode_of digits) refl)
  where
    by : nat_le (length digits) 3000 ≡ true → (r : Result (List ℕ) FromHexError) → decode_of digits ≡ r → IfSome (decoded r) ArePduOctets
    by few (Ok octets) e =
        let ok = decode_of-ok digits octets e in
        let most = leb-true (length digits) 3000 few in
        let twice = ok.2 in
        (omega (arith, most, twice), octets-each octets ok.3)
    by few (Err x) e = tt

forgery-known : (nodes : List NodeEntry) (links : List LinkEntry) (streams : List StreamEntry) (ms : Members) → IfSome (forgery_form nodes links ms) (λ k. IfSome k (IsKnownKind nodes links streams))
forgery-known nodes links streams ms =
    let K = IsKnownKind nodes links streams in
    let P : Option EventKind → Type 0 = λ k. IfSome k K in
    let Q : Option (NodeNo × NodeNo) × ℕ → Type 0 = λ p. IfSome p.0 (λ x. AreJoinedNumbers nodes links x.0.0 x.1.0) × (p.1 ≤ 65535) in
    when-if P (has_only forgery_keys ms) _ (λ _.
    and_then-if P _ (known_pdu nodes links ms) (λ p ep.
    and_then-if P _ (app_at ms) (λ app ea.
    and_then-if P _ (pdu_octets_at ms) (λ octets eo.
    (let at = some-says Q (known_pdu nodes links ms) p ep (known-pdu-known nodes links ms) in
    let are = some-says ArePduOctets (pdu_octets_at ms) octets eo (at-key (text (codes "octets") ms)) in
    map-if K _ p.0 (λ x ex. ((some-says (λ y. AreJoinedNumbers nodes links y.0.0 y.1.0) p.0 x ex at.0, at.1), are)))))))
  where
    at-key : (o : Option (List ℕ)) → IfSome (option_and_then octets_of_text o) ArePduOctets
    at-key None = tt
    at-key (Some digits) = octets-known digits

-- ---- talkers and listeners

talker-known : (streams : List StreamEntry) (ms : Members) → IfSome (talker_at streams ms) (λ o. IfSome o (IsStreamNumber streams))
talker-known streams ms =
    let P : Option ℕ → Type 0 = λ o. IfSome o (IsStreamNumber streams) in
    when-if P (has_only talker_keys ms) _ (λ _.
    map-if P _ (name_at (codes "stream") ms) (λ name e. stream-known name streams (stream_named streams name) refl))

-- a station and a stream
abbrev AreBoth : List NodeEntry → List StreamEntry → NodeNo × ℕ → Type 0
AreBoth nodes streams p = IsStationNumber nodes p.0.0 × IsStreamNumber streams p.1

-- a station and a stream in which it doesn't talk
abbrev AreListener : List NodeEntry → List StreamEntry → NodeNo × ℕ → Type 0
AreListener nodes streams p = IsStationNumber nodes p.0.0 × IsStreamNumber streams p.1 × IsNotTalker streams p.0.0 p.1

-- both are known, and the stream is that of the name
both-found : (nodes : List NodeEntry) (streams : List StreamEntry) (station stream : List ℕ)
    → IfSome (both_named nodes streams station stream) (λ p. AreBoth nodes streams p × (stream_named streams stream ≡ Some p.1))
both-found nodes streams station stream =
    let P : NodeNo × ℕ → Type 0 = λ p. AreBoth nodes streams p × (stream_named streams stream ≡ Some p.1) in
    and_then-if P _ (station_named nodes station) (λ x ex.
    and_then-if P _ (stream_named streams stream) (λ n en. (
      (
        some-says (λ y. IsStationNumber nodes y.0) (station_named nodes station) x ex (station-known station nodes),
        stream-known stream streams (Some n) en,
      ),
      en,
    )))

both-known : (nodes : List NodeEntry) (streams : List StreamEntry) (station stream : List ℕ) → IfSome (both_named nodes streams station stream) (AreBoth nodes streams)
both-known nodes streams station stream = first-part (both_named nodes streams station stream) (both-found nodes streams station stream)
  where
    first-part : (o : Option (NodeNo × ℕ)) → IfSome o (λ p. AreBoth nodes streams p × (stream_named streams stream ≡ Some p.1)) → IfSome o (AreBoth nodes streams)
    first-part None h = tt
    first-part (Some p) h = h.0

listener-known : (nodes : List NodeEntry) (streams : List StreamEntry) (station stream : List ℕ) → IfSome (listener_named nodes streams station stream) (AreListener nodes streams)
listener-known nodes streams station stream =
    let P = AreListener nodes streams in
    and_then-if P _ (both_named nodes streams station stream) (λ p ep.
    unless-if P (is_talker_of streams stream p.0.0) (Some p) (λ no.
    (let found = some-says (λ q. AreBoth nodes streams q × (stream_named streams stream ≡ Some q.1)) (both_named nodes streams station stream) p ep (both-found nodes streams station stream) in
    (found.0.0, found.0.1, not-talker stream streams p.0.0 p.1 found.1 no))))

-- what is made of the station and the stream of two names
named-if : (Pair : NodeNo × ℕ → Type 0) (P : EventKind → Type 0) (kind : NodeNo → ℕ → EventKind) (named : List ℕ → List ℕ → Option (NodeNo × ℕ)) (ms : Members)
    → ((a b : List ℕ) → IfSome (named a b) Pair) → ((p : NodeNo × ℕ) → Pair p → P (kind p.0 p.1))
    → IfSome (option_map (λ p. option_map (λ x. kind x.0 x.1) (named p.0 p.1)) (listener_at ms)) (λ k. IfSome k P)
named-if Pair P kind named ms known make =
    map-if (λ k. IfSome k P) _ (listener_at ms) (λ p e. made-if Pair P (λ x. kind x.0 x.1) (named p.0 p.1) make (known p.0 p.1))

-- ---- the kinds

kind-known : (nodes : List NodeEntry) (links : List LinkEntry) (streams : List StreamEntry) (ms : Members) (word : List ℕ)
    → IfSome (kind_form nodes links streams ms word) (λ k. IfSome k (IsKnownKind nodes links streams))
kind-known nodes links streams ms word =
    let K = IsKnownKind nodes links streams in
    let P : Option EventKind → Type 0 = λ k. IfSome k K in
    let is = λ (kind : List ℕ). pointwise nat_eq word kind in
    either-if P (is (codes "declare")) _ _ (at-vlan kinds.Declare (λ x n h. h)) (
    either-if P (is (codes "withdraw")) _ _ (at-vlan kinds.Withdraw (λ x n h. h)) (
    either-if P (is (codes "talk")) _ _ (at-talker kinds.Talk (λ n h. h)) (
    either-if P (is (codes "hush")) _ _ (at-talker kinds.Hush (λ n h. h)) (
    either-if P (is (codes "listen")) _ _ (named-if (AreListener nodes streams) K kinds.Listen (listener_named nodes streams) ms (listener-known nodes streams) (λ p h. h)) (
    either-if P (is (codes "unlisten")) _ _ (named-if (AreBoth nodes streams) K kinds.Unlisten (both_named nodes streams) ms (both-known nodes streams) (λ p h. h)) (
    either-if P (is (codes "lose")) _ _ (at-pdu kinds.Lose (λ x y n h. h)) (
    either-if P (is (codes "repeat")) _ _ (at-pdu kinds.Repeat (λ x y n h. h)) (
    either-if P (is (codes "forge")) _ _ (forgery-known nodes links streams ms) tt))))))))
  where
    at-vlan : (kind : NodeNo → ℕ → EventKind) → ((x : NodeNo) (n : ℕ) → IsAtVlan nodes x.0 n → IsKnownKind nodes links streams (kind x n))
        → IfSome (vlan_form kind nodes ms) (λ k. IfSome k (IsKnownKind nodes links streams))
    at-vlan kind make =
        parts-if (λ x. IsStationNumber nodes x.0) (λ n. (1 ≤ n) × (n ≤ 4094)) (IsKnownKind nodes links streams) kind (vlan_at nodes ms) (λ x n a b. make x n (a, b.0, b.1)) (vlan-known nodes ms)

    at-talker : (kind : ℕ → EventKind) → ((n : ℕ) → IsStreamNumber streams n → IsKnownKind nodes links streams (kind n))
        → IfSome (talker_form kind streams ms) (λ k. IfSome k (IsKnownKind nodes links streams))
    at-talker kind make =
        map-if _ _ (talker_at streams ms)
        (λ o e. made-if (IsStreamNumber streams) (IsKnownKind nodes links streams) kind o make
        (some-says (λ q. IfSome q (IsStreamNumber streams)) (talker_at streams ms) o e (talker-known streams ms)))

    at-pdu : (kind : NodeNo → NodeNo → ℕ → EventKind) → ((x y : NodeNo) (n : ℕ) → IsAtPdu nodes links x.0 y.0 n → IsKnownKind nodes links streams (kind x y n))
        → IfSome (pdu_form kind nodes links ms) (λ k. IfSome k (IsKnownKind nodes links streams))
    at-pdu kind make =
        parts-if (λ x. AreJoinedNumbers nodes links x.0.0 x.1.0) (λ n. n ≤ 65535) (IsKnownKind nodes links streams) (λ x n. kind x.0 x.1 n) (pdu_at nodes links ms)
        (λ x n a b. make x.0 x.1 n (a, b)) (pdu-known nodes links ms)

-- what an event that has its form keeps
abbrev FormKeeps : ℕ → List NodeEntry → List LinkEntry → List StreamEntry → EventForm → Type 0
FormKeeps ticks nodes links streams e = (e.tick < ticks) × IfSome e.kind (IsKnownKind nodes links streams)

event-form-keeps : (ticks : ℕ) (nodes : List NodeEntry) (links : List LinkEntry) (streams : List StreamEntry) (n : ℕ) (ms : Members)
    → IfSome (event_form ticks nodes links streams n ms) (λ e. FormKeeps ticks nodes links streams e × (n ≤ 10000))
event-form-keeps ticks nodes links streams n ms =
    let P : EventForm → Type 0 = λ e. FormKeeps ticks nodes links streams e × (n ≤ 10000) in
    let K : Option EventKind → Type 0 = λ k. IfSome k (IsKnownKind nodes links streams) in
    when-if P (nat_le n 10000) _ (λ le.
    and_then-if P _ (tick_at ticks ms) (λ tick et.
    and_then-if P _ (text (codes "kind") ms) (λ word ew.
    and_then-if P _ (kind_form nodes links streams ms word) (λ kind ek. (
      (
        some-says (λ t. t < ticks) (tick_at ticks ms) tick et tick-below,
        some-says K (kind_form nodes links streams ms word) kind ek (kind-known nodes links streams ms word),
      ),
      leb-true n 10000 le,
    )))))
  where
    tick-below : IfSome (tick_at ticks ms) (λ t. t < ticks)
    tick-below =
        and_then-if (λ t. t < ticks) _ (number (codes "tick") ms) (λ tick e. when-if (λ t. t < ticks) (nat_lt tick ticks) (Some tick) (λ lt. ltb-true tick ticks lt))

event-known : (nodes : List NodeEntry) (links : List LinkEntry) (streams : List StreamEntry) (n : ℕ) (form : EventForm) → IfSome form.kind (IsKnownKind nodes links streams)
    → IfSome (event_entry n form) (λ e. IsKnownKind nodes links streams e.kind)
event-known nodes links streams n form h =
    map-if _ _ form.kind (λ k e. some-says (IsKnownKind nodes links streams) form.kind k e h)

event-tick : (n : ℕ) (form : EventForm) → IfSome (event_entry n form) (λ e. e.tick ≡ form.tick)
event-tick n form = map-if _ _ form.kind (λ k e. refl)

-- ticks that never fall ascend
pub ticks-ascend : (n before : ℕ) (ts : List ℕ) → first_fall n before ts ≡ None → All (λ t. before ≤ t) ts × IsNonDecreasing ts
ticks-ascend n before [] e = (All-nil (λ t. before ≤ t), λ i j d le lt. absurd (omega (arith, lt)))
ticks-ascend n before (t ∷ ts) e =
    let p = by (nat_lt t before) (first_fall (n + 1) t ts) e in
    let le : before ≤ t = ltb-false t before p.0 in
    let rest = ticks-ascend (n + 1) t ts p.1 in
    (All-cons (λ u. before ≤ u) t ts le (All-weaker (λ u. t ≤ u) (λ u. before ≤ u) (λ u h. omega (arith, le, h)) ts rest.0), pairs rest.0 rest.1)
  where
    by : (b : Bool) (o : Option ℕ) → (if b then Some n else o) ≡ None → (b ≡ false) × (o ≡ None)
    by true o e = absurd (let no : Some n ≡ None → ⊥ = λ q. cc in no e)
    by false o e = (refl, e)

    pairs : All (λ u. t ≤ u) ts → IsNonDecreasing ts → IsNonDecreasing (t ∷ ts)
    pairs above h zero zero d le lt = omega arith
    pairs above h zero (suc j) d le lt = above j d (omega (arith, lt))
    pairs above h (suc i) zero d le lt = absurd (omega (arith, le))
    pairs above h (suc i) (suc j) d le lt = h i j d (omega (arith, le)) (omega (arith, lt))

pub record EventsKeep (ticks : ℕ) (nodes : List NodeEntry) (links : List LinkEntry) (streams : List StreamEntry) (events : List EventEntry) : Type 0 where
  pub many : length events ≤ 10000
  pub within : All (λ t. t < ticks) (event_ticks events)
  pub order : IsNonDecreasing (event_ticks events)
  pub known : All (λ e. IsKnownKind nodes links streams e.kind) events

-- the forms of events: what each keeps, and that they are not too many
forms-keep : (ticks : ℕ) (nodes : List NodeEntry) (links : List LinkEntry) (streams : List StreamEntry) (entries : List Members)
    → IfOk (each_entry 20 (event_form ticks nodes links streams) 1 entries) (λ forms. All (FormKeeps ticks nodes links streams) forms × (length forms ≤ 10000))
forms-keep ticks nodes links streams entries =
    each-keeps (FormKeeps ticks nodes links streams) 10000 20 (event_form ticks nodes links streams) (event-form-keeps ticks nodes links streams) entries

pub events-keep : (ticks : ℕ) (nodes : List NodeEntry) (links : List LinkEntry) (streams : List StreamEntry) (entries : List Members)
    → IfOk (events_of ticks nodes links streams entries) (EventsKeep ticks nodes links streams)
events-keep ticks nodes links streams entries =
    let P = EventsKeep ticks nodes links streams in
    let F = FormKeeps ticks nodes links streams in
    let K : EventEntry → Type 0 = λ e. IsKnownKind nodes links streams e.kind in
    let D : List ℕ → Type 0 = λ ts. All (λ t. t < ticks) ts in
    chain-if P _ (each_entry 20 (event_form ticks nodes links streams) 1 entries) _ (forms-keep ticks nodes links streams entries) (λ forms f.
    chain-none P 21 (first_fall 1 0 (form_ticks forms)) _ (λ order.
    (let named = each_entry 22 event_entry 1 forms in
    ok-all named P (λ events is.
    (let same = ok-says (λ ys. event_ticks ys ≡ form_ticks forms) named events is (each-map (λ (x : EventForm). x.tick) (λ (y : EventEntry). y.tick) 22 event_entry event-tick 1 forms) in
    record {
      many = omega (arith, f.1, alike-length (λ (x : EventForm). x.tick) (λ (y : EventEntry). y.tick) forms events same);
      within = subst D (sym same) (All-map (λ t. t < ticks) (λ (x : EventForm). x.tick) forms (All-weaker F (λ x. x.tick < ticks) (λ x h. h.0) forms f.0));
      order = subst IsNonDecreasing (sym same) (ticks-ascend 1 0 (form_ticks forms) order).1;
      known = ok-says (All K) named events is (each-all F K 22 event_entry (λ n x h. event-known nodes links streams n x h.1) 1 forms f.0);
    })))))

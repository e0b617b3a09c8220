-- The tables of a plan's events are read as these events.
use Rattle.std.proofs.Common.{◌≡◌, ◌≢◌, ◌⊎◌, inl, inr, ◌∙◌, ℕ, zero, suc, ◌+◌, ◌-◌, ◌<◌, ◌≤◌, ◌^◌, Bool, true, false, ◌&&◌, ◌||◌, ◌==◌, nat_le, nat_lt, if◌then◌else◌, List, [], ◌∷◌, ◌++◌, map, length, get_or, Option, Some, None, option_map, Ok, refl, sym, ap, subst, le-leb, eqb, slice_get, arith}
use Rattle.std.proofs.lemmas.{Bool.Decides.nat_tests, Bool.false≢true, List.Elements.All-append, List.Elements.All-cons, List.Elements.All-head, List.Elements.All-map, List.Elements.All-nil, List.Elements.All-tail, List.Elements.All-weaker, List.Folds.list_any_none}
use Rattle.std.specs.{Cmp.Lexicographic.pointwise, Cmp.Lexicographic.bytes_decides, List.All, List.list_any, Option.option_map_or, Str.Lossy.utf8_lossy}
use Rattle.std.specs.Prelude.{AllPairs, codes, nat_eq}
use Rattle.srp_base.specs.declared.numbers.NodeNo.{NodeNo}
use Rattle.toml.specs.Data.{Members}
use Rattle.toml_rules.specs.{Fields.number, Fields.text, Rules.each_entry, Rules.first_fall}
use Rattle.tree_topology.specs.Graph.{IsNode}
use Rattle.topology_file.specs.{declared.entries.EventEntry.EventEntry, declared.entries.EventKind.EventKind, Kinds.IsStationNumber, declared.entries.LinkEntry.LinkEntry, declared.entries.NodeEntry.NodeEntry, declared.entries.StreamEntry.StreamEntry, Kinds.both_named, Events.event_entry, Events.event_form, Events.form_ticks, Entries.is_name, Streams.is_stream_named, Streams.is_talker_of, Kinds.kind_form, Events.known_event, Kinds.listener_at, Kinds.listener_named, Entries.name_at, Entries.name_of_text, Entries.station_named, Streams.stream_named, Kinds.talker_at, Events.tick_at, Kinds.vid_at, Kinds.vlan_at}
use Rattle.topology_file.specs.declared.entries.EventKind.TheVariants as kinds
use Rattle.topology_file.proofs.Chains.{alike-at, alike-length, an_element}
use Rattle.plan_file.specs.{AreStationsApart, PlanEvent, PlanStream, at_each, declares_at, declares_of, events_of, has_vid, listens, listens_at, listens_of, needs_vid, numbers_from, plan_vids, talks_from, vids_at, event_members, event_of, kind_of, node_name, stream_name, tick_of}
use Rattle.plan_file.specs.declared.events.PlanEvent.TheVariants.{Declare, Listen, Talk}
use Rattle.plan_file.proofs.{Digits.name-back, FreeNumbers.filter-keeps, FreeNumbers.filter-passes, FreeNumbers.numbers-below, Lookups.found-at, Lookups.never-true, Lookups.slice-there, Lookups.station-found, NetworkRead.node-text, Readings.each-made, Readings.map-some, Readings.ok-then, Readings.none-then, Readings.then-some, Readings.when-false, Readings.when-true, Readings.within-some}

-- two numbers, one of which is less, and two that may be one
less-up : (a b : ℕ) → (a < b) ⊎ (b < a) → (suc a < suc b) ⊎ (suc b < suc a)
less-up a b (inl h) = inl (omega (arith, h))
less-up a b (inr h) = inr (omega (arith, h))

order : (a b : ℕ) → a ≢ b → (a < b) ⊎ (b < a)
order zero zero n = absurd (n refl)
order zero (suc b) n = inl (omega arith)
order (suc a) zero n = inr (omega arith)
order (suc a) (suc b) n = less-up a b (order a b (λ e. n (ap suc e)))

below-same : (a b : ℕ) → suc a ≡ suc b → a ≡ b
below-same a b e = omega (arith, e)

place-up : (a b : ℕ) → (a ≡ b) ⊎ (a ≢ b) → (suc a ≡ suc b) ⊎ (suc a ≢ suc b)
place-up a b (inl e) = inl (ap suc e)
place-up a b (inr n) = inr (λ e. n (below-same a b e))

is-place : (a b : ℕ) → (a ≡ b) ⊎ (a ≢ b)
is-place zero zero = inl refl
is-place zero (suc b) = inr (λ e. absurd (omega (arith, e)))
is-place (suc a) zero = inr (λ e. absurd (omega (arith, e)))
is-place (suc a) (suc b) = place-up a b (is-place a b)

differ : (a b : ℕ) → a ≢ b → eqb a b ≡ false
differ a b n = grind (arith, nat_tests)

off : (b c : Bool) → c ≡ false → (b && c) ≡ false
off true c e = e
off false c e = refl

-- the streams of a plan beside those of the scenario that it stands for
pub record AreStreamsOf (plan : List PlanStream) (streams : List StreamEntry) : Type 0 where
  pub names : map (λ (s : StreamEntry). s.name) streams ≡ map (λ (s : PlanStream). s.name) plan
  pub apart : AllPairs (λ x y. x.name ≢ y.name) streams
  pub forms : All (λ s. is_name s.name ≡ true) streams

-- what an event of a plan names is there
abbrev pub IsKnownEvent : List NodeEntry → List StreamEntry → PlanEvent → Type 0
IsKnownEvent nodes streams (Declare station vid) = IsStationNumber nodes station.0 × (1 ≤ vid) × (vid ≤ 4094)
IsKnownEvent nodes streams (Talk stream) = (1 ≤ stream) × (stream ≤ length streams)
IsKnownEvent nodes streams (Listen station stream) =
    IsStationNumber nodes station.0 × ((1 ≤ stream) × (stream ≤ length streams)) × ((d : StreamEntry) → (get_or streams (stream - 1) d).talker.0 ≢ station.0)

module _ (nodes : List NodeEntry) (names : AllPairs (λ x y. x.name ≢ y.name) nodes) (node_forms : All (λ x. is_name x.name ≡ true) nodes)
    (links : List LinkEntry) (plan : List PlanStream) (streams : List StreamEntry) (same : AreStreamsOf plan streams) where
  -- the name of a stream, and what is found by it
  name-at-number : (n : ℕ) (d : StreamEntry) → 1 ≤ n → n ≤ length streams → stream_name plan n ≡ (get_or streams (n - 1) d).name
  name-at-number n d low high =
      let long : length streams ≡ length plan = alike-length (λ (s : PlanStream). s.name) (λ (s : StreamEntry). s.name) plan streams same.names in
      let inside : n - 1 < length plan = omega (arith, low, high, long) in
      let e = an_element plan (n - 1) inside in
      ap (λ o. option_map_or (λ (s : PlanStream). s.name) o []) (slice-there plan (n - 1) e inside)
      ∙ sym (alike-at (λ (s : PlanStream). s.name) (λ (s : StreamEntry). s.name) plan streams same.names (n - 1) e d (omega (arith, low, high)))

  stream-text : (n : ℕ) → 1 ≤ n → n ≤ length streams → is_name (stream_name plan n) ≡ true
  stream-text n low high =
      let inside : n - 1 < length streams = omega (arith, low, high) in
      let d = an_element streams (n - 1) inside in
      ap is_name (name-at-number n d low high) ∙ same.forms (n - 1) d inside

  here-named : (n : ℕ) → 1 ≤ n → n ≤ length streams → (d : StreamEntry) → is_stream_named (stream_name plan n) (get_or streams (n - 1) d) ≡ true
  here-named n low high d = (bytes_decides (get_or streams (n - 1) d).name (stream_name plan n)).1 (sym (name-at-number n d low high))

  other-named : (n : ℕ) → 1 ≤ n → n ≤ length streams → (j : ℕ) (d : StreamEntry) → j < length streams → j ≢ n - 1
      → is_stream_named (stream_name plan n) (get_or streams j d) ≡ false
  other-named n low high j d inside not =
      never-true _ (λ t.
      (let e = (bytes_decides (get_or streams j d).name (stream_name plan n)).0 t ∙ name-at-number n d low high in
      by (order j (n - 1) not) e))
    where
      by : (j < n - 1) ⊎ (n - 1 < j) → (get_or streams j d).name ≡ (get_or streams (n - 1) d).name → ⊥
      by (inl lt) e = same.apart j (n - 1) d lt (omega (arith, low, high)) e
      by (inr lt) e = same.apart (n - 1) j d lt inside (sym e)

  stream-found : (n : ℕ) → 1 ≤ n → n ≤ length streams → stream_named streams (stream_name plan n) ≡ Some n
  stream-found n low high =
      let back : n - 1 + 1 ≡ n = omega (arith, low) in
      found-at (is_stream_named (stream_name plan n)) streams (n - 1) (omega (arith, low, high)) (here-named n low high)
      (λ j d lt. other-named n low high j d (omega (arith, lt, low, high)) (λ e. absurd (omega (arith, lt, e))))
      ∙ ap Some back

  -- a station that isn't the stream's talker isn't that of its name
  not-talking : (n x : ℕ) → 1 ≤ n → n ≤ length streams → ((d : StreamEntry) → (get_or streams (n - 1) d).talker.0 ≢ x) → is_talker_of streams (stream_name plan n) x ≡ false
  not-talking n x low high not =
      list_any_none (λ s. is_stream_named (stream_name plan n) s && eqb s.talker.0 x) streams (λ j d inside. by (is-place j (n - 1)) d inside)
    where
      by : {j : ℕ} → (j ≡ n - 1) ⊎ (j ≢ n - 1) → (d : StreamEntry) → j < length streams
          → (is_stream_named (stream_name plan n) (get_or streams j d) && eqb (get_or streams j d).talker.0 x) ≡ false
      by {j} (inl e) d inside =
          let F : ℕ → Type 0 = λ i. (is_stream_named (stream_name plan n) (get_or streams i d) && eqb (get_or streams i d).talker.0 x) ≡ false in
          subst F (sym e) (off (is_stream_named (stream_name plan n) (get_or streams (n - 1) d)) _ (differ (get_or streams (n - 1) d).talker.0 x (not d)))
      by {j} (inr e) d inside = ap (λ b. b && eqb (get_or streams j d).talker.0 x) (other-named n low high j d inside e)

  -- ---- an event

  node-name-back : (x : NodeNo) → IsStationNumber nodes x.0 → name_of_text (utf8_lossy (node_name nodes x)) ≡ Some (node_name nodes x)
  node-name-back x s = name-back (node_name nodes x) (node-text nodes names node_forms x s.0)

  pub event-back : (n : ℕ) (e : PlanEvent) → n ≤ 10000 → IsKnownEvent nodes streams e
      → event_form 1000 nodes links streams n (event_members nodes plan e) ≡ Some (record { tick = tick_of e; kind = Some (kind_of e) })
  event-back n (Declare station vid) few k =
      let ms = event_members nodes plan (Declare station vid) in
      when-true (nat_le n 10000) _ _ (le-leb n 10000 few)
      ∙ then-some _ (kind_form nodes links streams ms (codes "declare")) (Some (kinds.Declare station vid))
      (map-some _ (vlan_at nodes ms) (Some station, vid)
      (then-some _ (name_at (codes "station") ms) (node_name nodes station) (node-name-back station k.0)
      ∙ then-some _ (vid_at ms) vid (within-some 1 4094 vid k.1 k.2)
      ∙ ap (λ o. Some (o, vid)) (station-found nodes names station k.0)))
  event-back n (Talk stream) few k =
      let ms = event_members nodes plan (Talk stream) in
      when-true (nat_le n 10000) _ _ (le-leb n 10000 few)
      ∙ then-some _ (kind_form nodes links streams ms (codes "talk")) (Some (kinds.Talk stream))
      (map-some _ (talker_at streams ms) (Some stream)
      (map-some _ (name_at (codes "stream") ms) (stream_name plan stream) (name-back (stream_name plan stream) (stream-text stream k.0 k.1))
      ∙ ap Some (stream-found stream k.0 k.1)))
  event-back n (Listen station stream) few k =
      let ms = event_members nodes plan (Listen station stream) in
      let low = k.1.0 in
      let high = k.1.1 in
      let name = stream_name plan stream in
      when-true (nat_le n 10000) _ _ (le-leb n 10000 few)
      ∙ then-some _ (kind_form nodes links streams ms (codes "listen")) (Some (kinds.Listen station stream))
      (map-some _ (listener_at ms) (node_name nodes station, name)
      (then-some _ (name_at (codes "station") ms) (node_name nodes station) (node-name-back station k.0)
      ∙ then-some _ (name_at (codes "stream") ms) name (name-back name (stream-text stream low high)))
      ∙ ap Some (map-some _ (listener_named nodes streams (node_name nodes station) name) (station, stream)
      (then-some _ (both_named nodes streams (node_name nodes station) name) (station, stream)
      (then-some _ (station_named nodes (node_name nodes station)) station (station-found nodes names station k.0)
      ∙ then-some _ (stream_named streams name) stream (stream-found stream low high))
      ∙ when-false (is_talker_of streams name station.0) _ _ (not-talking stream station.0 low high k.2))))

-- ---- in order

-- the ticks of events don't fall, from one on
abbrev Rise : ℕ → List PlanEvent → Type 0
Rise before [] = Unit {0}
Rise before (e ∷ es) = (before ≤ tick_of e) × Rise (tick_of e) es

pub rise-none : (n before : ℕ) (es : List PlanEvent) → Rise before es → first_fall n before (form_ticks (map (λ (e : PlanEvent). record { tick = tick_of e; kind = Some (kind_of e) }) es)) ≡ None
rise-none n before [] h = refl
rise-none n before (e ∷ es) h = when-false (nat_lt (tick_of e) before) _ _ (not-below (tick_of e) before h.0) ∙ rise-none (n + 1) (tick_of e) es h.1
  where
    not-below : (a b : ℕ) → b ≤ a → nat_lt a b ≡ false
    not-below a b le = grind (arith, nat_tests)

-- events of one tick in front of later ones
rise-block : (t before : ℕ) (es rest : List PlanEvent) → before ≤ t → All (λ e. tick_of e ≡ t) es → ((b : ℕ) → b ≤ t → Rise b rest) → Rise before (es ++ rest)
rise-block t before [] rest le all later = later before le
rise-block t before (e ∷ es) rest le all later =
    let now = All-head (λ e. tick_of e ≡ t) e es all in
    (omega (arith, now, le), rise-block t (tick_of e) es rest (omega (arith, now)) (All-tail (λ e. tick_of e ≡ t) e es all) later)

-- events of one tick alone
ends-rise : (b : ℕ) (es : List PlanEvent) → b ≤ 20 → All (λ e. tick_of e ≡ 20) es → Rise b es
ends-rise b [] le h = tt
ends-rise b (e ∷ es) le h =
    let now = All-head (λ e. tick_of e ≡ 20) e es h in
    (omega (arith, now, le), ends-rise (tick_of e) es (omega (arith, now)) (All-tail (λ e. tick_of e ≡ 20) e es h))

-- ---- what all of them have

at-all : {A : Type 0} (P : PlanEvent → Type 0) (at : ℕ → List PlanEvent) (x : ℕ) (nodes : List A) → ((y : ℕ) → x ≤ y → y < x + length nodes → All P (at y)) → All P (at_each at x nodes)
at-all P at x [] h = All-nil P
at-all P at x (node ∷ nodes) h =
    All-append P (at x) (at_each at (x + 1) nodes) (h x (omega arith) (omega arith))
    (at-all P at (x + 1) nodes (λ y low high. h y (omega (arith, low)) (omega (arith, high))))

equal : (a b : ℕ) → eqb a b ≡ true → a ≡ b
equal a b t = grind (arith, nat_tests)

among-one : (P : NodeNo → Type 0) (x : ℕ) (y : NodeNo) (rest b : Bool) → eqb y.0 x ≡ b → P y → (rest ≡ true → P (record { 0 = x })) → (b || rest) ≡ true → P (record { 0 = x })
among-one P x y rest true is p later e =
    let F : ℕ → Type 0 = λ n. P (record { 0 = n }) in
    subst F (equal y.0 x is) p
among-one P x y rest false is p later e = later e

-- who is among stations has what all of them have
among-all : (P : NodeNo → Type 0) (x : ℕ) (xs : List NodeNo) → All P xs → list_any (λ y. y.0 == x) xs ≡ true → P (record { 0 = x })
among-all P x [] all e = absurd (false≢true e)
among-all P x (y ∷ ys) all e = among-one P x y (list_any (λ z. z.0 == x) ys) (eqb y.0 x) refl (All-head P y ys all) (among-all P x ys (All-tail P y ys all)) e

module _ (nodes : List NodeEntry) where
  -- who listens is a station
  listens-station : (x : ℕ) (s : PlanStream) → AreStationsApart nodes s.ends → listens x s ≡ true → IsStationNumber nodes x
  listens-station x s apart e = among-all (λ y. IsStationNumber nodes y.0) x s.ends.listeners apart.listeners e

  listens-other : (x : ℕ) (s : PlanStream) → AreStationsApart nodes s.ends → listens x s ≡ true → s.ends.talker.0 ≢ x
  listens-other x s apart e same = among-all (λ y. y.0 ≢ s.ends.talker.0) x s.ends.listeners apart.others e (sym same)

  needs-one : (x : ℕ) (s : PlanStream) (rest b : Bool) → listens x s ≡ b → (c : Bool) → AreStationsApart nodes s.ends
      → (rest ≡ true → IsStationNumber nodes x) → ((b && c) || rest) ≡ true → IsStationNumber nodes x
  needs-one x s rest true is true apart later e = listens-station x s apart is
  needs-one x s rest true is false apart later e = later e
  needs-one x s rest false is c apart later e = later e

  needs-station : (x vid : ℕ) (ss : List PlanStream) → All (λ s. AreStationsApart nodes s.ends) ss → needs_vid ss x vid ≡ true → IsStationNumber nodes x
  needs-station x vid [] all e = absurd (false≢true e)
  needs-station x vid (s ∷ ss) all e =
      needs-one x s (needs_vid ss x vid) (listens x s) refl (s.values.vid == vid) (All-head (λ s. AreStationsApart nodes s.ends) s ss all)
      (needs-station x vid ss (All-tail (λ s. AreStationsApart nodes s.ends) s ss all)) e

  -- what a station declares is known
  declares-known : (streams : List StreamEntry) (ss : List PlanStream) → All (λ s. AreStationsApart nodes s.ends) ss
      → All (λ e. IsKnownEvent nodes streams e × (tick_of e ≡ 0)) (declares_of nodes ss)
  declares-known streams ss all =
      at-all (λ e. IsKnownEvent nodes streams e × (tick_of e ≡ 0)) (declares_at ss (plan_vids ss)) 1 nodes (λ x low high.
      All-map (λ e. IsKnownEvent nodes streams e × (tick_of e ≡ 0)) (λ vid. Declare (record { 0 = x }) vid) (vids_at ss (plan_vids ss) x) (λ i d lt.
      (let R : ℕ → Type 0 = λ vid. (1 ≤ vid) × (vid < 1 + 4094) in
      let vid = get_or (vids_at ss (plan_vids ss) x) i d in
      let needs = filter-passes (needs_vid ss x) (plan_vids ss) i d lt in
      let range = filter-keeps R (needs_vid ss x) (plan_vids ss) (filter-keeps R (has_vid ss) (numbers_from 1 4094) (numbers-below 1 4094)) i d lt in
      ((needs-station x vid ss all needs, range.0, omega (arith, range.1)), refl))))

  talks-known : (streams : List StreamEntry) (n : ℕ) (ss : List PlanStream) → 1 ≤ n → n + length ss ≤ length streams + 1
      → All (λ e. IsKnownEvent nodes streams e × (tick_of e ≡ 10)) (talks_from n ss)
  talks-known streams n [] low high = All-nil (λ e. IsKnownEvent nodes streams e × (tick_of e ≡ 10))
  talks-known streams n (s ∷ ss) low high =
      All-cons (λ e. IsKnownEvent nodes streams e × (tick_of e ≡ 10)) (Talk n) (talks_from (n + 1) ss) ((low, omega (arith, high)), refl) (talks-known streams (n + 1) ss (omega arith) (omega (arith, high)))

  -- the talkers of streams from one on are those of the scenario's
  abbrev AreTalkers : List StreamEntry → ℕ → List PlanStream → Type 0
  AreTalkers streams n ss = (i : ℕ) (d : StreamEntry) (e : PlanStream) → i < length ss → (get_or streams (n - 1 + i) d).talker.0 ≡ (get_or ss i e).ends.talker.0

  listens-one : (streams : List StreamEntry) (x n : ℕ) (s : PlanStream) (rest : List PlanEvent) (b : Bool) → listens x s ≡ b → (1 ≤ n) × (n ≤ length streams)
      → AreStationsApart nodes s.ends → ((d : StreamEntry) → (get_or streams (n - 1) d).talker.0 ≡ s.ends.talker.0)
      → All (λ e. IsKnownEvent nodes streams e × (tick_of e ≡ 20)) rest
      → All (λ e. IsKnownEvent nodes streams e × (tick_of e ≡ 20)) (if b then Listen (record { 0 = x }) n ∷ rest else rest)
  listens-one streams x n s rest true is number apart talks later =
      All-cons (λ e. IsKnownEvent nodes streams e × (tick_of e ≡ 20)) (Listen (record { 0 = x }) n) rest
      ((listens-station x s apart is, number, (λ d same. listens-other x s apart is (sym (talks d) ∙ same))), refl) later
  listens-one streams x n s rest false is number apart talks later = later

  listens-at-known : (streams : List StreamEntry) (x n : ℕ) (ss : List PlanStream) → 1 ≤ n → n + length ss ≤ length streams + 1
      → All (λ s. AreStationsApart nodes s.ends) ss → AreTalkers streams n ss
      → All (λ e. IsKnownEvent nodes streams e × (tick_of e ≡ 20)) (listens_at x n ss)
  listens-at-known streams x n [] low high all talkers = All-nil (λ e. IsKnownEvent nodes streams e × (tick_of e ≡ 20))
  listens-at-known streams x n (s ∷ ss) low high all talkers =
      let here : n - 1 ≡ n - 1 + 0 = omega arith in
      listens-one streams x n s (listens_at x (n + 1) ss) (listens x s) refl (low, omega (arith, high)) (All-head (λ s. AreStationsApart nodes s.ends) s ss all)
      (λ d. ap (λ k. (get_or streams k d).talker.0) here ∙ talkers 0 d s (omega arith))
      (listens-at-known streams x (n + 1) ss (omega arith) (omega (arith, high)) (All-tail (λ s. AreStationsApart nodes s.ends) s ss all)
      (λ i d e lt.
      (let place : n + 1 - 1 + i ≡ n - 1 + suc i = omega (arith, low) in
      ap (λ k. (get_or streams k d).talker.0) place ∙ talkers (suc i) d e (omega (arith, lt)))))

  -- all that happens in a plan is known, and in order
  pub events-known : (streams : List StreamEntry) (ss : List PlanStream) → length streams ≡ length ss → All (λ s. AreStationsApart nodes s.ends) ss
      → AreTalkers streams 1 ss → All (IsKnownEvent nodes streams) (events_of nodes ss) × Rise 0 (events_of nodes ss)
  events-known streams ss long all talkers =
      let D = declares-known streams ss all in
      let T = talks-known streams 1 ss (omega arith) (omega (arith, long)) in
      let L = at-all (λ e. IsKnownEvent nodes streams e × (tick_of e ≡ 20)) (λ x. listens_at x 1 ss) 1 nodes (λ x low high. listens-at-known streams x 1 ss (omega arith) (omega (arith, long)) all talkers) in
      let K = IsKnownEvent nodes streams in
      let known : (t : ℕ) (es : List PlanEvent) → All (λ e. K e × (tick_of e ≡ t)) es → All K es = λ t es h. All-weaker (λ e. K e × (tick_of e ≡ t)) K (λ e k. k.0) es h in
      let at : (t : ℕ) (es : List PlanEvent) → All (λ e. K e × (tick_of e ≡ t)) es → All (λ e. tick_of e ≡ t) es = λ t es h. All-weaker (λ e. K e × (tick_of e ≡ t)) (λ e. tick_of e ≡ t) (λ e k. k.1) es h in (
        All-append K (declares_of nodes ss) _ (known 0 _ D) (All-append K (talks_from 1 ss) _ (known 10 _ T) (known 20 _ L)),
        rise-block 0 0 (declares_of nodes ss) _ (omega arith) (at 0 _ D) (λ b le.
            rise-block 10 b (talks_from 1 ss) _ (omega (arith, le)) (at 10 _ T) (λ c lt.
            ends-rise c (listens_of nodes ss) (omega (arith, lt)) (at 20 _ L))),
      )

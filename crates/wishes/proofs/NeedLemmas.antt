-- The wishes in a network, what they need of its ports, and whose streams they are.
use Rattle.std.proofs.Common.{◌≡◌, ◌≢◌, ◌⊎◌, ℕ, zero, suc, ◌+◌, ◌-◌, ◌<◌, ◌≤◌, Bool, true, false, not, ◌&&◌, ◌==◌, List, [], ◌∷◌, ◌++◌, length, map, Option, Some, None, if◌then◌else◌, refl, sym, ap, subst, ◌∙◌, inl, inr, arith}
use Rattle.std.specs.Prelude.{AllPairs, filter, find, flat_map, nat_lt, slice_get, option_and_then, option_map, IsSome, is_some}
use Rattle.std.specs.{Option.is_none, Option.option_map_or, List.AllByRecursion, List.range_with_len}
use Rattle.std.proofs.lemmas.{Bool.and_from, Bool.and_parts, Bool.cases_eq, Bool.eqb-true, Bool.lt-ltb, Bool.true≢false, Option.get_or_from_slice_get, Option.same_Some, Option.slice_get_within}
use Rattle.srp_base.proofs.Lists.{at_each, each_append, each_of_map, within}
use Rattle.srp_base.specs.declared.{numbers.EgressPort.EgressPort, numbers.NodeNo.NodeNo, numbers.StreamId.StreamId, streams.Talker.Talker}
use Rattle.stream_importance.specs.declared.entry.{Entry.Entry, Want.Want}
use Rattle.port_ledger.specs.Book.{entry_of, since_of, want_of}
use Rattle.port_ledger.specs.Decision.{is_booked}
use Rattle.tree_topology.specs.{Topology.HasNode, Topology.HasPort, Ports.neighbours, Refusal.is_station}
use Rattle.topology_file.specs.declared.entries.StreamEntry.{StreamEntry}
use Rattle.topology_file.specs.{Plan.Plan, Scenario.KeepsRules}
use Rattle.attribute_propagation.specs.Ports.{place_of}
use Rattle.msrp.specs.{PortState.PortState, Side.has_talk, Stream.talk_of, Stream.want_of_talker}
use Rattle.node_core.specs.State.{NodeState, booked_at, if_booked}
use Rattle.world_core.specs.{Kept.IsKeptWorld, Talks.AreTalksOfPlan, Talks.IsTalkOfPlan, Ticks.talker_of_entry, World.WorldState, World.node_at}
use Rattle.network_laws.specs.Streams.{has_booked, is_listened_at, is_talked_at, node_of, talking_node, want_at, IsTalkedOnce}
use Rattle.port_needs.specs.declared.demand.Wish.{Wish as Need}
use Rattle.wishes.specs.declared.wish.Wish.{Wish}
use Rattle.wishes.specs.{Needs.need_of, Needs.needs_of, Wishes.is_talked, Wishes.listeners, Wishes.numbered, Wishes.stream_wishes, Wishes.wish_of, Wishes.wishes_from, Wishes.wishes_in}

-- ---- lists

-- an element stands somewhere in a list
abbrev pub IsIn : {X : Type 0} → List X → X → Type 0
IsIn xs x = (i : ℕ) × (slice_get xs i ≡ Some x)

in_left : {X : Type 0} (xs ys : List X) (i : ℕ) (x : X) → slice_get xs i ≡ Some x → IsIn (xs ++ ys) x
in_left [] ys i x at = cc
in_left (z ∷ xs) ys zero x at = (0, at)
in_left (z ∷ xs) ys (suc i) x at = let r = in_left xs ys i x at in (suc r.0, r.1)

in_right : {X : Type 0} (xs ys : List X) (i : ℕ) (x : X) → slice_get ys i ≡ Some x → IsIn (xs ++ ys) x
in_right [] ys i x at = (i, at)
in_right (z ∷ xs) ys i x at = let r = in_right xs ys i x at in (suc r.0, r.1)

pub in_map : {X Y : Type 0} (f : X → Y) (xs : List X) (i : ℕ) (x : X) → slice_get xs i ≡ Some x → IsIn (map f xs) (f x)
in_map f [] i x at = cc
in_map f (z ∷ xs) zero x at = (0, ap (λ y. Some (f y)) (same_Some z x at))
in_map f (z ∷ xs) (suc i) x at = let r = in_map f xs i x at in (suc r.0, r.1)

pub in_flat : {X Y : Type 0} (f : X → List Y) (xs : List X) (i : ℕ) (x : X) (y : Y) → slice_get xs i ≡ Some x → IsIn (f x) y → IsIn (flat_map f xs) y
in_flat f [] i x y at h = cc
in_flat f (z ∷ xs) zero x y at h =
    let here = subst (λ v. IsIn (f v) y) (sym (same_Some z x at)) h in
    in_left (f z) (flat_map f xs) here.0 y here.1
in_flat f (z ∷ xs) (suc i) x y at h = let r = in_flat f xs i x y at h in in_right (f z) (flat_map f xs) r.0 y r.1

-- what is found passes, and what holds of all holds of it
found_of : {X : Type 0} (P : X → Type 0) (test : X → Bool) (xs : List X) (x : X) → AllByRecursion P xs → find test xs ≡ Some x → P x × (test x ≡ true)
found_of P test [] x h at = cc
found_of {X} P test (y ∷ xs) x h at = by (test y) refl at (found_of P test xs x h.1)
  where
    by : (t : Bool) → test y ≡ t → (if t then Some y else find test xs) ≡ Some x → (find test xs ≡ Some x → P x × (test x ≡ true)) → P x × (test x ≡ true)
    by true is at later = let same = same_Some y x at in (subst P same h.0, ap test (sym same) ∙ is)
    by false is at later = later at

-- ---- who listens

-- numbers that pass a test, with the test
numbers_pass : (test : ℕ → Bool) (count a n : ℕ) → 1 ≤ a → a + n ≤ count + 1
    → AllByRecursion (λ (l : NodeNo). ((1 ≤ l.0) × (l.0 ≤ count)) × (test l.0 ≡ true)) (map numbered (filter test (range_with_len a n)))
numbers_pass test count a zero one few = tt
numbers_pass test count a (suc n) one few = by (test a) refl (numbers_pass test count (a + 1) n (omega (arith, one)) (omega (arith, few)))
  where
    rest : List ℕ
    rest = filter test (range_with_len (a + 1) n)

    by : (b : Bool) → test a ≡ b → AllByRecursion (λ (l : NodeNo). ((1 ≤ l.0) × (l.0 ≤ count)) × (test l.0 ≡ true)) (map numbered rest)
        → AllByRecursion (λ (l : NodeNo). ((1 ≤ l.0) × (l.0 ≤ count)) × (test l.0 ≡ true)) (map numbered (if b then a ∷ rest else rest))
    by true is later = (((one, omega (arith, few)), is), later)
    by false is later = later

number_in : (test : ℕ → Bool) (a n l : ℕ) → a ≤ l → l < a + n → test l ≡ true → IsIn (map numbered (filter test (range_with_len a n))) (numbered l)
number_in test a zero l low high is = absurd (omega arith)
number_in test a (suc n) l low high is = by (test a) refl (cases_eq a l) (λ up. number_in test (a + 1) n l up (omega (arith, high)) is)
  where
    by : (b : Bool) → test a ≡ b → (a ≡ l) ⊎ (a ≢ l) → (a + 1 ≤ l → IsIn (map numbered (filter test (range_with_len (a + 1) n))) (numbered l))
        → IsIn (map numbered (if b then a ∷ filter test (range_with_len (a + 1) n) else filter test (range_with_len (a + 1) n))) (numbered l)
    by true e (inl same) later = (0, ap (λ (k : ℕ). Some (numbered k)) same)
    by true e (inr other) later = let r = later (omega (arith, low, other)) in (suc r.0, r.1)
    by false e (inl same) later = absurd (true≢false (sym is ∙ (ap test (sym same) ∙ e)))
    by false e (inr other) later = later (omega (arith, low, other))

-- ---- the wishes in a network

-- a wish in a network is of a station that listens to the stream of an entry
pub record IsWishIn (plan : Plan) (w : WorldState) (wish : Wish) : Type 0 where
  pub entry : StreamEntry
  pub entry_is : slice_get plan.streams wish.stream ≡ Some entry
  pub node : HasNode w.tree wish.station.0
  pub listens : is_listened_at w entry.id wish.station.0 ≡ true
  pub wish_is : wish ≡ wish_of w wish.stream entry wish.station

module _ (plan : Plan) (w : WorldState) where
  each_from : (n : ℕ) (es : List StreamEntry) → ((i : ℕ) (e : StreamEntry) → slice_get es i ≡ Some e → slice_get plan.streams (i + n) ≡ Some e)
      → AllByRecursion (IsWishIn plan w) (wishes_from w n es)
  each_from n [] h = tt
  each_from n (e ∷ es) h =
      each_append (IsWishIn plan w) (stream_wishes w n e) (wishes_from w (n + 1) es)
      (each_of_map (IsWishIn plan w) (wish_of w n e) (listeners w e.id)
      (of_listeners (listeners w e.id) (numbers_pass (is_listened_at w e.id) (length w.tree.kinds) 1 (length w.tree.kinds) (omega arith) (omega arith))))
      (each_from (n + 1) es (λ i f at. ap (slice_get plan.streams) (let z : suc i + n ≡ i + (n + 1) = omega arith in sym z) ∙ h (suc i) f at))
    where
      here : slice_get plan.streams n ≡ Some e
      here = ap (slice_get plan.streams) (let z : n ≡ 0 + n = omega arith in z) ∙ h 0 e refl

      of_listeners : (ls : List NodeNo) → AllByRecursion (λ (l : NodeNo). HasNode w.tree l.0 × (is_listened_at w e.id l.0 ≡ true)) ls
          → AllByRecursion (λ l. IsWishIn plan w (wish_of w n e l)) ls
      of_listeners [] h = tt
      of_listeners (l ∷ ls) h = (
        record { entry = e; entry_is = here; node = h.0.0; listens = h.0.1; wish_is = refl },
        of_listeners ls h.1,
      )

  pub wish_in : (place : ℕ) (wish : Wish) → slice_get (wishes_in plan w) place ≡ Some wish → IsWishIn plan w wish
  wish_in place wish at =
      at_each (IsWishIn plan w) (wishes_in plan w)
      (each_from 0 plan.streams (λ i e at. ap (slice_get plan.streams) (let z : i + 0 ≡ i = omega arith in z) ∙ at)) place wish at

  in_from : (n : ℕ) (es : List StreamEntry) (i : ℕ) (e : StreamEntry) (l : ℕ) → slice_get es i ≡ Some e → IsIn (listeners w e.id) (numbered l)
      → IsIn (wishes_from w n es) (wish_of w (i + n) e (numbered l))
  in_from n [] i e l at h = cc
  in_from n (f ∷ es) zero e l at h =
      let same = same_Some f e at in
      let there = in_map (wish_of w n e) (listeners w e.id) h.0 (numbered l) h.1 in
      let there_f = subst (λ (x : StreamEntry). IsIn (stream_wishes w n x) (wish_of w n e (numbered l))) (sym same) there in
      subst (λ (k : ℕ). IsIn (wishes_from w n (f ∷ es)) (wish_of w k e (numbered l))) (let z : n ≡ 0 + n = omega arith in z)
      (in_left (stream_wishes w n f) (wishes_from w (n + 1) es) there_f.0 (wish_of w n e (numbered l)) there_f.1)
  in_from n (f ∷ es) (suc i) e l at h =
      let r = in_from (n + 1) es i e l at h in
      subst (λ (k : ℕ). IsIn (wishes_from w n (f ∷ es)) (wish_of w k e (numbered l))) (let z : i + (n + 1) ≡ suc i + n = omega arith in z)
      (in_right (stream_wishes w n f) (wishes_from w (n + 1) es) r.0 (wish_of w (i + (n + 1)) e (numbered l)) r.1)

  pub listener_wishes : (i : ℕ) (e : StreamEntry) (l : ℕ) → slice_get plan.streams i ≡ Some e → HasNode w.tree l → is_listened_at w e.id l ≡ true
      → IsIn (wishes_in plan w) (wish_of w i e (numbered l))
  listener_wishes i e l at node listens =
      subst (λ (k : ℕ). IsIn (wishes_in plan w) (wish_of w k e (numbered l))) (let z : i + 0 ≡ i = omega arith in z)
      (in_from 0 plan.streams i e l at (number_in (is_listened_at w e.id) 1 (length w.tree.kinds) l node.0 (omega (arith, node.1)) listens))

-- ---- what they need

-- a need is that of a talked wish
pub record IsNeedOf (wishes : List Wish) (need : Need) : Type 0 where
  pub place : ℕ
  pub wish : Wish
  pub wish_is : slice_get wishes place ≡ Some wish
  pub talked : wish.talked ≡ true
  pub stream_is : need.stream ≡ wish.stream + 1
  pub station_is : need.station ≡ wish.station

pub need_is : (wishes : List Wish) (k : ℕ) (need : Need) → slice_get (needs_of wishes) k ≡ Some need → IsNeedOf wishes need
need_is [] k need at = cc
need_is (v ∷ vs) k need at = by (v.talked && nat_lt v.stream 65535) refl k at (need_is vs)
  where
    shifted : IsNeedOf vs need → IsNeedOf (v ∷ vs) need
    shifted r = record { place = suc r.place; wish = r.wish; wish_is = r.wish_is; talked = r.talked; stream_is = r.stream_is; station_is = r.station_is }

    by : (t : Bool) → (v.talked && nat_lt v.stream 65535) ≡ t → (k : ℕ)
        → slice_get ((if t then record { stream = v.stream + 1; station = v.station } ∷ [] else []) ++ needs_of vs) k ≡ Some need
        → ((k : ℕ) (need : Need) → slice_get (needs_of vs) k ≡ Some need → IsNeedOf vs need) → IsNeedOf (v ∷ vs) need
    by true is zero at later =
        let same = same_Some (record { stream = v.stream + 1; station = v.station }) need at in
        record {
          place = 0;
          wish = v;
          wish_is = refl;
          talked = (and_parts v.talked (nat_lt v.stream 65535) is).0;
          stream_is = ap (λ (n : Need). n.stream) (sym same);
          station_is = ap (λ (n : Need). n.station) (sym same);
        }
    by true is (suc k) at later = shifted (later k need at)
    by false is k at later = shifted (later k need at)

pub talked_needs : (wishes : List Wish) (k : ℕ) (wish : Wish) → slice_get wishes k ≡ Some wish → wish.talked ≡ true → wish.stream < 65535
    → IsIn (needs_of wishes) (record { stream = wish.stream + 1; station = wish.station })
talked_needs wishes k wish at talked small =
    in_flat need_of wishes k wish (record { stream = wish.stream + 1; station = wish.station }) at
    (subst
    (λ (t : Bool). IsIn {X = Need} (if t then record { stream = wish.stream + 1; station = wish.station } ∷ [] else []) (record { stream = wish.stream + 1; station = wish.station }))
    (sym (and_from wish.talked (nat_lt wish.stream 65535) talked (lt-ltb wish.stream 65535 small))) (0, refl))

-- ---- who talks

-- two entries of one stream are one
same_entry : (es : List StreamEntry) → AllPairs (λ (x : StreamEntry) (y : StreamEntry). x.id.0 ≢ y.id.0) es → (i j : ℕ) (a b : StreamEntry)
    → slice_get es i ≡ Some a → slice_get es j ≡ Some b → a.id.0 ≡ b.id.0 → a ≡ b
same_entry [] ids i j a b ai bj same = cc
same_entry (e ∷ es) ids zero zero a b ai bj same = sym (same_Some e a ai) ∙ same_Some e b bj
same_entry (e ∷ es) ids zero (suc j) a b ai bj same =
    absurd (ids 0 (suc j) b (omega arith) (omega (arith, slice_get_within es j b bj))
    (ap (λ (x : StreamEntry). x.id.0) (same_Some e a ai) ∙ same ∙ ap (λ (x : StreamEntry). x.id.0) (sym (get_or_from_slice_get es j b b bj))))
same_entry (e ∷ es) ids (suc i) zero a b ai bj same =
    absurd (ids 0 (suc i) a (omega arith) (omega (arith, slice_get_within es i a ai))
    (ap (λ (x : StreamEntry). x.id.0) (same_Some e b bj) ∙ sym same ∙ ap (λ (x : StreamEntry). x.id.0) (sym (get_or_from_slice_get es i a a ai))))
same_entry (e ∷ es) ids (suc i) (suc j) a b ai bj same =
    same_entry es (λ m n d lt below. ids (suc m) (suc n) d (omega (arith, lt)) (omega (arith, below))) i j a b ai bj same

-- the station that talks a stream of the plan is that of its entry, and talks what the entry says
pub record IsTalkedAsPlanned (plan : Plan) (w : WorldState) (stream : StreamId) (t : ℕ) : Type 0 where
  pub place : ℕ
  pub entry : StreamEntry
  pub entry_is : slice_get plan.streams place ≡ Some entry
  pub id_is : entry.id ≡ stream
  pub talker_is : entry.talker.0 ≡ t
  pub talk_is : option_and_then (λ (s : NodeState). talk_of stream s.streams.talks) (node_of t w) ≡ Some (talker_of_entry entry)

module _ (plan : Plan) (w : WorldState) (talks : AreTalksOfPlan plan w) where
  pub as_planned : (stream : StreamId) (t : ℕ) → 1 ≤ t → is_talked_at w stream t ≡ true → IsTalkedAsPlanned plan w stream t
  as_planned stream t one talked = by (node_of t w) refl talked
    where
      of_talk : (s : NodeState) → node_of t w ≡ Some s → (o : Option Talker) → talk_of stream s.streams.talks ≡ o → is_some o ≡ true → IsTalkedAsPlanned plan w stream t
      of_talk s at None is some = cc
      of_talk s at (Some talker) is some =
          let both = found_of (IsTalkOfPlan plan (t - 1 + 1)) (λ (x : Talker). x.stream.0 == stream.0) s.streams.talks talker (talks (t - 1) s at) is in
          let of = both.0 in
          let number : of.entry.id.0 ≡ stream.0 =
          ap (λ (x : Talker). x.stream.0) (sym of.states) ∙ eqb-true talker.stream.0 stream.0 both.1 in
          record {
            place = of.place;
            entry = of.entry;
            entry_is = of.at;
            id_is = ap (λ (n : ℕ). record { 0 = n }) number;
            talker_is = of.station ∙ (let z : t - 1 + 1 ≡ t = omega (arith, one) in z);
            talk_is = ap (option_and_then (λ (x : NodeState). talk_of stream x.streams.talks)) at ∙ is ∙ ap (λ (x : Talker). Some x) of.states;
          }

      by : (o : Option NodeState) → node_of t w ≡ o → option_map_or (λ (s : NodeState). is_station s.kind && has_talk stream s.streams) o false ≡ true
          → IsTalkedAsPlanned plan w stream t
      by None at h = cc
      by (Some s) at h =
          of_talk s at (talk_of stream s.streams.talks) refl (and_parts (is_station s.kind) (has_talk stream s.streams) h).1

-- a stream has one entry, and so one station that talks it
pub one_entry : (plan : Plan) → KeepsRules plan → (i j : ℕ) (a b : StreamEntry) → slice_get plan.streams i ≡ Some a → slice_get plan.streams j ≡ Some b
    → a.id.0 ≡ b.id.0 → a ≡ b
one_entry plan rules i j a b ai bj same = same_entry plan.streams rules.stream_ids i j a b ai bj same

pub one_talker : (plan : Plan) (w : WorldState) → KeepsRules plan → AreTalksOfPlan plan w → (stream : StreamId) → IsTalkedOnce w stream
one_talker plan w rules talks stream x y hx hy tx ty =
    let a = as_planned plan w talks stream x hx.0 tx in
    let b = as_planned plan w talks stream y hy.0 ty in
    let same = one_entry plan rules a.place b.place a.entry b.entry a.entry_is b.entry_is (ap (λ (s : StreamId). s.0) (a.id_is ∙ sym b.id_is)) in
    sym a.talker_is ∙ (ap (λ (e : StreamEntry). e.talker.0) same ∙ b.talker_is)

-- what a station asks of a port is what it talks
pub asked_by_talk : (w : WorldState) (stream : StreamId) (t : ℕ)
    → option_and_then want_of_talker (option_and_then (λ (s : NodeState). talk_of stream s.streams.talks) (node_of t w)) ≡ want_at w stream t
asked_by_talk w stream t = by (node_of t w)
  where
    by : (o : Option NodeState) → option_and_then want_of_talker (option_and_then (λ (s : NodeState). talk_of stream s.streams.talks) o)
        ≡ option_and_then (λ (s : NodeState). option_and_then want_of_talker (talk_of stream s.streams.talks)) o
    by None = refl
    by (Some s) = refl

-- the lowest-numbered station that talks a stream is a node, and talks it
find_range : (p : ℕ → Bool) (n a t : ℕ) → find p (range_with_len a n) ≡ Some t → (a ≤ t) × (t < a + n) × (p t ≡ true)
find_range p zero a t h = cc
find_range p (suc n) a t h = by (p a) refl h (find_range p n (a + 1) t)
  where
    by : (b : Bool) → p a ≡ b → (if b then Some a else find p (range_with_len (a + 1) n)) ≡ Some t
        → (find p (range_with_len (a + 1) n) ≡ Some t → (a + 1 ≤ t) × (t < a + 1 + n) × (p t ≡ true)) → (a ≤ t) × (t < a + suc n) × (p t ≡ true)
    by true is h later = let same = same_Some a t h in (omega (arith, same), omega (arith, same), ap p (sym same) ∙ is)
    by false is h later = let r = later h in (omega (arith, r.0), omega (arith, r.1), r.2)

pub lowest_talks : (w : WorldState) (stream : StreamId) (t : ℕ) → talking_node w stream ≡ Some t → HasNode w.tree t × (is_talked_at w stream t ≡ true)
lowest_talks w stream t h =
    let r = find_range (is_talked_at w stream) (length w.tree.kinds) 1 t h in
    ((r.0, omega (arith, r.1)), r.2)

pub some_talks : (w : WorldState) (stream : StreamId) → is_talked w stream ≡ true → (t : ℕ) × (talking_node w stream ≡ Some t)
some_talks w stream h = by (talking_node w stream) refl h
  where
    by : (o : Option ℕ) → talking_node w stream ≡ o → not (is_none o) ≡ true → (t : ℕ) × (talking_node w stream ≡ Some t)
    by None is h = cc
    by (Some t) is h = (t, is)

-- ---- a port in a network

-- the state of a port
pub record IsPortAt (w : WorldState) (p : EgressPort) : Type 0 where
  pub s : NodeState
  pub node : node_at p.node w ≡ Some s
  pub port : PortState
  pub has : slice_get s.streams.ports (place_of p.port) ≡ Some port

pub port_at : (w : WorldState) → IsKeptWorld w → (p : EgressPort) → HasPort w.tree p → IsPortAt w p
port_at w kept p h =
    let n = within w.nodes (p.node.0 - 1) (omega (arith, h.0.0, h.0.1, kept.many)) in
    let fits = kept.nodes (p.node.0 - 1) n.0 n.1 in
    let up : p.node.0 - 1 + 1 ≡ p.node.0 = omega (arith, h.0.0) in
    let few : place_of p.port < length n.0.streams.ports =
    omega (arith, h.1, h.2, fits.ports ∙ ap (λ (x : ℕ). length (neighbours w.tree.links x)) up, fits.kept.kept.same_ports) in
    let port = within n.0.streams.ports (place_of p.port) few in
    record { s = n.0; node = n.1; port = port.0; has = port.1 }

-- what a port has booked its ledger keeps, and has booked
pub record IsBookedOf (port : PortState) (stream : StreamId) : Type 0 where
  pub want : Want
  pub want_is : want_of port.ledger.entries stream ≡ Some want
  pub since : IsSome (since_of port.ledger.entries stream)

pub booked_of : (w : WorldState) (stream : StreamId) (p : EgressPort) (a : IsPortAt w p) → has_booked w stream p ≡ true → IsBookedOf a.port stream
booked_of w stream p a h =
    by (entry_of a.port.ledger.entries stream) refl
    (sym (ap (λ (o : Option NodeState). option_map_or (λ (s : NodeState). is_some (booked_at stream (place_of p.port) s)) o false) a.node
    ∙ ap (λ (o : Option PortState). is_some (option_map_or (λ (port : PortState). option_and_then if_booked (entry_of port.ledger.entries stream)) o None)) a.has) ∙ h)
  where
    of_entry : (x : Entry) (t : Bool) → is_booked x ≡ t → entry_of a.port.ledger.entries stream ≡ Some x → is_some (if t then Some x else None) ≡ true → IsBookedOf a.port stream
    of_entry x true is at some = record {
      want = x.want;
      want_is = ap (option_map (λ (y : Entry). y.want)) at;
      since = ap (λ (o : Option Entry). is_some (option_and_then (λ (y : Entry). y.since) o)) at ∙ is;
    }
    of_entry x false is at some = cc

    by : (o : Option Entry) → entry_of a.port.ledger.entries stream ≡ o → is_some (option_and_then if_booked o) ≡ true → IsBookedOf a.port stream
    by None at some = cc
    by (Some x) at some = of_entry x (is_booked x) refl at some

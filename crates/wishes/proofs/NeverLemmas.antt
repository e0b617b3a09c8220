-- Behind a port that is too small a wish isn't granted, nor is one that stands under `never`.
use Rattle.std.proofs.Common.{◌≡◌, ◌⊎◌, ℕ, suc, ◌+◌, ◌-◌, ◌<◌, Bool, true, false, not, ◌&&◌, ◌||◌, ◌==◌, List, [], ◌∷◌, length, map, Option, Some, None, if◌then◌else◌, refl, sym, ap, subst, ◌∙◌, inl, inr, arith}
use Rattle.std.specs.Prelude.{◌↔◌, nat_lt, slice_get, option_and_then, option_map, is_some, Contains, IfSome, flat_map}
use Rattle.std.specs.{Option.is_none, Option.option_map_or, List.AllByRecursion, List.list_all, List.list_any}
use Rattle.std.proofs.lemmas.{Bool.and_parts, Bool.eqb-true, Bool.true≢false, Option.get_or_from_slice_get, Option.none-some, Option.same_Some, Option.slice_get_within}
use Rattle.srp_base.proofs.Lists.{at_each, each_append, get-all, within}
use Rattle.srp_base.specs.declared.{bandwidth.Class.Class, numbers.EgressPort.EgressPort, numbers.StreamId.StreamId, streams.Talker.Talker, streams.TalkerReg.TalkerReg}
use Rattle.srp_base.specs.declared.streams.TalkerReg.TheVariants.{Advertise}
use Rattle.stream_importance.specs.declared.entry.Want.{Want}
use Rattle.port_ledger.specs.Book.{want_of}
use Rattle.msrp_talker.specs.TalkerOut.{check_of, class_of_priority}
use Rattle.tree_topology.specs.{Topology.HasNode, Topology.HasPort, Topology.Topology, Topology.link_ports, PortLaws.HasPortLaws, Refusal.is_station, Topology.HasLink, Walk.is_behind, Walk.path_between, Ports.far_node, Ports.link_at as link_numbered, Ports.port_to}
use Rattle.tree_topology.specs.declared.graph.Link.{Link}
use Rattle.topology_file.specs.declared.{entries.LinkEntry.LinkEntry, entries.StreamEntry.StreamEntry}
use Rattle.topology_file.specs.Plan.{Plan}
use Rattle.scenario_bounds.specs.Caps.{caps_of_link, link_at}
use Rattle.attribute_propagation.specs.Ports.{place_of}
use Rattle.attribute_propagation.proofs.Lists.{get-empty}
use Rattle.msrp_codec.specs.declared.pdu.MsrpKey.{MsrpKey}
use Rattle.mrp_participant.specs.State.{is_still}
use Rattle.flat_side.specs.Side.{are_still}
use Rattle.msrp.specs.{PortState.PortState, Part.registered_talker, Domain.class_in, Domain.is_edge as is_edge_for, Side.are_still as streams_are_still, Side.has_talk, Side.heard_of, Side.seen_by, Side.IsKept, Stream.advertise_of, Stream.edge_at, Stream.first_talker, Stream.heard_from, Stream.is_listened, Stream.is_talker_port, Stream.talk_of, Stream.want_in_class, Stream.want_of_talker, Stream.wanted_at}
use Rattle.node_core.specs.State.{NodeState, are_empty, is_still_node}
use Rattle.world_core.specs.{Ticks.talker_of_entry, World.WorldState, World.node_at}
use Rattle.network_laws.specs.Streams.{has_booked, hears_ready, is_ready_heard, is_talked_at, node_of, talking_node, want_at}
use Rattle.network_laws.specs.Causes.{is_boundary_in}
use Rattle.network_laws.specs.Vlans.{IsAtRest}
use Rattle.network_laws.proofs.StreamNode.{first-is, is-port, same-port, wants}
use Rattle.report_words.specs.Names.{port_name}
use Rattle.port_needs.specs.declared.demand.Wish.{Wish as Need}
use Rattle.port_needs.specs.{Demands.class_of_entry, Demands.code_of_entry, Demands.is_barred, Demands.is_node, Domains.is_edge, Demands.is_wish_of, Demands.leads_to, Needs.never_lines, Needs.port_needs, Demands.demands, Demands.stations_of, Demands.wants_at, Laws.AreServed, Laws.IsLargeEnough, Laws.IsServed, Needs.needs_on_link, Needs.short_line, Shares.is_enough, Shares.slope_of_a, Shares.slope_of_all}
use Rattle.wishes.specs.declared.wish.Wish.{Wish}
use Rattle.wishes.specs.{Needs.need_of, Needs.needs_in, Needs.AreGrantedBehind, Needs.HasMissedBehind, Needs.HasNeed, Needs.IsUnderNever, Needs.IsWishBehind, Wishes.answer_to, Wishes.grants, Wishes.is_talked, Wishes.way_to, Wishes.wishes_in}
use Rattle.wishes.proofs.GrantLemmas.{granted_booked, granted_hears}
use Rattle.wishes.proofs.NeedLemmas.{as_planned, asked_by_talk, booked_of, lowest_talks, one_entry, one_talker, port_at, some_talks, wish_in, IsIn, IsPortAt, IsTalkedAsPlanned, IsWishIn}
use Rattle.wishes.proofs.GrantedNeeds.{IsKnown}
use Rattle.wishes.proofs.GrantedAll.{asked_class, boundary_is_edge}

-- ---- lists

pub contains : {X : Type 0} (xs : List X) (x : X) → IsIn xs x → Contains xs x
contains xs x (i, at) = (i, slice_get_within xs i x at, get_or_from_slice_get xs i x x at)

pub got : {X : Type 0} (xs : List X) (x : X) → Contains xs x → IsIn xs x
got xs x (i, below, is) = let y = within xs i below in (i, y.1 ∙ ap Some (sym (get_or_from_slice_get xs i y.0 x y.1) ∙ is))

none_of : {X : Type 0} (test : X → Bool) (xs : List X) → ((i : ℕ) (x : X) → slice_get xs i ≡ Some x → test x ≡ false) → list_any test xs ≡ false
none_of test [] h = refl
none_of test (x ∷ xs) h = by (test x) (h 0 x refl) (none_of test xs (λ i y at. h (suc i) y at))
  where
    by : (b : Bool) → b ≡ false → list_any test xs ≡ false → (b || list_any test xs) ≡ false
    by true is later = cc
    by false is later = later

each_flat : {X Y : Type 0} (Q : Y → Type 0) (f : X → List Y) (xs : List X) → ((i : ℕ) (x : X) → slice_get xs i ≡ Some x → AllByRecursion Q (f x))
    → AllByRecursion Q (flat_map f xs)
each_flat Q f [] h = tt
each_flat Q f (x ∷ xs) h = each_append Q (f x) (flat_map f xs) (h 0 x refl) (each_flat Q f xs (λ i y at. h (suc i) y at))

-- ---- a port that is too small

-- a port that is large enough has no line
large_lineless : (port : List ℕ) (link : LinkEntry) (a b : ℕ) (t : Bool) → t ≡ true → (if t then [] else short_line port link a b) ≡ []
large_lineless port link a b true h = refl
large_lineless port link a b false h = cc

lineless : (plan : Plan) (wishes : List Need) (p : EgressPort) → IsLargeEnough plan wishes p → port_needs plan (demands plan wishes) p ≡ []
lineless plan wishes p large = by (link_at plan p) large
  where
    name : List ℕ
    name = port_name plan.nodes plan.tree.links p

    by : (o : Option LinkEntry)
        → IfSome o (λ l. is_enough (caps_of_link l) (slope_of_a (wants_at plan wishes p)) (slope_of_all (wants_at plan wishes p)) ≡ true)
        → option_map_or (needs_on_link name (wants_at plan wishes p)) o [] ≡ []
    by None h = refl
    by (Some link) h = large_lineless name link (slope_of_a (wants_at plan wishes p)) (slope_of_all (wants_at plan wishes p)) (is_enough (caps_of_link link) (slope_of_a (wants_at plan wishes p)) (slope_of_all (wants_at plan wishes p))) h

module _ (plan : Plan) (p : EgressPort) where
  abbrev Missed : Wish → Type 0
  Missed wish = IsWishBehind plan p wish × (grants wish.answer ≡ false)

  abbrev Granted : Wish → Type 0
  Granted wish = IsWishBehind plan p wish → grants wish.answer ≡ true

  one_wish : (wish : Wish) → Missed wish ⊎ Granted wish
  one_wish wish = by (grants wish.answer) refl
    where
      leads : (e : StreamEntry) (b t : Bool) → leads_to plan.tree p e.talker.0 wish.station.0 ≡ b → wish.talked ≡ t
          → slice_get plan.streams wish.stream ≡ Some e → grants wish.answer ≡ false → Missed wish ⊎ Granted wish
      leads e true true lead talked is off = inl (record { entry = e; entry_is = is; talked = talked; leads = lead }, off)
      leads e true false lead talked is off = inr (λ h. absurd (true≢false (sym h.talked ∙ talked)))
      leads e false t lead talked is off =
          inr (λ h. let same = same_Some h.entry e (sym h.entry_is ∙ is) in
          absurd (true≢false (sym h.leads ∙ (ap (λ (x : StreamEntry). leads_to plan.tree p x.talker.0 wish.station.0) same ∙ lead))))

      of : (o : Option StreamEntry) → slice_get plan.streams wish.stream ≡ o → grants wish.answer ≡ false → Missed wish ⊎ Granted wish
      of None is off = inr (λ h. absurd (none-some h.entry (sym is ∙ h.entry_is)))
      of (Some e) is off = leads e (leads_to plan.tree p e.talker.0 wish.station.0) wish.talked refl refl is off

      by : (b : Bool) → grants wish.answer ≡ b → Missed wish ⊎ Granted wish
      by true is = inr (λ h. is)
      by false is = of (slice_get plan.streams wish.stream) refl is

  -- one of some wishes is missed, or each is granted
  missed_or_granted : (wishes : List Wish) → ((wish : Wish) × IsIn wishes wish × Missed wish) ⊎ AllByRecursion Granted wishes
  missed_or_granted [] = inr tt
  missed_or_granted (wish ∷ wishes) = by (one_wish wish) (missed_or_granted wishes)
    where
      by : Missed wish ⊎ Granted wish → ((v : Wish) × IsIn wishes v × Missed v) ⊎ AllByRecursion Granted wishes
          → ((v : Wish) × IsIn (wish ∷ wishes) v × Missed v) ⊎ AllByRecursion Granted (wish ∷ wishes)
      by (inl here) later = inl (wish, (0, refl), here)
      by (inr here) (inl later) = inl (later.0, (suc later.1.0, later.1.1), later.2)
      by (inr here) (inr later) = inr (here, later)

module _ (plan : Plan) (w : WorldState) (known : IsKnown plan w) where
  -- a port that leads to a wish stands on the way to it
  on_way : (p : EgressPort) → HasPort w.tree p → (place : ℕ) (wish : Wish) → slice_get (wishes_in plan w) place ≡ Some wish → (h : IsWishBehind plan p wish)
      → IsIn (way_to w h.entry.id wish.station.0) p
  on_way p has place wish at h =
      let u = wish_in plan w place wish at in
      let same : u.entry ≡ h.entry = same_Some u.entry h.entry (sym u.entry_is ∙ h.entry_is) in
      let talked : is_talked w h.entry.id ≡ true =
      ap (λ (x : StreamEntry). is_talked w x.id) (sym same) ∙ (ap (λ (v : Wish). v.talked) (sym u.wish_is) ∙ h.talked) in
      let t = some_talks w h.entry.id talked in
      let node = lowest_talks w h.entry.id t.0 t.1 in
      let k = as_planned plan w known.talks h.entry.id t.0 node.0.0 node.1 in
      let e_k : k.entry ≡ h.entry = one_entry plan known.rules k.place wish.stream k.entry h.entry k.entry_is h.entry_is (ap (λ (x : StreamId). x.0) k.id_is) in
      let from : h.entry.talker.0 ≡ t.0 = ap (λ (x : StreamEntry). x.talker.0) (sym e_k) ∙ k.talker_is in
      let leads : leads_to w.tree p t.0 wish.station.0 ≡ true =
      ap (λ (tree : Topology). leads_to tree p t.0 wish.station.0) known.tree ∙ (ap (λ (y : ℕ). leads_to plan.tree p y wish.station.0) (sym from) ∙ h.leads) in
      let on = (known.ways p t.0 wish.station.0 has node.0 u.node).0 leads in
      (on.0, ap (λ (o : Option ℕ). slice_get (option_map_or (λ y. path_between w.tree.links y wish.station.0) o []) on.0) t.1 ∙ on.1)

  pub missed_behind : (p : EgressPort) → HasPort w.tree p → HasNeed plan w p → (AreGrantedBehind plan w p → IsLargeEnough plan (needs_in plan w) p)
      → HasMissedBehind plan w p
  missed_behind p has need large = by (missed_or_granted plan p (wishes_in plan w))
    where
      by : ((wish : Wish) × IsIn (wishes_in plan w) wish × Missed plan p wish) ⊎ AllByRecursion (Granted plan p) (wishes_in plan w) → HasMissedBehind plan w p
      by (inl m) = record {
        wish = m.0;
        listed = contains (wishes_in plan w) m.0 m.1;
        behind = m.2.0;
        on_way = contains (way_to w m.2.0.entry.id m.0.station.0) p (on_way p has m.1.0 m.0 m.1.1 m.2.0);
        missed = m.2.1;
      }
      by (inr all) = absurd (need (lineless plan (needs_in plan w) p (large all)))

-- ---- a wish under `never`

-- an application that talks a stream hears nothing of it
own_unheard : (w : WorldState) (stream : StreamId) (l : ℕ) → is_talked_at w stream l ≡ true → hears_ready w stream l ≡ false
own_unheard w stream l talked = by (node_of l w) talked
  where
    of_listens : (b : Bool) (t : Talker) (others : List TalkerReg)
        → is_ready_heard (if b && not (is_talker_port 0 (Advertise t ∷ others)) then heard_from (first_talker (Advertise t ∷ others)) else None) ≡ false
    of_listens true t others =
        let own : is_talker_port 0 (Advertise t ∷ others) ≡ true =
        is-port (Advertise t ∷ others) 0 (Advertise t) 0 (first-is (Advertise t) others refl) ∙ same-port 0 in
        ap (λ (b : Bool). is_ready_heard (if true && not b then heard_from (first_talker (Advertise t ∷ others)) else None)) own
    of_listens false t others = refl

    of_talk : (s : NodeState) (o : Option Talker) → is_some o ≡ true
        → is_ready_heard (if is_listened stream s.streams.listens && not (is_talker_port 0 (advertise_of o ∷ map (λ (p : PortState). registered_talker stream p.part) s.streams.ports))
        then heard_from (first_talker (advertise_of o ∷ map (λ (p : PortState). registered_talker stream p.part) s.streams.ports)) else None) ≡ false
    of_talk s None h = cc
    of_talk s (Some t) h = of_listens (is_listened stream s.streams.listens) t (map (λ (p : PortState). registered_talker stream p.part) s.streams.ports)

    by : (o : Option NodeState) → option_map_or (λ (s : NodeState). is_station s.kind && has_talk stream s.streams) o false ≡ true
        → option_map_or (λ (s : NodeState). is_ready_heard (heard_of stream s.streams)) o false ≡ false
    by None h = cc
    by (Some s) h = of_talk s (talk_of stream s.streams.talks) (and_parts (is_station s.kind) (has_talk stream s.streams) h).1

-- the class of a want is that of its Talker
class_of_want : (t : Talker) (want : Want) (o : Option Class) → class_of_priority t.priority ≡ o → option_map (want_in_class t) o ≡ Some want
    → class_of_priority t.priority ≡ Some want.class
class_of_want t want None is h = cc
class_of_want t want (Some class) is h = is ∙ ap (λ (v : Want). Some v.class) (same_Some (want_in_class t class) want h)

module _ (plan : Plan) (w : WorldState) (known : IsKnown plan w) (rest : IsAtRest w) (laws : HasPortLaws w.tree)
    (edges : (p : EgressPort) (s : NodeState) (port : PortState) (reg : TalkerReg) (class : Class) → HasPort w.tree p → node_at p.node w ≡ Some s
    → slice_get s.streams.ports (place_of p.port) ≡ Some port → class_in reg ≡ Some class → is_edge_for port.domain port.part reg ≡ is_boundary_in plan class p) where
  none_awaits : (x : ℕ) (s : NodeState) → slice_get w.nodes x ≡ Some s → list_all (λ (keys : List MsrpKey). length keys == 0) s.streams.awaiting ≡ true
  none_awaits x s e =
      let all = and_parts (are_empty s.inboxes && are_empty s.outboxes && are_still s.vlans) (streams_are_still s.streams) (get-all is_still_node w.nodes x s rest.quiet e) in
      (and_parts (list_all (λ (p : PortState). is_still p.part) s.streams.ports) (list_all (λ (keys : List MsrpKey). length keys == 0) s.streams.awaiting) all.1).1

  -- a port's ledger keeps what the port wants by what is registered
  kept_is_wanted : (stream : StreamId) (p : EgressPort) (a : IsPortAt w p)
      → want_of a.port.ledger.entries stream ≡ wanted_at (place_of p.port) a.port (seen_by a.s.streams stream).talkers stream
  kept_is_wanted stream p a =
      let side : IsKept a.s.streams = (known.kept.nodes (p.node.0 - 1) a.s a.node).kept.kept.streams in
      let lt : place_of p.port < length a.s.streams.awaiting = omega (arith, side.sets, slice_get_within a.s.streams.ports (place_of p.port) a.port a.has) in
      let found = within a.s.streams.awaiting (place_of p.port) lt in
      let none : found.0 ≡ [] = get-empty a.s.streams.awaiting (place_of p.port) found.0 (none_awaits (p.node.0 - 1) a.s a.node) found.1 in
      (side.settled (place_of p.port) a.port [] a.has (found.1 ∙ ap Some none)).wanted stream refl refl

  module _ (place : ℕ) (wish : Wish) (at : slice_get (wishes_in plan w) place ≡ Some wish) (granted : grants wish.answer ≡ true) (talked : wish.talked ≡ true) where
    abbrev u : IsWishIn plan w wish
    u = wish_in plan w place wish at

    abbrev e : StreamEntry
    e = (wish_in plan w place wish at).entry

    abbrev l : ℕ
    l = wish.station.0

    answered : grants (answer_to w e l) ≡ true
    answered = ap (λ (v : Wish). grants v.answer) (sym u.wish_is) ∙ granted

    t : (t : ℕ) × (talking_node w e.id ≡ Some t)
    t = some_talks w e.id (ap (λ (v : Wish). v.talked) (sym u.wish_is) ∙ talked)

    talks : HasNode w.tree t.0 × (is_talked_at w e.id t.0 ≡ true)
    talks = lowest_talks w e.id t.0 t.1

    k : IsTalkedAsPlanned plan w e.id t.0
    k = as_planned plan w known.talks e.id t.0 talks.0.0 talks.1

    entry : k.entry ≡ e
    entry = one_entry plan known.rules k.place wish.stream k.entry e k.entry_is u.entry_is (ap (λ (x : StreamId). x.0) k.id_is)

    way : way_to w e.id l ≡ path_between w.tree.links t.0 l
    way = ap (λ (o : Option ℕ). option_map_or (λ y. path_between w.tree.links y l) o []) t.1

    -- what a port of the way wants of the stream
    record IsServedAt (p : EgressPort) (a : IsPortAt w p) : Type 0 where
      want : Want
      asked : want_at w e.id t.0 ≡ Some want
      talker : Talker
      advertised : first_talker (seen_by a.s.streams e.id).talkers ≡ Advertise talker
      inside : edge_at a.port (seen_by a.s.streams e.id).talkers ≡ false
      checked : check_of talker ≡ None
      wanted : want_of_talker talker ≡ Some want

    served_at : (p : EgressPort) → HasPort w.tree p → IsIn (path_between w.tree.links t.0 l) p → (a : IsPortAt w p) → IsServedAt p a
    served_at p has on a =
        let there : has_booked w e.id p ≡ true =
        at_each (λ (q : EgressPort). has_booked w e.id q ≡ true) (way_to w e.id l) (granted_booked w e l answered) on.0 p (ap (λ (ps : List EgressPort). slice_get ps on.0) way ∙ on.1) in
        let b = booked_of w e.id p a there in
        let once = one_talker plan w known.rules known.talks e.id in
        let behind = known.wanted e.id p a.s a.port b.want once has a.node a.has b.want_is in
        let why = wants (place_of p.port) a.port (seen_by a.s.streams e.id).talkers e.id b.want (sym (kept_is_wanted e.id p a) ∙ b.want_is) in
        record {
          want = b.want;
          asked = ap (want_at w e.id) (same_Some t.0 behind.t (sym t.1 ∙ behind.talker)) ∙ behind.asked;
          talker = why.0;
          advertised = why.1.advertised;
          inside = why.1.inside;
          checked = why.1.checked;
          wanted = why.1.want;
        }

    -- the first port of the way, at the Talker's station
    first : (p : EgressPort) × HasPort w.tree p × (p.node.0 ≡ t.0) × IsIn (path_between w.tree.links t.0 l) p
    first = by (laws.some_port t.0 l talks.0 u.node)
      where
        by : (t.0 ≡ l) ⊎ ((p : EgressPort) × HasPort w.tree p × (p.node.0 ≡ t.0) × (is_behind w.tree.links p l ≡ true))
            → (p : EgressPort) × HasPort w.tree p × (p.node.0 ≡ t.0) × IsIn (path_between w.tree.links t.0 l) p
        by (inl same) = absurd (true≢false (sym (granted_hears w e l answered) ∙ own_unheard w e.id l (ap (is_talked_at w e.id) (sym same) ∙ talks.1)))
        by (inr p) =
            let path : path_between w.tree.links t.0 l ≡ p.0 ∷ path_between w.tree.links (far_node w.tree.links p.0) l =
            ap (λ (x : ℕ). path_between w.tree.links x l) (sym p.2) ∙ laws.path_first p.0 l p.1 u.node p.3 in
            (p.0, p.1, p.2, (0, ap (λ (ps : List EgressPort). slice_get ps 0) path))

    code : code_of_entry e ≡ None
    code =
        let a = port_at w known.kept first.0 first.1 in
        let s = served_at first.0 first.1 first.3 a in
        let node : node_of t.0 w ≡ Some a.s = ap (λ (x : ℕ). node_of x w) (sym first.2) ∙ a.node in
        let talk : talk_of e.id a.s.streams.talks ≡ Some (talker_of_entry e) =
        ap (option_and_then (λ (x : NodeState). talk_of e.id x.streams.talks)) (sym node) ∙ (k.talk_is ∙ ap (λ (x : StreamEntry). Some (talker_of_entry x)) entry) in
        let own : first_talker (seen_by a.s.streams e.id).talkers ≡ Advertise (talker_of_entry e) =
        ap (λ (o : Option Talker). first_talker (advertise_of o ∷ map (λ (q : PortState). registered_talker e.id q.part) a.s.streams.ports)) talk in
        let both : Advertise s.talker ≡ Advertise (talker_of_entry e) = sym s.advertised ∙ own in
        let same : s.talker ≡ talker_of_entry e = cc in
        ap check_of (sym same) ∙ s.checked

    -- no boundary of the class's domain stands on the way
    unbarred : (class : Class) → class_of_entry e ≡ Some class → (p : EgressPort) → HasPort w.tree p → is_barred plan class e.talker.0 l p ≡ false
    unbarred class is p has = by (is_barred plan class e.talker.0 l p) refl
      where
        by : (b : Bool) → is_barred plan class e.talker.0 l p ≡ b → is_barred plan class e.talker.0 l p ≡ false
        by false off = off
        by true on =
            let parts = and_parts (is_edge plan class p) (leads_to plan.tree p e.talker.0 l) on in
            let from : e.talker.0 ≡ t.0 = ap (λ (x : StreamEntry). x.talker.0) (sym entry) ∙ k.talker_is in
            let leads : leads_to w.tree p t.0 l ≡ true =
            ap (λ (tree : Topology). leads_to tree p t.0 l) known.tree ∙ (ap (λ (y : ℕ). leads_to plan.tree p y l) (sym from) ∙ parts.1) in
            let there = (known.ways p t.0 l has talks.0 u.node).0 leads in
            let a = port_at w known.kept p has in
            let s = served_at p has there a in
            let asked =
            asked_class k.entry s.want (class_of_priority k.entry.priority) refl
            (ap (option_and_then want_of_talker) (sym k.talk_is) ∙ (asked_by_talk w e.id t.0 ∙ s.asked)) in
            let of_entry : class_of_priority e.priority ≡ Some asked.0 = ap (λ (x : StreamEntry). class_of_priority x.priority) (sym entry) ∙ asked.1 in
            let by_code : class_of_entry e ≡ class_of_priority e.priority = ap (λ (o : Option ℕ). if is_none o then class_of_priority e.priority else None) code in
            let class_same : asked.0 ≡ class = same_Some asked.0 class (sym of_entry ∙ (sym by_code ∙ is)) in
            let want_class : s.want.class ≡ class = ap (λ (v : Want). v.class) (sym asked.2) ∙ class_same in
            let reg : class_in (first_talker (seen_by a.s.streams e.id).talkers) ≡ Some class =
            ap class_in s.advertised ∙ (class_of_want s.talker s.want (class_of_priority s.talker.priority) refl s.wanted ∙ ap (λ (c : Class). Some c) want_class) in
            let edge : is_boundary_in plan class p ≡ false =
            sym (edges p a.s a.port (first_talker (seen_by a.s.streams e.id).talkers) class has a.node a.has reg) ∙ s.inside in
            absurd (true≢false (sym parts.0 ∙ (sym (boundary_is_edge plan class p) ∙ edge)))

  -- each port of a link is a port
  ends_are : (link : Link) → HasPort w.tree (port_to w.tree.links link.a.0 link.b.0) → HasPort w.tree (port_to w.tree.links link.b.0 link.a.0)
      → AllByRecursion (HasPort w.tree) (port_to w.tree.links link.a.0 link.b.0 ∷ port_to w.tree.links link.b.0 link.a.0 ∷ [])
  ends_are link a b = (a, (b, tt))

  all_ports : AllByRecursion (HasPort w.tree) (link_ports w.tree)
  all_ports = each_flat (HasPort w.tree) (λ (l : Link). port_to w.tree.links l.a.0 l.b.0 ∷ port_to w.tree.links l.b.0 l.a.0 ∷ []) w.tree.links (λ i link at.
      let back : i + 1 - 1 ≡ i = omega arith in
      let below = slice_get_within w.tree.links i link at in
      let is : link_numbered w.tree.links (i + 1) ≡ link =
      get_or_from_slice_get w.tree.links (i + 1 - 1) link (record { a = record { 0 = 0 }; b = record { 0 = 0 } }) (ap (slice_get w.tree.links) back ∙ at) in
      let has : HasLink w.tree (i + 1) = (omega arith, omega (arith, below)) in
      ends_are link
      (subst (λ (x : Link). HasPort w.tree (port_to w.tree.links x.a.0 x.b.0)) is (laws.end_a (i + 1) has))
      (subst (λ (x : Link). HasPort w.tree (port_to w.tree.links x.b.0 x.a.0)) is (laws.end_b (i + 1) has)))

  -- a granted wish may be served, so that there is no line of it alone
  granted_served : (place : ℕ) (wish : Wish) → slice_get (wishes_in plan w) place ≡ Some wish → grants wish.answer ≡ true → AreServed plan (need_of wish)
  granted_served place wish at granted i e e_is = by wish.talked (nat_lt wish.stream 65535) refl
    where
      need : Need
      need = record { stream = wish.stream + 1; station = wish.station }

      u : IsWishIn plan w wish
      u = wish_in plan w place wish at

      one : wish.talked ≡ true → (b : Bool) → is_wish_of plan.tree (i + 1) need ≡ b
          → AllByRecursion (IsServed plan e) (map (λ (n : Need). n.station) (if b then need ∷ [] else []))
      one talked false is = tt
      one talked true is =
          let number : wish.stream + 1 ≡ i + 1 = eqb-true (wish.stream + 1) (i + 1) (and_parts (wish.stream + 1 == i + 1) (is_node plan.tree wish.station.0) is).0 in
          let place_is : wish.stream ≡ i = omega (arith, number) in
          let same : u.entry ≡ e = same_Some u.entry e (sym u.entry_is ∙ (ap (slice_get plan.streams) place_is ∙ e_is)) in (
            subst (λ (x : StreamEntry). IsServed plan x wish.station) same (record {
              code = code place wish at granted talked;
              way = λ class is. none_of (is_barred plan class u.entry.talker.0 wish.station.0) (link_ports plan.tree) (λ j p there.
                  unbarred place wish at granted talked class is p
                  (at_each (HasPort w.tree) (link_ports w.tree) all_ports j p (ap (λ (tree : Topology). slice_get (link_ports tree) j) known.tree ∙ there)));
            }),
            tt,
          )

      by : (t n : Bool) → wish.talked ≡ t → AllByRecursion (IsServed plan e) (stations_of plan.tree (if t && n then need ∷ [] else []) (i + 1))
      by true true talked = one talked (is_wish_of plan.tree (i + 1) need) refl
      by true false talked = tt
      by false n talked = tt

  pub never_missed : ((wishes : List Need) → (never_lines plan wishes ≡ []) ↔ AreServed plan wishes) → (wish : Wish) → Contains (wishes_in plan w) wish
      → IsUnderNever plan wish → grants wish.answer ≡ false
  never_missed lines wish listed never = by (grants wish.answer) refl
    where
      by : (b : Bool) → grants wish.answer ≡ b → grants wish.answer ≡ false
      by false is = is
      by true is = let there = got (wishes_in plan w) wish listed in absurd (never ((lines (need_of wish)).1 (granted_served there.0 wish there.1 is)))

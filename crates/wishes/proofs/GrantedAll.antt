-- Where nothing is needed, all is granted.
use Rattle.std.proofs.Common.{◌≡◌, ℕ, suc, zero, ◌+◌, ◌-◌, ◌≤◌, Bool, true, false, not, ◌&&◌, ◌==◌, List, [], ◌∷◌, length, Option, Some, None, if◌then◌else◌, refl, sym, ap, subst, ◌∙◌, inl, inr, arith}
use Rattle.std.specs.Prelude.{◌↔◌, filter, nat_le, slice_get, option_and_then, option_map, IsSome}
use Rattle.std.specs.{Option.is_none, Option.option_map_or, List.AllByRecursion}
use Rattle.std.proofs.lemmas.{Bool.and_from, Bool.and_parts, Bool.eq-eqb, Bool.le-leb, Bool.leb-true, Bool.not_from_false, Bool.true≢false, Map.Keys.any_passes_from_place, Option.get_or_from_slice_get, Option.none-some, Option.same_Some, Option.slice_get_within}
use Rattle.srp_base.proofs.Lists.{at_each, each_of, within}
use Rattle.srp_base.specs.declared.{bandwidth.Class.Class, bandwidth.Class.TheVariants.A, bandwidth.Class.TheVariants.B, numbers.EgressPort.EgressPort, numbers.StreamId.StreamId, streams.Failure.Failure, streams.Talker.Talker, streams.TalkerReg.TalkerReg}
use Rattle.srp_base.specs.declared.streams.TalkerReg.TheVariants.{Failed}
use Rattle.stream_importance.specs.declared.{entry.Entry.Entry, entry.Fit.TheVariants.Fits, entry.Fit.TheVariants.TooLittle, entry.Want.Want}
use Rattle.port_ledger.specs.{Book.Book, Book.code_of, Book.fit_for, Book.tested_entry, Book.want_of, Decision.above, Decision.booked_of, Decision.does_fit}
use Rattle.stream_importance.specs.Bandwidth.{cap_of}
use Rattle.msrp_talker.specs.TalkerOut.{check_of, class_of_priority}
use Rattle.tree_topology.specs.declared.graph.Link.{Link}
use Rattle.tree_topology.specs.{Topology.HasNode, Topology.HasPort, Topology.Topology, Topology.HasLink, Topology.link_ports, Ports.link_at as link_numbered, Ports.IsPortPath, Ports.peer_of, Ports.port_to, PortLaws.HasPortLaws, PortLaws.IsEndOf, Walk.is_behind, Walk.path_between}
use Rattle.topology_file.specs.declared.{entries.DomainWord.DomainWord, entries.LinkEntry.LinkEntry, entries.NodeEntry.NodeEntry, entries.StreamEntry.StreamEntry}
use Rattle.topology_file.specs.declared.entries.DomainWord.TheVariants as words
use Rattle.topology_file.specs.Plan.{Plan}
use Rattle.scenario_bounds.specs.Caps.{link_at}
use Rattle.attribute_propagation.specs.Ports.{place_of}
use Rattle.msrp.specs.{PortState.PortState, Domain.are_counted, Domain.class_in, Domain.has_class, Domain.is_boundary_of, Domain.is_edge as is_edge_for, Side.seen_by, Stream.edge_at, Stream.first_talker, Stream.want_of_talker}
use Rattle.node_core.specs.State.{NodeState}
use Rattle.world_core.specs.{Start.domain_set, Ticks.talker_of_entry, World.WorldState, World.node_at}
use Rattle.network_laws.specs.Streams.{hears_ready, is_listened_at, is_path_booked, is_talked_at, talking_node, want_at, IsPushedOut, IsRefusedAt, IsTalkedOnce}
use Rattle.network_laws.specs.Causes.{class_talked, is_boundary_in, talk_at, talker_at_node, HasCause, HasFailure, HasReason}
use Rattle.network_laws.specs.Causes as causes
use Rattle.port_needs.specs.declared.demand.Wish.{Wish as Need}
use Rattle.port_needs.specs.{Demands.class_of_entry, Demands.code_of_entry, Demands.is_barred, Demands.is_blocked, Domains.is_edge, Demands.is_node, Demands.is_wish_of, Demands.leads_to, Domains.says_class, Demands.stations_of, Demands.want_of_entry, Demands.wants_at, Laws.AreServed, Laws.IsAmong, Laws.IsLargeEnough, Laws.IsLedgerOf, Laws.IsServed, Laws.IsWishedAt}
use Rattle.wishes.specs.declared.wish.Wish.{Wish}
use Rattle.wishes.specs.{Needs.needs_in, Needs.AreGranted, Needs.IsTalkedByOther, Wishes.answer_to, Wishes.grants, Wishes.is_talked, Wishes.numbered, Wishes.wish_of, Wishes.wishes_in}
use Rattle.wishes.proofs.GrantLemmas.{granted_where_ready}
use Rattle.wishes.proofs.NeedLemmas.{as_planned, asked_by_talk, in_flat, in_map, listener_wishes, lowest_talks, one_entry, one_talker, some_talks, talked_needs, wish_in, IsIn, IsPortAt, IsTalkedAsPlanned}
use Rattle.wishes.proofs.GrantedNeeds.{caps_are, ledger_kept, IsKnown}

-- ---- lists

in_filter : {X : Type 0} (test : X → Bool) (xs : List X) (i : ℕ) (x : X) → slice_get xs i ≡ Some x → test x ≡ true → IsIn (filter test xs) x
in_filter test [] i x at pass = cc
in_filter {X} test (y ∷ xs) i x at pass = by i (test y) refl at (λ j later. in_filter test xs j x later pass)
  where
    by : (i : ℕ) (t : Bool) → test y ≡ t → slice_get (y ∷ xs) i ≡ Some x → ((j : ℕ) → slice_get xs j ≡ Some x → IsIn (filter test xs) x)
        → IsIn (if t then y ∷ filter test xs else filter test xs) x
    by zero true is at later = (0, at)
    by zero false is at later = absurd (true≢false (sym pass ∙ (ap test (sym (same_Some y x at)) ∙ is)))
    by (suc j) true is at later = let r = later j at in (suc r.0, r.1)
    by (suc j) false is at later = later j at

-- each port of a tree is one of its links
pub port_in : (tree : Topology) → HasPortLaws tree → (p : EgressPort) → HasPort tree p → IsIn (link_ports tree) p
port_in tree laws p h = by (laws.port_end p h)
  where
    ends : Link → List EgressPort
    ends l = port_to tree.links l.a.0 l.b.0 ∷ port_to tree.links l.b.0 l.a.0 ∷ []

    by : (n : ℕ) × HasLink tree n × IsEndOf tree p n → IsIn (link_ports tree) p
    by e =
        let l = within tree.links (e.0 - 1) (omega (arith, e.1.0, e.1.1)) in
        let link : link_numbered tree.links e.0 ≡ l.0 = get_or_from_slice_get tree.links (e.0 - 1) l.0 (record { a = record { 0 = 0 }; b = record { 0 = 0 } }) l.1 in
        in_flat ends tree.links (e.0 - 1) l.0 p l.1
        (elim e.2 [
          | inl a ↦ (0, sym (ap (λ (q : EgressPort). Some q) (a ∙ ap (λ (x : Link). port_to tree.links x.a.0 x.b.0) link)))
          | inr b ↦ (1, sym (ap (λ (q : EgressPort). Some q) (b ∙ ap (λ (x : Link). port_to tree.links x.b.0 x.a.0) link)))
        ])

-- ---- boundaries

-- a node says the Domain value of a class by the file where it declares it
says_is : (class : Class) (word : DomainWord) → has_class (domain_set true word) class ≡ says_class word class
says_is A words.Both = refl
says_is B words.Both = refl
says_is A words.OnlyA = refl
says_is B words.OnlyA = refl
says_is A words.Nothing = refl
says_is B words.Nothing = refl

node_says_is : (class : Class) (o : Option NodeEntry)
    → option_map_or (λ (e : NodeEntry). has_class (domain_set true e.domain) class) o false ≡ option_map_or (λ (e : NodeEntry). says_class e.domain class) o false
node_says_is class None = refl
node_says_is class (Some e) = says_is class e.domain

pub boundary_is_edge : (plan : Plan) (class : Class) (p : EgressPort) → is_boundary_in plan class p ≡ is_edge plan class p
boundary_is_edge plan class p = by plan.domains (slice_get plan.nodes (p.node.0 - 1)) (slice_get plan.nodes ((peer_of plan.tree.links p).node.0 - 1))
  where
    by : (d : Bool) (o q : Option NodeEntry)
        → (d && not (option_map_or (λ (e : NodeEntry). has_class (domain_set d e.domain) class) o false
        && option_map_or (λ (e : NodeEntry). has_class (domain_set d e.domain) class) q false))
        ≡ (d && not (option_map_or (λ (e : NodeEntry). says_class e.domain class) o false && option_map_or (λ (e : NodeEntry). says_class e.domain class) q false))
    by false o q = refl
    by true o q =
        ap (λ (t : Bool). not (t && option_map_or (λ (e : NodeEntry). has_class (domain_set true e.domain) class) q false)) (node_says_is class o)
        ∙ ap (λ (t : Bool). not (option_map_or (λ (e : NodeEntry). says_class e.domain class) o false && t)) (node_says_is class q)

-- where a boundary is heeded there is a class
edge_class : (port : PortState) (o : Option Class) → is_boundary_of port.domain port.part o ≡ true → (class : Class) × (o ≡ Some class)
edge_class port None h = cc
edge_class port (Some class) h = (class, refl)

-- ---- classes

-- what a stream asks is of its class
pub asked_class : (e : StreamEntry) (want : Want) (o : Option Class) → class_of_priority e.priority ≡ o → option_map (λ (c : Class). want_of_entry e c) o ≡ Some want
    → (class : Class) × (class_of_priority e.priority ≡ Some class) × (want_of_entry e class ≡ want)
asked_class e want None is h = cc
asked_class e want (Some class) is h = (class, is, same_Some (want_of_entry e class) want h)

class_of_served : (e : StreamEntry) (class : Class) → code_of_entry e ≡ None → class_of_priority e.priority ≡ Some class → class_of_entry e ≡ Some class
class_of_served e class code is = ap (λ (o : Option ℕ). if is_none o then class_of_priority e.priority else None) code ∙ is

-- what fits stays within its cap
fits_within : (now : ℕ) (book : Book) (want : Want) (code : ℕ) → fit_for now book want ≡ Fits → IsPushedOut now book want code → ⊥
fits_within now book want code fits out = by (does_fit now book.caps (booked_of book.entries) x) refl fits
  where
    x : Entry
    x = tested_entry book.entries want

    by : (t : Bool) → does_fit now book.caps (booked_of book.entries) x ≡ t
        → (if t then Fits
        else TooLittle (above now x (booked_of book.entries)) (cap_of book.caps want.class) (code_of now book.caps (booked_of book.entries) x)) ≡ Fits → ⊥
    by true is h =
        let most : above now x (booked_of book.entries) + want.slope ≤ cap_of book.caps want.class = leb-true _ _ is in
        omega (arith, most, out.passes)
    by false is h = cc

-- what is known of it more, where nothing is needed
pub record NeedsNothing (plan : Plan) (w : WorldState) : Type 0 where
  pub known : IsKnown plan w
  pub missed : (stream : StreamId) (l t : ℕ) → IsTalkedOnce w stream → talking_node w stream ≡ Some t → HasNode w.tree l
      → is_listened_at w stream l ≡ true → is_talked_at w stream l ≡ false → hears_ready w stream l ≡ false → HasFailure w stream l
  pub cause : (stream : StreamId) (l : ℕ) (talker : Talker) (failure : Failure) → IsTalkedOnce w stream → HasNode w.tree l
      → is_talked_at w stream l ≡ false → talker_at_node w stream l ≡ Failed talker failure → HasCause w stream l failure
  pub sides : (stream : StreamId) (l : ℕ) → IsTalkedOnce w stream → HasNode w.tree l → is_listened_at w stream l ≡ true
      → is_talked_at w stream l ≡ false → hears_ready w stream l ≡ is_path_booked w stream l
  pub edges : (p : EgressPort) (s : NodeState) (port : PortState) (reg : TalkerReg) (class : Class) → HasPort w.tree p → node_at p.node w ≡ Some s
      → slice_get s.streams.ports (place_of p.port) ≡ Some port → class_in reg ≡ Some class → is_edge_for port.domain port.part reg ≡ is_boundary_in plan class p
  pub fits : (p : EgressPort) (link : LinkEntry) (book : Book) (now : ℕ) (want : Want) → IsLargeEnough plan (needs_in plan w) p
      → IsLedgerOf plan (needs_in plan w) p link book → IsAmong want (wants_at plan (needs_in plan w) p) → fit_for now book want ≡ Fits
  pub wished : (p : EgressPort) (want : Want) → IsAmong want (wants_at plan (needs_in plan w) p) ↔ IsWishedAt plan (needs_in plan w) p want
  pub linked : AllByRecursion (λ p. IsSome (link_at plan p)) (link_ports plan.tree)
  pub large : AllByRecursion (IsLargeEnough plan (needs_in plan w)) (link_ports plan.tree)
  pub served : AreServed plan (needs_in plan w)
  pub ports : HasPortLaws w.tree
  pub paths : (x y : ℕ) (ports : List EgressPort) → HasNode w.tree x → HasNode w.tree y → IsPortPath w.tree.links x y ports → ports ≡ path_between w.tree.links x y

module _ (plan : Plan) (w : WorldState) (all : NeedsNothing plan w) where
  known : IsKnown plan w
  known = all.known

  abbrev needs : List Need
  needs = needs_in plan w

  -- a port is one of the links'
  here : (p : EgressPort) → HasPort w.tree p → IsIn (link_ports plan.tree) p
  here p has = subst (λ (t : Topology). IsIn (link_ports t) p) known.tree (port_in w.tree all.ports p has)

  link_there : (p : EgressPort) → HasPort w.tree p → (link : LinkEntry) × (link_at plan p ≡ Some link)
  link_there p has =
      let at = here p has in
      by (link_at plan p) refl (at_each (λ q. IsSome (link_at plan q)) (link_ports plan.tree) all.linked at.0 p at.1)
    where
      by : (o : Option LinkEntry) → link_at plan p ≡ o → IsSome o → (link : LinkEntry) × (link_at plan p ≡ Some link)
      by None is some = cc
      by (Some link) is some = (link, is)

  node_there : (l : ℕ) → HasNode w.tree l → is_node plan.tree l ≡ true
  node_there l node =
      ap (λ (t : Topology). is_node t l) (sym known.tree)
      ∙ and_from (nat_le 1 l) (nat_le l (length w.tree.kinds)) (le-leb 1 l node.0) (le-leb l (length w.tree.kinds) node.1)

  -- what a station that listens to a talked stream needs
  need_there : (i : ℕ) (e : StreamEntry) (l : ℕ) → slice_get plan.streams i ≡ Some e → HasNode w.tree l → is_listened_at w e.id l ≡ true
      → is_talked w e.id ≡ true → IsIn needs (record { stream = i + 1; station = numbered l })
  need_there i e l at node listens talked =
      let wish = listener_wishes plan w i e l at node listens in
      talked_needs (wishes_in plan w) wish.0 (wish_of w i e (numbered l)) wish.1 talked
      (omega (arith, slice_get_within plan.streams i e at, known.rules.streams_many))

  served_there : (i : ℕ) (e : StreamEntry) (l : ℕ) → slice_get plan.streams i ≡ Some e → HasNode w.tree l → is_listened_at w e.id l ≡ true
      → is_talked w e.id ≡ true → IsServed plan e (numbered l)
  served_there i e l at node listens talked =
      let need : Need = record { stream = i + 1; station = numbered l } in
      let place = need_there i e l at node listens talked in
      let kept = in_filter (is_wish_of plan.tree (i + 1)) needs place.0 need place.1
      (and_from (i + 1 == i + 1) (is_node plan.tree l) (eq-eqb (i + 1) (i + 1) refl) (node_there l node)) in
      let station = in_map (λ (n : Need). n.station) (filter (is_wish_of plan.tree (i + 1)) needs) kept.0 need kept.1 in
      at_each (IsServed plan e) (stations_of plan.tree needs (i + 1)) (all.served i e at) station.0 (numbered l) station.1

  -- what it asks of a port that leads to it is among what is wished there
  among_there : (p : EgressPort) (i : ℕ) (e : StreamEntry) (class : Class) (l : ℕ) → slice_get plan.streams i ≡ Some e
      → class_of_priority e.priority ≡ Some class → HasNode w.tree l → is_listened_at w e.id l ≡ true → is_talked w e.id ≡ true
      → leads_to w.tree p e.talker.0 l ≡ true → IsAmong (want_of_entry e class) (wants_at plan needs p)
  among_there p i e class l at is node listens talked leads =
      let place = need_there i e l at node listens talked in
      let served = served_there i e l at node listens talked in
      let of_class = class_of_served e class served.code is in
      (all.wished p (want_of_entry e class)).1 (record {
        stream = i;
        entry = e;
        entry_is = at;
        class = class;
        class_is = of_class;
        want_is = refl;
        place = place.0;
        wish = record { stream = i + 1; station = numbered l };
        wish_is = place.1;
        stream_is = refl;
        station = node_there l node;
        passes = served.way class of_class;
        leads = ap (λ (t : Topology). leads_to t p e.talker.0 l) (sym known.tree) ∙ leads;
      })

  -- what the station that talks asks is of the class of its entry
  class_asked : (stream : StreamId) (t : ℕ) (k : IsTalkedAsPlanned plan w stream t) (want : Want) → want_at w stream t ≡ Some want
      → (class : Class) × (class_of_priority k.entry.priority ≡ Some class) × (want_of_entry k.entry class ≡ want)
  class_asked stream t k want asked =
      asked_class k.entry want (class_of_priority k.entry.priority) refl
      (ap (option_and_then want_of_talker) (sym k.talk_is) ∙ (asked_by_talk w stream t ∙ asked))

  talked_is : (stream : StreamId) (t : ℕ) → talking_node w stream ≡ Some t → is_talked w stream ≡ true
  talked_is stream t is = ap (λ (o : Option ℕ). not (is_none o)) is

  -- all that a port's ledger keeps is wished there
  each_wished : (p : EgressPort) (a : IsPortAt w p) → HasPort w.tree p → (want : Want) → want_of a.port.ledger.entries want.stream ≡ Some want
      → IsAmong want (wants_at plan needs p)
  each_wished p a has want kept =
      let once = one_talker plan w known.rules known.talks want.stream in
      let b = known.wanted want.stream p a.s a.port want once has a.node a.has kept in
      let node = lowest_talks w want.stream b.t b.talker in
      let k = as_planned plan w known.talks want.stream b.t node.0.0 node.1 in
      let c = class_asked want.stream b.t k want b.asked in
      let listens : is_listened_at w k.entry.id b.l ≡ true = ap (λ (s : StreamId). is_listened_at w s b.l) k.id_is ∙ b.listens in
      let talked : is_talked w k.entry.id ≡ true = ap (is_talked w) k.id_is ∙ talked_is want.stream b.t b.talker in
      let leads : leads_to w.tree p k.entry.talker.0 b.l ≡ true =
      ap (λ (y : ℕ). leads_to w.tree p y b.l) k.talker_is
      ∙ and_from (is_behind w.tree.links p b.l) (not (is_behind w.tree.links p b.t)) b.behind (not_from_false (is_behind w.tree.links p b.t) b.before) in
      subst (λ (v : Want). IsAmong v (wants_at plan needs p)) c.2 (among_there p k.place k.entry c.0 b.l k.entry_is c.1 b.node listens talked leads)

  -- ---- a wish

  module _ (i : ℕ) (e : StreamEntry) (l : ℕ) (at : slice_get plan.streams i ≡ Some e) (node : HasNode w.tree l) (listens : is_listened_at w e.id l ≡ true)
      (other : is_talked_at w e.id l ≡ false) (talked : is_talked w e.id ≡ true) where
    once : IsTalkedOnce w e.id
    once = one_talker plan w known.rules known.talks e.id

    served : IsServed plan e (numbered l)
    served = served_there i e l at node listens talked

    module _ (failure : Failure) (c : HasCause w e.id l failure) where
      talks : HasNode w.tree c.t × (is_talked_at w e.id c.t ≡ true)
      talks = lowest_talks w e.id c.t c.talker

      k : IsTalkedAsPlanned plan w e.id c.t
      k = as_planned plan w known.talks e.id c.t talks.0.0 talks.1

      entry : k.entry ≡ e
      entry = one_entry plan known.rules k.place i k.entry e k.entry_is at (ap (λ (x : StreamId). x.0) k.id_is)

      leads : leads_to w.tree c.p e.talker.0 l ≡ true
      leads =
          let from : e.talker.0 ≡ c.t = ap (λ (x : StreamEntry). x.talker.0) (sym entry) ∙ k.talker_is in
          let path = all.paths c.t l c.on_path.0 talks.0 node c.on_path.2 in
          ap (λ (y : ℕ). leads_to w.tree c.p y l) from
          ∙ (known.ways c.p c.t l c.has talks.0 node).1 (c.on_path.1, ap (λ (ps : List EgressPort). slice_get ps c.on_path.1) (sym path) ∙ c.on_path.3)

      talk_is : talk_at w e.id c.t ≡ Some (talker_of_entry e)
      talk_is = k.talk_is ∙ ap (λ (x : StreamEntry). Some (talker_of_entry x)) entry

      -- bookings leave place
      no_bandwidth : IsRefusedAt w e.id c.t failure c.p → ⊥
      no_bandwidth r =
          let a : IsPortAt w c.p = record { s = r.node; node = r.node_is; port = r.port; has = r.port_is } in
          let asked = class_asked e.id c.t k r.want r.want_is in
          let is : class_of_priority e.priority ≡ Some asked.0 = ap (λ (x : StreamEntry). class_of_priority x.priority) (sym entry) ∙ asked.1 in
          let same : want_of_entry e asked.0 ≡ r.want = ap (λ (x : StreamEntry). want_of_entry x asked.0) (sym entry) ∙ asked.2 in
          let among = subst (λ (v : Want). IsAmong v (wants_at plan needs c.p)) same (among_there c.p i e asked.0 l at is node listens talked leads) in
          let link = link_there c.p c.has in
          let place = here c.p c.has in
          let large = at_each (IsLargeEnough plan needs) (link_ports plan.tree) all.large place.0 c.p place.1 in
          let ledger : IsLedgerOf plan needs c.p link.0 r.port.ledger = record {
            link_is = link.1;
            kept = ledger_kept plan w known c.p a;
            caps = caps_are plan w known c.p a c.has link.0 link.1;
            wished = each_wished c.p a c.has;
          } in
          fits_within r.node.clock.0 r.port.ledger r.want failure.code (all.fits c.p link.0 r.port.ledger r.node.clock.0 r.want large ledger among) r.refused

      -- no boundary stands on the way
      no_boundary : edge_at c.port (seen_by c.node.streams e.id).talkers ≡ true
          → class_in (first_talker (seen_by c.node.streams e.id).talkers) ≡ class_talked w e.id c.t → ⊥
      no_boundary edge class =
          let reg = first_talker (seen_by c.node.streams e.id).talkers in
          let some = edge_class c.port (class_in reg) (and_parts (are_counted c.port.domain) _ edge).1 in
          let is : class_of_priority e.priority ≡ Some some.0 =
          sym (ap (option_and_then (λ (t : Talker). class_of_priority t.priority)) talk_is) ∙ (sym class ∙ some.1) in
          let bound : is_edge plan some.0 c.p ≡ true =
          sym (boundary_is_edge plan some.0 c.p) ∙ (sym (all.edges c.p c.node c.port reg some.0 c.has c.node_is c.port_is some.1) ∙ edge) in
          let leads_plan : leads_to plan.tree c.p e.talker.0 l ≡ true = ap (λ (t : Topology). leads_to t c.p e.talker.0 l) (sym known.tree) ∙ leads in
          let place = here c.p c.has in
          let blocked : is_blocked plan (link_ports plan.tree) some.0 e.talker.0 l ≡ true =
          any_passes_from_place (is_barred plan some.0 e.talker.0 l) (link_ports plan.tree) place.0 c.p place.1
          (and_from (is_edge plan some.0 c.p) (leads_to plan.tree c.p e.talker.0 l) bound leads_plan) in
          true≢false (sym blocked ∙ served.way some.0 (class_of_served e some.0 served.code is))

      no_cause : HasReason w e.id c.t failure c.p c.node c.port → ⊥
      no_cause (causes.for_bandwidth code r) = no_bandwidth r
      no_cause (causes.at_boundary code edge class) = no_boundary edge class
      no_cause (causes.at_each_port is) = none-some failure.code (sym served.code ∙ (ap (option_and_then check_of) (sym talk_is) ∙ is))

    hears : hears_ready w e.id l ≡ true
    hears = by (hears_ready w e.id l) refl
      where
        by : (b : Bool) → hears_ready w e.id l ≡ b → hears_ready w e.id l ≡ true
        by true is = is
        by false is =
            let t = some_talks w e.id talked in
            let f = all.missed e.id l t.0 once t.1 node listens other is in
            let c = all.cause e.id l f.talker f.failure once node other f.registered in
            absurd (no_cause f.failure c c.reason)

    pub answered : grants (answer_to w e l) ≡ true
    answered = granted_where_ready w e l (all.sides e.id l once node listens other) ∙ hears

  pub all_granted : AreGranted plan w
  all_granted = each_of (λ wish. IsTalkedByOther plan w wish → grants wish.answer ≡ true) (wishes_in plan w) (λ place wish is o.
      let u = wish_in plan w place wish is in
      let same : o.entry ≡ u.entry = same_Some o.entry u.entry (sym o.entry_is ∙ u.entry_is) in
      let other : is_talked_at w u.entry.id wish.station.0 ≡ false =
      ap (λ (x : StreamEntry). is_talked_at w x.id wish.station.0) (sym same) ∙ o.is_other in
      let talked : is_talked w u.entry.id ≡ true = ap (λ (v : Wish). v.talked) (sym u.wish_is) ∙ o.talked in
      ap (λ (v : Wish). grants v.answer) u.wish_is ∙ answered wish.stream u.entry wish.station.0 u.entry_is u.node u.listens other talked)

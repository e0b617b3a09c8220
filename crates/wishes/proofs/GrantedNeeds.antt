-- A port is large enough for the wishes behind it where these are granted.
use Rattle.std.proofs.Common.{◌≡◌, ℕ, Bool, true, false, List, [], ◌-◌, Option, Some, None, refl, sym, ap, subst, ◌∙◌, arith}
use Rattle.std.specs.Prelude.{◌↔◌, slice_get, option_and_then, option_map, if◌then◌else◌, IfSome, IsSome}
use Rattle.std.specs.{Option.is_none, Option.option_map_or}
use Rattle.std.proofs.lemmas.Option.{same_Some}
use Rattle.srp_base.proofs.Lists.{at_each}
use Rattle.srp_base.specs.declared.{bandwidth.Class.Class, numbers.EgressPort.EgressPort, numbers.NodeNo.NodeNo, numbers.StreamId.StreamId}
use Rattle.stream_importance.specs.declared.{entry.Want.Want}
use Rattle.port_ledger.specs.Book.{Book, since_of, want_of, IsKept}
use Rattle.msrp_talker.specs.TalkerOut.{class_of_priority}
use Rattle.tree_topology.specs.{Topology.HasNode, Topology.HasPort, Topology.Topology, Walk.path_between}
use Rattle.topology_file.specs.declared.{entries.LinkEntry.LinkEntry, entries.StreamEntry.StreamEntry}
use Rattle.topology_file.specs.{Plan.Plan, Scenario.KeepsRules}
use Rattle.scenario_bounds.specs.Caps.{caps_of_link, link_at}
use Rattle.attribute_propagation.specs.Ports.{place_of}
use Rattle.msrp.specs.{PortState.PortState, Stream.want_of_talker}
use Rattle.node_core.specs.State.{NodeState}
use Rattle.world_core.specs.{Kept.IsKeptWorld, Limits.caps_at, Limits.no_caps, Talks.AreTalksOfPlan, Ticks.talker_of_entry, World.WorldState, World.node_at}
use Rattle.network_laws.specs.Streams.{has_booked, want_at, IsTalkedOnce}
use Rattle.network_laws.specs.Causes.{IsWantedBehind}
use Rattle.port_needs.specs.{Demands.class_of_entry, Demands.code_of_entry, Shares.is_enough, Demands.leads_to, Shares.slope_of_a, Shares.slope_of_all, Demands.want_of_entry, Demands.wants_at, Laws.IsAmong, Laws.IsBookedIn, Laws.IsFullLedgerOf, Laws.IsLargeEnough, Laws.IsOnWay, Laws.IsWishedAt}
use Rattle.wishes.specs.declared.wish.{Wish.Wish}
use Rattle.wishes.specs.{Needs.needs_in, Needs.AreGrantedBehind, Needs.IsWishBehind, Wishes.answer_to, Wishes.grants, Wishes.is_talked, Wishes.way_to, Wishes.wishes_in}
use Rattle.wishes.proofs.GrantLemmas.{granted_booked}
use Rattle.wishes.proofs.NeedLemmas.{as_planned, asked_by_talk, one_entry, booked_of, lowest_talks, need_is, one_talker, port_at, some_talks, wish_in, IsPortAt}

-- what is known of a network at a moment of a run at which it is at rest
pub record IsKnown (plan : Plan) (w : WorldState) : Type 0 where
  pub rules : KeepsRules plan
  pub kept : IsKeptWorld w
  pub tree : w.tree ≡ plan.tree
  pub talks : AreTalksOfPlan plan w
  pub caps : (p : EgressPort) (s : NodeState) (port : PortState) → HasPort w.tree p → node_at p.node w ≡ Some s
      → slice_get s.streams.ports (place_of p.port) ≡ Some port → port.ledger.caps ≡ caps_at plan p
  pub wanted : (stream : StreamId) (p : EgressPort) (s : NodeState) (port : PortState) (want : Want) → IsTalkedOnce w stream → HasPort w.tree p
      → node_at p.node w ≡ Some s → slice_get s.streams.ports (place_of p.port) ≡ Some port
      → want_of port.ledger.entries stream ≡ Some want → IsWantedBehind w stream p want
  pub ways : (p : EgressPort) (from to : ℕ) → HasPort w.tree p → HasNode w.tree from → HasNode w.tree to
      → (leads_to w.tree p from to ≡ true) ↔ IsOnWay w.tree from to p

-- a stream of a class asks what its class makes of it
pub class_is : (e : StreamEntry) (class : Class) → class_of_entry e ≡ Some class → class_of_priority e.priority ≡ Some class
class_is e class h = by (is_none (code_of_entry e)) h
  where
    by : (t : Bool) → (if t then class_of_priority e.priority else None) ≡ Some class → class_of_priority e.priority ≡ Some class
    by true h = h
    by false h = cc

pub want_is : (w : WorldState) (e : StreamEntry) (class : Class) (t : ℕ) (want : Want)
    → option_and_then want_of_talker (Some (talker_of_entry e)) ≡ Some want → class_of_priority e.priority ≡ Some class → want ≡ want_of_entry e class
want_is w e class t want asked is =
    sym (same_Some (want_of_entry e class) want
    (sym (ap (λ (o : Option Class). option_map (λ (c : Class). want_of_entry e c) o) is) ∙ asked))

module _ (plan : Plan) (w : WorldState) (known : IsKnown plan w) where
  -- the caps of a port are those of its link
  pub caps_are : (p : EgressPort) (a : IsPortAt w p) → HasPort w.tree p → (link : LinkEntry) → link_at plan p ≡ Some link → a.port.ledger.caps ≡ caps_of_link link
  caps_are p a h link is = known.caps p a.s a.port h a.node a.has ∙ ap (λ (o : Option LinkEntry). option_map_or caps_of_link o no_caps) is

  pub ledger_kept : (p : EgressPort) (a : IsPortAt w p) → IsKept a.port.ledger
  ledger_kept p a =
      (at_each _ a.s.streams.ports ((known.kept.nodes (p.node.0 - 1) a.s a.node).kept.kept.streams.ports) (place_of p.port) a.port a.has).ledger

  module _ (p : EgressPort) (has : HasPort w.tree p) (granted : AreGrantedBehind plan w p) where
    abbrev a : IsPortAt w p
    a = port_at w known.kept p has

    -- a wish behind the port is booked there
    booked : (want : Want) → IsWishedAt plan (needs_in plan w) p want → IsBookedIn a.port.ledger want
    booked want s =
        let n = need_is (wishes_in plan w) s.place s.wish s.wish_is in
        let u = wish_in plan w n.place n.wish n.wish_is in
        let stream : n.wish.stream ≡ s.stream = omega (arith, n.stream_is, s.stream_is) in
        let e_is : slice_get plan.streams n.wish.stream ≡ Some s.entry = ap (slice_get plan.streams) stream ∙ s.entry_is in
        let same : u.entry ≡ s.entry = same_Some u.entry s.entry (sym u.entry_is ∙ e_is) in
        let l = n.wish.station.0 in
        let leads : leads_to plan.tree p s.entry.talker.0 l ≡ true =
        ap (λ (y : NodeNo). leads_to plan.tree p s.entry.talker.0 y.0) (sym n.station_is) ∙ s.leads in
        let grant : grants n.wish.answer ≡ true =
        at_each (λ wish. IsWishBehind plan p wish → grants wish.answer ≡ true) (wishes_in plan w) granted n.place n.wish n.wish_is
        (record { entry = s.entry; entry_is = e_is; talked = n.talked; leads = leads }) in
        let answered : grants (answer_to w u.entry l) ≡ true = ap (λ (wish : Wish). grants wish.answer) (sym u.wish_is) ∙ grant in
        let talked : is_talked w u.entry.id ≡ true = ap (λ (wish : Wish). wish.talked) (sym u.wish_is) ∙ n.talked in
        let t = some_talks w u.entry.id talked in
        let node = lowest_talks w u.entry.id t.0 t.1 in
        let k = as_planned plan w known.talks u.entry.id t.0 node.0.0 node.1 in
        let e_k : k.entry ≡ s.entry = one_entry plan known.rules k.place n.wish.stream k.entry s.entry k.entry_is e_is (ap (λ (x : StreamId). x.0) k.id_is ∙ ap (λ (x : StreamEntry). x.id.0) same) in
        let from : s.entry.talker.0 ≡ t.0 = ap (λ (x : StreamEntry). x.talker.0) (sym e_k) ∙ k.talker_is in
        let leads_w : leads_to w.tree p t.0 l ≡ true =
        ap (λ (tree : Topology). leads_to tree p t.0 l) known.tree ∙ (ap (λ (y : ℕ). leads_to plan.tree p y l) (sym from) ∙ leads) in
        let on = (known.ways p t.0 l has node.0 u.node).0 leads_w in
        let way : way_to w u.entry.id l ≡ path_between w.tree.links t.0 l = ap (λ (o : Option ℕ). option_map_or (λ y. path_between w.tree.links y l) o []) t.1 in
        let there : has_booked w u.entry.id p ≡ true =
        at_each (λ (q : EgressPort). has_booked w u.entry.id q ≡ true) (way_to w u.entry.id l) (granted_booked w u.entry l answered) on.0 p (ap (λ (ps : List EgressPort). slice_get ps on.0) way ∙ on.1) in
        let b = booked_of w u.entry.id p a there in
        let once = one_talker plan w known.rules known.talks u.entry.id in
        let behind = known.wanted u.entry.id p a.s a.port b.want once has a.node a.has b.want_is in
        let t_is : behind.t ≡ t.0 = same_Some behind.t t.0 (sym behind.talker ∙ t.1) in
        let asks : option_and_then want_of_talker (Some (talker_of_entry k.entry)) ≡ Some b.want =
        ap (option_and_then want_of_talker) (sym k.talk_is) ∙ (asked_by_talk w u.entry.id t.0 ∙ (ap (want_at w u.entry.id) (sym t_is) ∙ behind.asked)) in
        let is : b.want ≡ want =
        want_is w k.entry s.class t.0 b.want asks (ap (λ (x : StreamEntry). class_of_priority x.priority) e_k ∙ class_is s.entry s.class s.class_is)
        ∙ (ap (λ (x : StreamEntry). want_of_entry x s.class) e_k ∙ s.want_is) in
        let id : u.entry.id ≡ want.stream = ap (λ (x : StreamEntry). x.id) same ∙ ap (λ (v : Want). v.stream) s.want_is in
        record {
          kept = ap (want_of a.port.ledger.entries) (sym id) ∙ (b.want_is ∙ ap (λ (v : Want). Some v) is);
          booked = subst (λ (x : StreamId). IsSome (since_of a.port.ledger.entries x)) id b.since;
        }

    pub full : (link : LinkEntry) → link_at plan p ≡ Some link
        → ((want : Want) → IsAmong want (wants_at plan (needs_in plan w) p) → IsWishedAt plan (needs_in plan w) p want)
        → IsFullLedgerOf plan (needs_in plan w) p link a.port.ledger
    full link is wished = record {
      link_is = is;
      kept = ledger_kept p a;
      caps = caps_are p a has link is;
      booked = λ want among. booked want (wished want among);
    }

    pub granted_is_large : ((want : Want) → IsAmong want (wants_at plan (needs_in plan w) p) → IsWishedAt plan (needs_in plan w) p want)
        → ((link : LinkEntry) (book : Book) → IsFullLedgerOf plan (needs_in plan w) p link book → IsLargeEnough plan (needs_in plan w) p)
        → IsLargeEnough plan (needs_in plan w) p
    granted_is_large wished enough = by (link_at plan p) refl
      where
        by : (o : Option LinkEntry) → link_at plan p ≡ o → IsLargeEnough plan (needs_in plan w) p
        by None is =
            let ws = wants_at plan (needs_in plan w) p in
            subst (λ (o : Option LinkEntry). IfSome o (λ l. is_enough (caps_of_link l) (slope_of_a ws) (slope_of_all ws) ≡ true)) (sym is) tt
        by (Some link) is = enough link a.port.ledger (full link is wished)

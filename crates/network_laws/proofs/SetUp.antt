-- How a scenario sets a port up: the caps of its ledger, and in a network at rest the boundaries of domains.
use Rattle.std.proofs.Common.{◌≡◌, ℕ, suc, ◌+◌, ◌-◌, Bool, true, false, ◌&&◌, List, [], ◌∷◌, length, map, refl, sym, ap, ◌∙◌, arith}
use Rattle.std.specs.Prelude.{slice_get, not, Some}
use Rattle.std.specs.{List.AllByRecursion, Option.option_map_or}
use Rattle.srp_base.proofs.Lists.{at_each, within}
use Rattle.srp_base.specs.declared.{bandwidth.Class.Class, bandwidth.Class.TheVariants.A, bandwidth.Class.TheVariants.B, numbers.EgressPort.EgressPort, numbers.StreamId.StreamId, streams.TalkerReg.TalkerReg}
use Rattle.tree_topology.specs.{Topology.HasPort, Ports.peer_of}
use Rattle.topology_file.specs.declared.{entries.DomainWord.DomainWord, entries.NodeEntry.NodeEntry}
use Rattle.topology_file.specs.declared.entries.DomainWord.TheVariants as words
use Rattle.topology_file.specs.Plan.{Plan}
use Rattle.mrp_participant.specs.State.{registered_at}
use Rattle.msrp.specs.declared.domain.DomainSet.{DomainSet}
use Rattle.msrp.specs.declared.domain.DomainSet.TheVariants.{Off, Nothing, OnlyA, Both}
use Rattle.msrp.specs.{PortState.PortState, Part.Part, Part.key_cmp, Domain.are_counted, Domain.class_id, Domain.class_in, Domain.domain_key, Domain.domain_stated, Domain.has_class, Domain.is_boundary, Domain.is_boundary_of, Domain.is_edge, Domain.is_value, Proper.Setup, Proper.setup_of}
use Rattle.attribute_propagation.specs.Ports.{place_of}
use Rattle.node_core.specs.{Proper.port_setups, State.NodeState}
use Rattle.world_core.specs.{Limits.caps_at, Limits.caps_of_link, Limits.links_of, Limits.no_caps, Start.domain_set, Start.nodes_from, World.WorldState}
use Rattle.network_laws.specs.{declares_class}
use Rattle.network_laws.proofs.{StreamNode.KeptWants, StreamNet.AreStreamsStill, StreamNet.At, StreamNet.at-port, StreamNet.get-map, StreamNet.map-get, StreamNet.port-is, StreamNet.settled}

-- the caps of a port are those of its link
pub caps-are : (plan : Plan) (p : EgressPort) (s : NodeState) (port : PortState) → p.node.0 - 1 + 1 ≡ p.node.0
    → map (λ (setup : Setup). setup.caps) (port_setups s) ≡ map caps_of_link (links_of (p.node.0 - 1 + 1) plan)
    → slice_get s.streams.ports (place_of p.port) ≡ Some port → port.ledger.caps ≡ caps_at plan p
caps-are plan p s port number same at =
    let links = links_of (p.node.0 - 1 + 1) plan in
    let here = map-get (λ (setup : Setup). setup.caps) (port_setups s) (place_of p.port) (setup_of port) (map-get setup_of s.streams.ports (place_of p.port) port at) in
    let link = get-map caps_of_link links (place_of p.port) port.ledger.caps (ap (λ caps. slice_get caps (place_of p.port)) (sym same) ∙ here) in
    let caps : caps_at plan p ≡ caps_of_link link.0 =
    ap (λ (x : ℕ). option_map_or caps_of_link (slice_get (links_of x plan) (place_of p.port)) no_caps) (sym number)
    ∙ ap (λ o. option_map_or caps_of_link o no_caps) link.1 in
    sym link.2 ∙ sym caps

-- ---- domains

-- a node heeds Domains exactly where the scenario has them
counted-is : (domains : Bool) (word : DomainWord) → are_counted (domain_set domains word) ≡ domains
counted-is false word = refl
counted-is true words.Both = refl
counted-is true words.OnlyA = refl
counted-is true words.Nothing = refl

-- what is stated of a class is its very value exactly where the node has the class
value-is : (domain : DomainSet) (class : Class) → is_value class (domain_stated domain (class_id class)) ≡ has_class domain class
value-is Off A = refl
value-is Off B = refl
value-is Nothing A = refl
value-is Nothing B = refl
value-is OnlyA A = refl
value-is OnlyA B = refl
value-is Both A = refl
value-is Both B = refl

-- for a registered Talker of a class a port is a boundary where it is one for the class
pub edge-is : (domain : DomainSet) (part : Part) (reg : TalkerReg) (class : Class) → class_in reg ≡ Some class → is_edge domain part reg ≡ is_boundary domain part class
edge-is domain part reg class e =
    ap (λ o. are_counted domain && is_boundary_of domain part o) e
    ∙ twice (are_counted domain) (not (has_class domain class && is_value class (registered_at key_cmp (domain_key class) part)))
  where
    twice : (a b : Bool) → (a && (a && b)) ≡ (a && b)
    twice true b = refl
    twice false b = refl

pub nodes-length : (plan : Plan) (x : ℕ) (entries : List NodeEntry) → length (nodes_from plan x entries) ≡ length entries
nodes-length plan x [] = refl
nodes-length plan x (n ∷ entries) = ap suc (nodes-length plan (x + 1) entries)

-- each port declares the Domain values of its node's entry
abbrev pub AreDomainsOf : Plan → WorldState → Type 0
AreDomainsOf plan w =
    (x : ℕ) (s : NodeState) (entry : NodeEntry) → slice_get w.nodes x ≡ Some s → slice_get plan.nodes x ≡ Some entry
    → AllByRecursion (λ (setup : Setup). setup.domain ≡ domain_set plan.domains entry.domain) (port_setups s)

module _ (plan : Plan) (w : WorldState) (still : AreStreamsStill w) (stream : StreamId) (kept : KeptWants) (many : length plan.nodes ≡ length w.tree.kinds)
    (domains : AreDomainsOf plan w) where
  -- what the scenario says of a port's Domain values
  record IsOfEntry (p : EgressPort) (port : PortState) : Type 0 where
    counted : are_counted port.domain ≡ plan.domains
    has : (class : Class) → has_class port.domain class ≡ declares_class plan p.node class

  of-entry : (p : EgressPort) → HasPort w.tree p → (a : At w still stream kept p) → IsOfEntry p a.port
  of-entry p h a =
      let entry = within plan.nodes (p.node.0 - 1) (omega (arith, h.0.0, h.0.1, many)) in
      let is : a.port.domain ≡ domain_set plan.domains entry.0.domain =
      at_each (λ (setup : Setup). setup.domain ≡ domain_set plan.domains entry.0.domain) (port_setups a.s) (domains (p.node.0 - 1) a.s entry.0 a.node entry.1)
      (place_of p.port) (setup_of a.port) (map-get setup_of a.s.streams.ports (place_of p.port) a.port a.has) in
      record {
        counted = ap are_counted is ∙ counted-is plan.domains entry.0.domain;
        has = λ class. ap (λ domain. has_class domain class) is
            ∙ sym (ap (λ o. option_map_or (λ (x : NodeEntry). has_class (domain_set plan.domains x.domain) class) o false) entry.1);
      }

  -- a port has registered the Domain values that its peer's node declares for good
  pub boundary-is : (p : EgressPort) → HasPort w.tree p → (a : At w still stream kept p) (class : Class)
      → is_boundary a.port.domain a.port.part class
      ≡ (plan.domains && not (declares_class plan p.node class && declares_class plan (peer_of w.tree.links p).node class))
  boundary-is p h a class =
      let q = peer_of w.tree.links p in
      let hq = still.laws.peer_port p h in
      let b = at-port w still stream kept q hq in
      let near = of-entry p h a in
      let far = of-entry q hq b in
      let heard : registered_at key_cmp (domain_key class) a.port.part ≡ domain_stated b.port.domain (class_id class) =
      still.linked p h a.port b.port (port-is w still stream kept p a) (port-is w still stream kept q b) (domain_key class)
      ∙ (settled w still stream kept q b).declared (domain_key class) refl in
      let value : is_value class (registered_at key_cmp (domain_key class) a.port.part) ≡ declares_class plan q.node class =
      ap (is_value class) heard ∙ (value-is b.port.domain class ∙ far.has class) in
      ap (λ x. x && not (has_class a.port.domain class && is_value class (registered_at key_cmp (domain_key class) a.port.part))) near.counted
      ∙ (ap (λ x. plan.domains && not (x && is_value class (registered_at key_cmp (domain_key class) a.port.part))) (near.has class)
      ∙ ap (λ x. plan.domains && not (declares_class plan p.node class && x)) value)

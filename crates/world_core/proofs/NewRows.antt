-- What a node has at the start of a scenario: the rows of its Domain values alone.
use Rattle.std.proofs.Common.{◌≡◌, ℕ, Bool, true, false, List, [], ◌∷◌, map, refl, sym, ap, subst, ◌∙◌}
use Rattle.std.specs.Prelude.{slice_get, Some}
use Rattle.std.specs.List.{AllByRecursion}
use Rattle.srp_base.specs.declared.{numbers.Cs.Cs, numbers.BridgeId.BridgeId, ports.PortSetup.PortSetup}
use Rattle.tree_topology.specs.declared.graph.NodeKind.{NodeKind}
use Rattle.topology_file.specs.declared.{entries.DomainWord.DomainWord, entries.NodeEntry.NodeEntry}
use Rattle.topology_file.specs.declared.entries.DomainWord.TheVariants as words
use Rattle.topology_file.specs.Plan.{Plan}
use Rattle.mrp_participant.specs.State.{new_state}
use Rattle.mvrp.specs.Part.{Part}
use Rattle.msrp.specs.{PortState.PortState, Domain.domain_part, Side.new_port}
use Rattle.node_core.specs.declared.types.Wire.{Wire}
use Rattle.node_core.specs.State.{NodeState, new_node}
use Rattle.world_core.specs.{domain_set, setups_from, world_of, domain_rows, HasRowsAlone, IsAtStart}
use Rattle.world_core.proofs.Beginnings.{new_at}

-- what is made of each port
each_made : {X : Type 0} (P : X → Type 0) (make : PortSetup → X) → ((p : PortSetup) → P (make p)) → (ports : List PortSetup) → AllByRecursion P (map make ports)
each_made P make each [] = tt
each_made P make each (p ∷ ports) = (each p, each_made P make each ports)

-- the rows that a new port of MSRP has declared
declared : (domains : Bool) (word : DomainWord) (period leave_time : Cs) (periodic : Bool)
    → HasRowsAlone (domain_rows domains word) (domain_part (domain_set domains word) (new_state period leave_time periodic))
declared false word period leave_time periodic = record { rows = refl; leave_all = refl; sound = refl }
declared true words.Both period leave_time periodic = record { rows = refl; leave_all = refl; sound = refl }
declared true words.OnlyA period leave_time periodic = record { rows = refl; leave_all = refl; sound = refl }
declared true words.Nothing period leave_time periodic = record { rows = refl; leave_all = refl; sound = refl }

-- a new node
at_start : (domains : Bool) (word : DomainWord) (kind : NodeKind) (bridge : BridgeId) (leave_time : Cs) (periodic : Bool) (ports : List PortSetup)
    → IsAtStart (domain_rows domains word) (new_node kind bridge leave_time periodic (domain_set domains word) ports)
at_start domains word kind bridge leave_time periodic ports =
    record {
      clock = refl;
      vlans = each_made (λ (part : Part). HasRowsAlone [] part) (λ p. new_state p.period leave_time periodic) (λ p. record { rows = refl; leave_all = refl; sound = refl }) ports;
      streams = each_made (λ (port : PortState). HasRowsAlone (domain_rows domains word) port.part)
          (new_port bridge leave_time periodic (domain_set domains word)) (λ p. declared domains word p.period leave_time periodic) ports;
      booked = each_made (λ (port : PortState). port.ledger.entries ≡ []) (new_port bridge leave_time periodic (domain_set domains word)) (λ p. refl) ports;
      inboxes = each_made (λ (wires : List Wire). wires ≡ []) (λ p. []) (λ p. refl) ports;
      outboxes = each_made (λ (wires : List Wire). wires ≡ []) (λ p. []) (λ p. refl) ports;
      asks = record { own = refl; talks = refl; listens = refl };
    }

pub begins_with : (plan : Plan) (x : ℕ) (entry : NodeEntry) (s : NodeState) → slice_get plan.nodes x ≡ Some entry → slice_get (world_of plan).nodes x ≡ Some s
    → IsAtStart (domain_rows plan.domains entry.domain) s
begins_with plan x entry s there is =
    let new = new_at plan plan.nodes 1 x s is in
    let same : Some new.entry ≡ Some entry = sym new.at ∙ there in
    let entries : new.entry ≡ entry = cc in
    let start = at_start plan.domains new.entry.domain new.entry.kind new.entry.id plan.leave_time plan.periodic (setups_from 1 new.number plan.links) in
    subst (λ (e : NodeEntry). IsAtStart (domain_rows plan.domains e.domain) s) entries
    (subst (λ (t : NodeState). IsAtStart (domain_rows plan.domains new.entry.domain) t) (sym new.is) start)

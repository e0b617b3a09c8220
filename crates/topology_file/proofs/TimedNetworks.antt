-- What every network of a file keeps, from the rules that its table passed.
use Rattle.std.proofs.Common.{◌≡◌, ℕ, ◌≤◌, Bool, false, List, [], None, refl, subst, IfOk, arith}
use Rattle.std.proofs.lemmas.List.Elements.{All-weaker}
use Rattle.std.specs.List.{All}
use Rattle.std.specs.Prelude.{codes}
use Rattle.srp_base.proofs.Options.{opened as some-says}
use Rattle.srp_base.specs.Firsts.{first_where}
use Rattle.toml.specs.Data.{Members}
use Rattle.toml_rules.specs.Fields.{number, number_or, truth_or, tables}
use Rattle.tree_topology.specs.{Topology.Topology, Refusal.refusal}
use Rattle.topology_file.specs.{NodeEntry, LinkEntry, Times, KeepsNetworkRules, IsKeptNetwork, timed_network_of, network_of, times_of, nodes_of, links_of, tree_links, node_kinds, topology_of, tree_of, is_crowded, ticks_at, leave_time_at}
use Rattle.topology_file.specs.declared.network.Network.{Network}
use Rattle.topology_file.proofs.{Chains.within-range, Chains.chain-if, Chains.chain-needs, Chains.chain-none, NetworkKept.NodesKeep, NetworkKept.nodes-keep, NetworkKept.small-parts, NetworkKept.ids-fit, NetworkKept.names-differ, NetworkKept.ids-differ, NetworkKept.HasShares, NetworkKept.IsKnownLink, NetworkKept.links-keep, NetworkKept.AcceptedLaw, NetworkKept.tree-keeps, NetworkKept.few-links}

-- what a network keeps, from what its parts were read as
network-keeps : AcceptedLaw → (ticks leave_time : ℕ) (tree : Topology) (nodes : List NodeEntry) (links : List LinkEntry)
    → (1 ≤ ticks) × (ticks ≤ 12000) → (60 ≤ leave_time) × (leave_time ≤ 100)
    → NodesKeep ticks false nodes → All (IsKnownLink nodes) links → (tree ≡ topology_of nodes links) × (refusal (node_kinds nodes) (tree_links links) ≡ None)
    → first_where (is_crowded tree.links) [] nodes ≡ None → KeepsNetworkRules ticks leave_time tree nodes links
network-keeps law ticks leave_time tree nodes links t l n k r crowd =
    let small = small-parts ticks nodes n.small in
    let C : Topology → Type 0 = λ t. first_where (is_crowded t.links) [] nodes ≡ None in
    record {
      ticks_many = t;
      leave = l;
      node_forms = n.forms;
      node_ids = ids-fit ticks false nodes n;
      node_count = (small.0, small.1);
      size = small.2;
      names = names-differ nodes n.names;
      ids = ids-differ nodes n.ids;
      link_forms = All-weaker (IsKnownLink nodes) HasShares (λ x h. h.0) links k;
      accepted = (law (topology_of nodes links)).0 r.1;
      uncrowded = few-links nodes (tree_links links) (subst C r.0 crowd);
      is_tree = r.0;
    }

network_of-keeps : AcceptedLaw → (ticks leave_time : ℕ) (node_tables link_tables : List Members)
    → (1 ≤ ticks) × (ticks ≤ 12000) → (60 ≤ leave_time) × (leave_time ≤ 100)
    → IfOk (network_of ticks false node_tables link_tables) (λ n. KeepsNetworkRules ticks leave_time n.tree n.nodes n.links)
network_of-keeps law ticks leave_time node_tables link_tables t l =
    let P : Network → Type 0 = λ n. KeepsNetworkRules ticks leave_time n.tree n.nodes n.links in
    chain-if P _ (nodes_of ticks false node_tables) _ (nodes-keep ticks false node_tables) (λ nodes n.
    chain-if P _ (links_of nodes link_tables) _ (links-keep nodes link_tables) (λ links k.
    chain-if P _ (tree_of nodes links) _ (tree-keeps nodes links) (λ tree r.
    chain-none P 15 (first_where (is_crowded tree.links) [] nodes) _ (λ crowd.
    network-keeps law ticks leave_time tree nodes links t l n k r crowd))))

-- the times, of so many ticks, with a LeaveTime in its range
times-keep : (ticks : ℕ) (ms : Members) → IfOk (times_of ticks ms) (λ t. (t.ticks ≡ ticks) × (60 ≤ t.leave_time) × (t.leave_time ≤ 100))
times-keep ticks ms =
    let P : Times → Type 0 = λ t. (t.ticks ≡ ticks) × (60 ≤ t.leave_time) × (t.leave_time ≤ 100) in
    chain-needs P 3 (leave_time_at ms) _ (λ leave_time e.
    chain-needs P 3 (truth_or (codes "periodic") false ms) _ (λ periodic _.
    (let range = some-says (λ n. (60 ≤ n) × (n ≤ 100)) (leave_time_at ms) leave_time e (within-range 60 100 (number_or (codes "leave_time") 60 ms)) in
    (refl, range.0, range.1))))

pub timed-keeps : AcceptedLaw → (ms : Members) → IfOk (timed_network_of ms) IsKeptNetwork
timed-keeps law ms =
    let P = IsKeptNetwork in
    chain-needs P 1 (ticks_at ms) _ (λ ticks e.
    chain-needs P 2 (tables (codes "node") ms) _ (λ node_tables _.
    chain-needs P 2 (tables (codes "link") ms) _ (λ link_tables _.
    chain-if P _ (times_of ticks ms) _ (times-keep ticks ms) (λ times t.
    (let range = some-says (λ n. (1 ≤ n) × (n ≤ 12000)) (ticks_at ms) ticks e (within-range 1 12000 (number (codes "ticks") ms)) in
    let in_range : (1 ≤ times.ticks) × (times.ticks ≤ 12000) = (omega (arith, range.0, t.0), omega (arith, range.1, t.0)) in
    chain-if P _ (network_of times.ticks false node_tables link_tables) _
    (network_of-keeps law times.ticks times.leave_time node_tables link_tables in_range (t.1, t.2)) (λ network k. k))))))

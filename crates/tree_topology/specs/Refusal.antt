-- When nodes and links are no accepted tree, and which refusal names what is wrong: the first that
-- fits in the order of the variants, with the first link or node at which it fits.
use Rattle.std.specs.Prelude.{◌≡◌, ◌≢◌, ℕ, ◌+◌, ◌-◌, ◌≤◌, ◌<◌, ◌==◌, nat_le, nat_lt, Bool, true, false, not, ◌&&◌, ◌||◌, List, [], length, Option, Some, None}
use Rattle.std.specs.List.{list_any}
use Rattle.std.proofs.Common.{take, get_or}
use Rattle.srp_base.specs.Firsts.{first_where}
use Rattle.tree_topology.specs.declared.{graph.Link.Link, graph.NodeKind.NodeKind, graph.NodeKind.TheVariants.Station, graph.NodeKind.TheVariants.Bridge, graph.TreeErr.TreeErr}
use Rattle.tree_topology.specs.declared.graph.TreeErr.TheVariants.{UnknownNode, SelfLink, SecondLink, Loop, Unconnected, StationWithLinks, TooManyLinks, NoMemory}
use Rattle.tree_topology.specs.{Graph.IsNode, Graph.Joined, Graph.Connected, Graph.HasKnownEnds, Graph.HasNoSelfLink, Graph.IsGraph, Graph.IsTree, Ports.neighbours, Walk.component}

-- the first link, counted from 1, at which a fault stands; a link is judged by those before it
abbrev pub IsFirstLink : (List Link → Link → Type 0) → List Link → ℕ → Type 0
IsFirstLink Fault links number =
    (i : ℕ) × (number ≡ i + 1) × (i < length links) × ((d : Link) → Fault (take i links) (get_or links i d)) × ((j : ℕ) (d : Link) → j < i → ¬ Fault (take j links) (get_or links j d))

-- the first node at which a fault stands
abbrev pub IsFirstNode : (ℕ → Type 0) → ℕ → ℕ → Type 0
IsFirstNode Fault count x = IsNode count x × Fault x × ((y : ℕ) → 1 ≤ y → y < x → ¬ Fault y)

-- an end that is no node
abbrev pub HasUnknownEnd : ℕ → List Link → Link → Type 0
HasUnknownEnd count earlier l = ¬ (IsNode count l.a.0 × IsNode count l.b.0)

-- a link of a node with itself
abbrev pub IsSelfLink : List Link → Link → Type 0
IsSelfLink earlier l = l.a.0 ≡ l.b.0

-- an earlier link joins the same nodes
abbrev pub IsSecondLink : List Link → Link → Type 0
IsSecondLink earlier l = Joined earlier l.a.0 l.b.0

-- earlier links connect the ends already
abbrev pub ClosesLoop : List Link → Link → Type 0
ClosesLoop earlier l = Connected earlier l.a.0 l.b.0

-- no link closes a loop
abbrev pub HasNoLoop : List Link → Type 0
HasNoLoop links = (i : ℕ) (d : Link) → i < length links → ¬ ClosesLoop (take i links) (get_or links i d)

-- a station with no link or with several
abbrev pub IsStationWithLinks : List NodeKind → List Link → ℕ → Type 0
IsStationWithLinks kinds links x =
    ((d : NodeKind) → get_or kinds (x - 1) d ≡ Station) × (length (neighbours links x) ≢ 1)

-- more links than a port number can count
abbrev pub HasTooManyLinks : List Link → ℕ → Type 0
HasTooManyLinks links x = 255 < length (neighbours links x)

-- each station has exactly one link
abbrev pub HasLeafStations : List NodeKind → List Link → Type 0
HasLeafStations kinds links =
    (x : ℕ) → IsNode (length kinds) x → ¬ IsStationWithLinks kinds links x

-- each node has at most 255 links
abbrev pub HasCountedPorts : List NodeKind → List Link → Type 0
HasCountedPorts kinds links = (x : ℕ) → IsNode (length kinds) x → length (neighbours links x) ≤ 255

-- a tree whose stations have one link and whose nodes have at most 255
pub record IsAccepted (kinds : List NodeKind) (links : List Link) : Type 0 where
  pub tree : IsTree (length kinds) links
  pub leaf_stations : HasLeafStations kinds links
  pub counted_ports : HasCountedPorts kinds links

-- the refusal that names what is wrong with these nodes and links; want of memory is free
abbrev pub IsRefusal : List NodeKind → List Link → TreeErr → Type 0
IsRefusal kinds links (UnknownNode n) = IsFirstLink (HasUnknownEnd (length kinds)) links n.0
IsRefusal kinds links (SelfLink n) =
    HasKnownEnds (length kinds) links × IsFirstLink IsSelfLink links n.0
IsRefusal kinds links (SecondLink n) =
    HasKnownEnds (length kinds) links × HasNoSelfLink links × IsFirstLink IsSecondLink links n.0
IsRefusal kinds links (Loop n) = IsGraph (length kinds) links × IsFirstLink ClosesLoop links n.0
IsRefusal kinds links (Unconnected x) =
    IsGraph (length kinds) links × HasNoLoop links × IsFirstNode (λ y. ¬ Connected links 1 y) (length kinds) x.0
IsRefusal kinds links (StationWithLinks x) =
    IsTree (length kinds) links × IsFirstNode (IsStationWithLinks kinds links) (length kinds) x.0
IsRefusal kinds links (TooManyLinks x) =
    IsTree (length kinds) links × HasLeafStations kinds links × IsFirstNode (HasTooManyLinks links) (length kinds) x.0
IsRefusal kinds links NoMemory = Unit {0}

-- ---- the refusal as a function: the law `refusals` says that it is the one that fits. A test of a link
-- sees the links before it, and a test of a node the nodes before it.

-- a graph of so many nodes has a node of this number
abbrev pub is_node : ℕ → ℕ → Bool
is_node count x = nat_le 1 x && nat_le x count

-- an end is no node
abbrev pub has_unknown_end : ℕ → List Link → Link → Bool
has_unknown_end count earlier l = not (is_node count l.a.0 && is_node count l.b.0)

-- both ends are the same node
abbrev pub is_self_link : List Link → Link → Bool
is_self_link earlier l = l.a.0 == l.b.0

-- a link joins these two nodes
abbrev pub joins_both : ℕ → ℕ → Link → Bool
joins_both x y l = l.a.0 == x && l.b.0 == y || l.a.0 == y && l.b.0 == x

-- an earlier link joins the same two nodes
abbrev pub is_second_link : List Link → Link → Bool
is_second_link earlier l = list_any (joins_both l.a.0 l.b.0) earlier

-- the earlier links connect the two ends
abbrev pub closes_loop : List Link → Link → Bool
closes_loop earlier l = component earlier l.a.0 == component earlier l.b.0

-- the node behind the earlier ones isn't connected with node 1
abbrev pub is_unconnected : List Link → List NodeKind → NodeKind → Bool
is_unconnected links earlier kind = not (component links 1 == component links (length earlier + 1))

-- a node of this kind is a station
abbrev pub is_station : NodeKind → Bool
is_station Station = true
is_station Bridge = false

-- the node behind the earlier ones is a station that has no link or several
abbrev pub is_stray_station : List Link → List NodeKind → NodeKind → Bool
is_stray_station links earlier kind = is_station kind && not (length (neighbours links (length earlier + 1)) == 1)

-- the node behind the earlier ones has more links than a port number can count
abbrev pub has_too_many_links : List Link → List NodeKind → NodeKind → Bool
has_too_many_links links earlier kind = nat_lt 255 (length (neighbours links (length earlier + 1)))

-- the refusal of a number that a check finds, or what the later checks say
abbrev pub refused_or : (ℕ → TreeErr) → Option ℕ → Option TreeErr → Option TreeErr
refused_or error None later = later
refused_or error (Some n) later = Some (error n)

-- the first refusal of a node, where the links are a graph without a loop
unfoldable pub node_refusal : List NodeKind → List Link → Option TreeErr
node_refusal kinds links =
    refused_or (λ n. Unconnected (record { 0 = n })) (first_where (is_unconnected links) [] kinds)
    (refused_or (λ n. StationWithLinks (record { 0 = n })) (first_where (is_stray_station links) [] kinds)
    (refused_or (λ n. TooManyLinks (record { 0 = n })) (first_where (has_too_many_links links) [] kinds)
    None))

-- the first refusal, in the order of the variants
unfoldable pub refusal : List NodeKind → List Link → Option TreeErr
refusal kinds links =
    refused_or (λ n. UnknownNode (record { 0 = n })) (first_where (has_unknown_end (length kinds)) [] links)
    (refused_or (λ n. SelfLink (record { 0 = n })) (first_where is_self_link [] links)
    (refused_or (λ n. SecondLink (record { 0 = n })) (first_where is_second_link [] links)
    (refused_or (λ n. Loop (record { 0 = n })) (first_where closes_loop [] links)
    (node_refusal kinds links))))

-- The tables that a plan stands for: those of its network, of its streams with all their values,
-- and of its events.
use Rattle.std.specs.Prelude.{ℕ, pos, ◌-◌, Bool, true, false, List, [], ◌∷◌, map, drop, codes, slice_get, Option, Some, None}
use Rattle.std.specs.{Cmp.Lexicographic.slice_cmp, Int.w64, Int.to_be_bytes, Option.option_map_or, Ordering.nat_cmp, Ordering.match_ordering, Str.Lossy.utf8_lossy}
use Rattle.hex.specs.Hex.{encode_lower}
use Rattle.srp_base.specs.declared.{bandwidth.Class.Class, bandwidth.Class.TheVariants.A, bandwidth.Class.TheVariants.B, numbers.NodeNo.NodeNo}
use Rattle.srp_base.specs.declared.{bandwidth.Rate.Rate, bandwidth.Rate.TheVariants.M100, bandwidth.Rate.TheVariants.G1, bandwidth.Rate.TheVariants.G10, bandwidth.Rank.Rank, bandwidth.Rank.TheVariants.Emergency, bandwidth.Rank.TheVariants.Normal}
use Rattle.tree_topology.specs.declared.{graph.NodeKind.NodeKind, graph.NodeKind.TheVariants.Station, graph.NodeKind.TheVariants.Bridge}
use Rattle.toml.specs.Data.{Data, string, integer, boolean, array, table, Members, no_members, member, get_member}
use Rattle.toml.specs.View.{items_of}
use Rattle.topology_file.specs.Plan.{Plan as ScenarioPlan}
use Rattle.topology_file.specs.declared.{entries.NodeEntry.NodeEntry, entries.LinkEntry.LinkEntry, entries.DomainWord.DomainWord}
use Rattle.topology_file.specs.declared.entries.DomainWord.TheVariants.{Both, OnlyA, Nothing}
use Rattle.plan_file.specs.declared.{entries.PlanStream.PlanStream, events.PlanEvent.PlanEvent}
use Rattle.plan_file.specs.declared.events.PlanEvent.TheVariants as happens
use Rattle.plan_file.specs.{Events.events_of, Numbers.ids_of, Numbers.dests_of, Plan.NetworkPlan}

-- ---- members

-- the members with a value at a key, in the order of the keys
abbrev pub with_member : List ℕ → Data → Members → Members
with_member k d no_members = member k d no_members
with_member k d (member l e ms) =
    match_ordering (slice_cmp nat_cmp k l) (member k d (member l e ms)) (member l d ms) (member l e (with_member k d ms))

-- the members with a value at a key, where there is one
abbrev pub with_optional : List ℕ → Option Data → Members → Members
with_optional k None ms = ms
with_optional k (Some d) ms = with_member k d ms

-- the members with the value that others have at a key, where they have one
abbrev pub with_copy : List ℕ → Members → Members → Members
with_copy k from ms = with_optional k (get_member k from) ms

-- a name as a text, each of whose characters is one octet
abbrev pub name_data : List ℕ → Data
name_data name = string (utf8_lossy name)

-- a StreamID or a BridgeID as sixteen hexadecimal digits
abbrev pub id_data : ℕ → Data
id_data n = string (encode_lower (to_be_bytes w64 n))

-- an address as twelve
abbrev pub dest_data : ℕ → Data
dest_data n = string (encode_lower (drop 2 (to_be_bytes w64 n)))

abbrev pub number_data : ℕ → Data
number_data n = integer (pos n)

-- an array of tables, one for each of some things
abbrev pub tables_data : {A : Type 0} → (A → Members) → List A → Data
tables_data f xs = array (items_of (map (λ x. table (f x)) xs))

-- ---- the network

-- what a node is, by its word
abbrev pub kind_word : NodeKind → List ℕ
kind_word Station = codes "station"
kind_word Bridge = codes "bridge"

-- its SRP domain, by its word
abbrev pub domain_word : DomainWord → List ℕ
domain_word Both = codes "both"
domain_word OnlyA = codes "a"
domain_word Nothing = codes "none"

-- with its domain, where there are domains
abbrev pub with_domain : Bool → DomainWord → Members → Members
with_domain true domain ms = with_member (codes "domain") (string (domain_word domain)) ms
with_domain false domain ms = ms

abbrev pub node_members : Bool → NodeEntry → Members
node_members domains x =
    with_domain domains x.domain
    (with_member (codes "id") (id_data x.id.0)
    (with_member (codes "kind") (string (kind_word x.kind))
    (with_member (codes "name") (name_data x.name) no_members)))

-- a rate in Mb/s
abbrev pub mbit_of : Rate → ℕ
mbit_of M100 = 100
mbit_of G1 = 1000
mbit_of G10 = 10000

-- the name of the node of a number, from 1 on
abbrev pub node_name : List NodeEntry → NodeNo → List ℕ
node_name nodes x = option_map_or (λ node. node.name) (slice_get nodes (x.0 - 1)) []

abbrev pub link_members : List NodeEntry → LinkEntry → Members
link_members nodes l =
    with_member (codes "latency") (number_data l.latency)
    (with_member (codes "delta_b") (number_data l.delta_b)
    (with_member (codes "delta_a") (number_data l.delta_a)
    (with_member (codes "rate") (number_data (mbit_of l.rate))
    (with_member (codes "b") (name_data (node_name nodes l.b))
    (with_member (codes "a") (name_data (node_name nodes l.a)) no_members)))))

-- ---- the streams

-- the priority of a class: 3 of A, 2 of B (IEEE Std 802.1Q-2018, 34.5)
abbrev pub priority_of : Class → ℕ
priority_of A = 3
priority_of B = 2

-- a rank by its number
abbrev pub rank_number : Rank → ℕ
rank_number Emergency = 0
rank_number Normal = 1

-- who talks, and in what
abbrev pub head_members : List NodeEntry → PlanStream → ℕ → ℕ → Members
head_members nodes s id dest =
    with_member (codes "dest") (dest_data dest)
    (with_member (codes "talker") (name_data (node_name nodes s.ends.talker))
    (with_member (codes "id") (id_data id)
    (with_member (codes "name") (name_data s.name) no_members)))

-- a stream of this StreamID and this address
abbrev pub stream_members : List NodeEntry → PlanStream → ℕ → ℕ → Members
stream_members nodes s id dest =
    with_member (codes "rank") (number_data (rank_number s.values.rank))
    (with_member (codes "priority") (number_data (priority_of s.values.class))
    (with_member (codes "vid") (number_data s.values.vid)
    (with_member (codes "frames") (number_data s.values.frames)
    (with_member (codes "octets") (number_data s.values.octets) (head_members nodes s id dest)))))

-- streams of these StreamIDs and addresses
abbrev pub streams_members : List NodeEntry → List PlanStream → List ℕ → List ℕ → List Members
streams_members nodes (s ∷ ss) (id ∷ ids) (dest ∷ dests) =
    stream_members nodes s id dest ∷ streams_members nodes ss ids dests
streams_members nodes _ _ _ = []

-- ---- the events

-- the name of the stream of a number, from 1 on
abbrev pub stream_name : List PlanStream → ℕ → List ℕ
stream_name streams n = option_map_or (λ s. s.name) (slice_get streams (n - 1)) []

-- an event of a kind at a tick
abbrev pub happening : List ℕ → ℕ → Members
happening kind tick =
    with_member (codes "kind") (string kind) (with_member (codes "tick") (number_data tick) no_members)

abbrev pub event_members : List NodeEntry → List PlanStream → PlanEvent → Members
event_members nodes streams (happens.Declare station vid) =
    with_member (codes "vid") (number_data vid)
    (with_member (codes "station") (name_data (node_name nodes station)) (happening (codes "declare") 0))
event_members nodes streams (happens.Talk stream) =
    with_member (codes "stream") (name_data (stream_name streams stream)) (happening (codes "talk") 10)
event_members nodes streams (happens.Listen station stream) =
    with_member (codes "stream") (name_data (stream_name streams stream))
    (with_member (codes "station") (name_data (node_name nodes station)) (happening (codes "listen") 20))

-- ---- the file

-- how long a plan runs, in cs
abbrev pub plan_ticks : ℕ
plan_ticks = 1000

-- the table of a plan's network alone: its nodes, its links and its domains, in a run of 1,000
-- ticks in which nothing happens
abbrev pub network_members : Members → Members
network_members ms =
    with_copy (codes "domains") ms
    (with_copy (codes "link") ms
    (with_copy (codes "node") ms
    (with_member (codes "ticks") (number_data plan_ticks) no_members)))

-- the table of a network's nodes and links, with a run's length
abbrev pub network_table : ScenarioPlan → Members
network_table n =
    with_member (codes "link") (tables_data (link_members n.nodes) n.links)
    (with_member (codes "node") (tables_data (node_members n.domains) n.nodes)
    (with_member (codes "domains") (boolean n.domains)
    (with_member (codes "ticks") (number_data plan_ticks) no_members)))

-- with all streams
abbrev pub with_streams : List NodeEntry → List PlanStream → Members → Members
with_streams nodes streams ms =
    with_member (codes "stream") (tables_data (λ t. t) (streams_members nodes streams (ids_of streams) (dests_of streams))) ms

-- with all that happens
abbrev pub with_events : List NodeEntry → List PlanStream → Members → Members
with_events nodes streams ms =
    with_member (codes "event") (tables_data (event_members nodes streams) (events_of nodes streams)) ms

-- the scenario that a plan stands for, as a table
abbrev pub expanded : NetworkPlan → Members
expanded p = with_events p.network.nodes p.streams (with_streams p.network.nodes p.streams (network_table p.network))

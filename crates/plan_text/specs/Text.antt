-- A scenario as the text of a file: its own keys, and then a table for each entry.
use Rattle.std.specs.Prelude.{ℕ, ◌+◌, ◌-◌, ◌==◌, if◌then◌else◌, nat_lt, ◌/◌, ◌%◌, Bool, true, false, List, [], ◌∷◌, ◌++◌, codes, flat_map, slice_get}
use Rattle.std.specs.Option.{option_map_or}
use Rattle.srp_base.specs.{Hexadecimal.hex16_text, Hexadecimal.hex12_text, Text.whole_of}
use Rattle.srp_base.specs.declared.{numbers.NodeNo.NodeNo, mrp.App.App, mrp.App.TheVariants.Mvrp, mrp.App.TheVariants.Msrp}
use Rattle.srp_base.specs.declared.{bandwidth.Rate.Rate, bandwidth.Rate.TheVariants.M100, bandwidth.Rate.TheVariants.G1, bandwidth.Rate.TheVariants.G10, bandwidth.Rank.Rank, bandwidth.Rank.TheVariants.Emergency, bandwidth.Rank.TheVariants.Normal}
use Rattle.tree_topology.specs.declared.{graph.NodeKind.NodeKind, graph.NodeKind.TheVariants.Station, graph.NodeKind.TheVariants.Bridge}
use Rattle.topology_file.specs.Plan.{Plan}
use Rattle.topology_file.specs.declared.{entries.NodeEntry.NodeEntry, entries.LinkEntry.LinkEntry, entries.StreamEntry.StreamEntry, entries.EventEntry.EventEntry, entries.FrameEntry.FrameEntry, entries.DomainWord.DomainWord, entries.EventKind.EventKind, entries.FrameRoute.FrameRoute}
use Rattle.topology_file.specs.declared.entries.DomainWord.TheVariants.{Both, OnlyA, Nothing}
use Rattle.topology_file.specs.declared.entries.EventKind.TheVariants.{Declare, Withdraw, Talk, Hush, Listen, Unlisten, Lose, Repeat, Forge}
use Rattle.topology_file.specs.declared.entries.FrameRoute.TheVariants.{OfStream, Between}
use Rattle.report_words.specs.Names.{name_of}
use Rattle.plan_text.specs.Lines.{number_line, text_line, truth_line}

-- ---- the scenario itself

unfoldable pub head_lines : Plan → List ℕ
head_lines plan = whole_of (
    number_line (codes "ticks") plan.ticks ∷ number_line (codes "leave_time") plan.leave_time.0
    ∷ truth_line (codes "periodic") plan.periodic ∷ truth_line (codes "domains") plan.domains ∷ [])

-- ---- nodes

-- what a node is, by its word
abbrev pub kind_word : NodeKind → List ℕ
kind_word Station = codes "station"
kind_word Bridge = codes "bridge"

-- its SRP domain, by its word
abbrev pub domain_word : DomainWord → List ℕ
domain_word Both = codes "both"
domain_word OnlyA = codes "a"
domain_word Nothing = codes "none"

-- the key of its domain, where the scenario has domains
abbrev pub domain_line : Bool → DomainWord → List ℕ
domain_line true domain = text_line (codes "domain") (domain_word domain)
domain_line false domain = []

unfoldable pub node_table : Bool → NodeEntry → List ℕ
node_table domains node = whole_of (
    codes "\n[[node]]\n" ∷ text_line (codes "name") node.name ∷ text_line (codes "kind") (kind_word node.kind)
    ∷ text_line (codes "id") (hex16_text node.id.0) ∷ domain_line domains node.domain ∷ [])

-- ---- links

-- a rate in Mb/s
abbrev pub mbit_of : Rate → ℕ
mbit_of M100 = 100
mbit_of G1 = 1000
mbit_of G10 = 10000

-- its values
unfoldable pub link_values : LinkEntry → List ℕ
link_values link = whole_of (
    number_line (codes "rate") (mbit_of link.rate) ∷ number_line (codes "delta_a") link.delta_a
    ∷ number_line (codes "delta_b") link.delta_b ∷ number_line (codes "latency") link.latency ∷ [])

unfoldable pub link_table : List NodeEntry → LinkEntry → List ℕ
link_table nodes link = whole_of (
    codes "\n[[link]]\n" ∷ text_line (codes "a") (name_of nodes link.a) ∷ text_line (codes "b") (name_of nodes link.b)
    ∷ link_values link ∷ [])

-- ---- streams

-- a rank by its number
abbrev pub rank_number : Rank → ℕ
rank_number Emergency = 0
rank_number Normal = 1

-- the name of the stream of a number, from 1 on; that of a number without an entry is empty
abbrev pub stream_name : List StreamEntry → ℕ → List ℕ
stream_name streams k = if k == 0 then [] else option_map_or (λ stream. stream.name) (slice_get streams (k - 1)) []

-- its values
unfoldable pub stream_values : StreamEntry → List ℕ
stream_values stream = whole_of (
    number_line (codes "octets") stream.octets ∷ number_line (codes "frames") stream.frames
    ∷ number_line (codes "vid") stream.vid ∷ number_line (codes "priority") stream.priority
    ∷ number_line (codes "rank") (rank_number stream.rank) ∷ [])

-- where it starts, and where it goes
unfoldable pub stream_ends : List NodeEntry → StreamEntry → List ℕ
stream_ends nodes stream = whole_of (
    text_line (codes "talker") (name_of nodes stream.talker) ∷ text_line (codes "dest") (hex12_text stream.dest) ∷ [])

-- how its table begins
unfoldable pub stream_head : StreamEntry → List ℕ
stream_head stream = whole_of (
    codes "\n[[stream]]\n" ∷ text_line (codes "name") stream.name ∷ text_line (codes "id") (hex16_text stream.id.0) ∷ [])

unfoldable pub stream_table : List NodeEntry → StreamEntry → List ℕ
stream_table nodes stream = whole_of (stream_head stream ∷ stream_ends nodes stream ∷ stream_values stream ∷ [])

-- ---- events

-- an application of MRP by its word
abbrev pub app_word : App → List ℕ
app_word Mvrp = codes "mvrp"
app_word Msrp = codes "msrp"

-- a hexadecimal digit, and an octet as two of them
abbrev pub hex_digit : ℕ → ℕ
hex_digit n = if nat_lt n 10 then 48 + n else 87 + n

abbrev pub hex_pair : ℕ → List ℕ
hex_pair octet = hex_digit (octet / 16) ∷ hex_digit (octet % 16) ∷ []

-- the key of a PDU's octets
unfoldable pub octets_line : List ℕ → List ℕ
octets_line octets = whole_of (codes "octets = \"" ∷ flat_map hex_pair octets ∷ codes "\"\n" ∷ [])

-- what a station's application does about a VID
unfoldable pub at_station : List NodeEntry → List ℕ → NodeNo → ℕ → List ℕ
at_station nodes kind station vid = whole_of (
    text_line (codes "kind") kind ∷ text_line (codes "station") (name_of nodes station) ∷ number_line (codes "vid") vid ∷ [])

-- what a talker does
unfoldable pub of_stream : List StreamEntry → List ℕ → ℕ → List ℕ
of_stream streams kind stream = whole_of (
    text_line (codes "kind") kind ∷ text_line (codes "stream") (stream_name streams stream) ∷ [])

-- what a listener does
unfoldable pub of_both : List NodeEntry → List StreamEntry → List ℕ → NodeNo → ℕ → List ℕ
of_both nodes streams kind station stream = whole_of (
    text_line (codes "kind") kind ∷ text_line (codes "station") (name_of nodes station)
    ∷ text_line (codes "stream") (stream_name streams stream) ∷ [])

-- what becomes of a PDU between two nodes
unfoldable pub between : List NodeEntry → List ℕ → NodeNo → NodeNo → ℕ → List ℕ
between nodes kind from to index = whole_of (
    text_line (codes "kind") kind ∷ text_line (codes "from") (name_of nodes from) ∷ text_line (codes "to") (name_of nodes to)
    ∷ number_line (codes "index") index ∷ [])

-- the further keys of one that nobody sent
unfoldable pub forged_lines : App → List ℕ → List ℕ
forged_lines app octets = whole_of (text_line (codes "app") (app_word app) ∷ octets_line octets ∷ [])

-- what happens
unfoldable pub happening : List NodeEntry → List StreamEntry → EventKind → List ℕ
happening nodes streams (Declare station vid) = at_station nodes (codes "declare") station vid
happening nodes streams (Withdraw station vid) = at_station nodes (codes "withdraw") station vid
happening nodes streams (Talk stream) = of_stream streams (codes "talk") stream
happening nodes streams (Hush stream) = of_stream streams (codes "hush") stream
happening nodes streams (Listen station stream) = of_both nodes streams (codes "listen") station stream
happening nodes streams (Unlisten station stream) = of_both nodes streams (codes "unlisten") station stream
happening nodes streams (Lose from to index) = between nodes (codes "lose") from to index
happening nodes streams (Repeat from to index) = between nodes (codes "repeat") from to index
happening nodes streams (Forge from to index app octets) = between nodes (codes "forge") from to index ++ forged_lines app octets

unfoldable pub event_table : List NodeEntry → List StreamEntry → EventEntry → List ℕ
event_table nodes streams event = whole_of (
    codes "\n[[event]]\n" ∷ number_line (codes "tick") event.tick ∷ happening nodes streams event.kind ∷ [])

-- ---- frames

-- where a frame goes
unfoldable pub route_lines : List NodeEntry → List StreamEntry → FrameRoute → List ℕ
route_lines nodes streams (OfStream stream) = text_line (codes "stream") (stream_name streams stream)
route_lines nodes streams (Between from to vid) = whole_of (
    text_line (codes "from") (name_of nodes from) ∷ text_line (codes "to") (name_of nodes to) ∷ number_line (codes "vid") vid ∷ [])

-- its data and its copies
unfoldable pub frame_values : FrameEntry → List ℕ
frame_values frame = whole_of (
    number_line (codes "octets") frame.octets ∷ number_line (codes "at") frame.at
    ∷ number_line (codes "count") frame.count ∷ number_line (codes "every") frame.every ∷ [])

unfoldable pub frame_table : List NodeEntry → List StreamEntry → FrameEntry → List ℕ
frame_table nodes streams frame = whole_of (
    codes "\n[[frame]]\n" ∷ route_lines nodes streams frame.route ∷ frame_values frame ∷ [])

-- ---- the file

-- the tables of the network
unfoldable pub network_tables : Plan → List ℕ
network_tables plan = flat_map (node_table plan.domains) plan.nodes ++ flat_map (link_table plan.nodes) plan.links

-- and those of what happens in it
unfoldable pub traffic_tables : Plan → List ℕ
traffic_tables plan = whole_of (
    flat_map (stream_table plan.nodes) plan.streams ∷ flat_map (event_table plan.nodes plan.streams) plan.events
    ∷ flat_map (frame_table plan.nodes plan.streams) plan.frames ∷ [])

-- a scenario as a file
abbrev pub file_text : Plan → List ℕ
file_text plan = whole_of (head_lines plan ∷ network_tables plan ∷ traffic_tables plan ∷ [])

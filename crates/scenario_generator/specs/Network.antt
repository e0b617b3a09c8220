-- The network of a number: how large it is, its nodes and its links.
use Rattle.std.specs.Prelude.{ℕ, ◌+◌, ◌-◌, List, ◌++◌, map, codes}
use Rattle.std.specs.{List.range_with_len, Fmt.decimal}
use Rattle.srp_base.specs.declared.bandwidth.Rate.TheVariants.{M100}
use Rattle.tree_topology.specs.declared.graph.NodeKind.TheVariants.{Station, Bridge}
use Rattle.topology_file.specs.declared.{entries.DomainWord.TheVariants.Both, entries.NodeEntry.NodeEntry, entries.LinkEntry.LinkEntry}
use Rattle.scenario_generator.specs.Draws.{draw}

-- ---- sizes: the first three draws

-- 2 to 8 bridges
abbrev pub bridge_count : ℕ → ℕ
bridge_count number = 2 + draw number 0 7

-- 4 to 9 stations
abbrev pub station_count : ℕ → ℕ
station_count number = 4 + draw number 1 6

-- 2 to 16 streams
abbrev pub stream_count : ℕ → ℕ
stream_count number = 2 + draw number 2 15

-- a link for each bridge but the first, and for each station
abbrev pub link_count : ℕ → ℕ
link_count number = bridge_count number - 1 + station_count number

-- ---- nodes: the bridges b1, b2 and so on, then the stations s1, s2 and so on

-- a word with a number behind it
abbrev pub numbered_name : List ℕ → ℕ → List ℕ
numbered_name word n = word ++ decimal n

-- bridge n, which is node n
abbrev pub bridge_entry : ℕ → NodeEntry
bridge_entry n = record { name = numbered_name (codes "b") n; kind = Bridge; id = record { 0 = n }; domain = Both }

-- the node that station n is, behind so many bridges
abbrev pub station_node : ℕ → ℕ → ℕ
station_node bridges n = bridges + n

-- station n
abbrev pub station_entry : ℕ → ℕ → NodeEntry
station_entry bridges n =
    record { name = numbered_name (codes "s") n; kind = Station; id = record { 0 = station_node bridges n }; domain = Both }

-- the nodes of so many bridges and stations
abbrev pub entries_of_nodes : ℕ → ℕ → List NodeEntry
entries_of_nodes bridges stations =
    map bridge_entry (range_with_len 1 bridges) ++ map (station_entry bridges) (range_with_len 1 stations)

-- the nodes of a number
abbrev pub drawn_nodes : ℕ → List NodeEntry
drawn_nodes number = entries_of_nodes (bridge_count number) (station_count number)

-- ---- links: a draw each, behind those of the sizes

-- a link of 100 Mb/s with 75 percent for class A, none for class B and 500 ns
abbrev pub link_entry : ℕ → ℕ → LinkEntry
link_entry a b = record {
  a = record { 0 = a };
  b = record { 0 = b };
  rate = M100;
  delta_a = 75;
  delta_b = 0;
  latency = 500;
}

-- the draw for link n, from 1
abbrev pub link_draw : ℕ → ℕ → ℕ → ℕ
link_draw number n m = draw number (2 + n) m

-- bridge n, from the second on, is joined with one of the bridges before it
abbrev pub bridge_link : ℕ → ℕ → LinkEntry
bridge_link number n = link_entry n (1 + link_draw number (n - 1) (n - 1))

-- station n is joined with one of the bridges
abbrev pub station_link : ℕ → ℕ → ℕ → LinkEntry
station_link number bridges n =
    link_entry (station_node bridges n) (1 + link_draw number (bridges - 1 + n) bridges)

-- the links of so many bridges and stations
abbrev pub entries_of_links : ℕ → ℕ → ℕ → List LinkEntry
entries_of_links number bridges stations =
    map (bridge_link number) (range_with_len 2 (bridges - 1))
    ++ map (station_link number bridges) (range_with_len 1 stations)

-- the links of a number
abbrev pub drawn_links : ℕ → List LinkEntry
drawn_links number = entries_of_links number (bridge_count number) (station_count number)

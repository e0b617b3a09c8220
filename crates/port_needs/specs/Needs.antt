-- The text of what is needed so that nothing wished is refused for want of bandwidth.
use Rattle.std.specs.Prelude.{ℕ, ◌+◌, ◌&&◌, if◌then◌else◌, List, [], ◌∷◌, ◌++◌, codes, flat_map, Option, Some, None}
use Rattle.std.specs.Option.{option_map_or}
use Rattle.srp_base.specs.declared.{bandwidth.Class.Class, numbers.EgressPort.EgressPort, numbers.NodeNo.NodeNo}
use Rattle.stream_importance.specs.declared.{entry.Want.Want}
use Rattle.tree_topology.specs.Topology.{link_ports}
use Rattle.topology_file.specs.declared.{entries.LinkEntry.LinkEntry, entries.StreamEntry.StreamEntry}
use Rattle.topology_file.specs.Plan.{Plan}
use Rattle.scenario_bounds.specs.Caps.{caps_of_link, link_at}
use Rattle.report_words.specs.Names.{port_name}
use Rattle.port_needs.specs.declared.{demand.Demand.Demand, demand.Wish.Wish}
use Rattle.port_needs.specs.{Domains.is_edge, Demands.leads_to_any, Demands.class_of_entry, Demands.code_of_entry, Demands.stations_of, Demands.demands, Demands.wants_among, Shares.is_enough, Shares.least_rate, Shares.shares_for, Shares.slope_of_a, Shares.slope_of_all, Lines.needs_start, Lines.never_line, Lines.rate_words, Lines.shares_words}

-- ---- the ports that are too small

-- the line of a port on this link for which so much is wished
abbrev pub short_line : List ℕ → LinkEntry → ℕ → ℕ → List ℕ
short_line port link class_a both =
    needs_start port (caps_of_link link) class_a both
    ++ (shares_words (shares_for link.rate class_a both)
    ++ rate_words (least_rate link.delta_a link.delta_b class_a both))

-- the same, where the port is too small
abbrev pub needs_line : List ℕ → LinkEntry → ℕ → ℕ → List ℕ
needs_line port link class_a both =
    if is_enough (caps_of_link link) class_a both then [] else short_line port link class_a both

-- by what is wanted there
abbrev pub needs_on_link : List ℕ → List Want → LinkEntry → List ℕ
needs_on_link port wants link = needs_line port link (slope_of_a wants) (slope_of_all wants)

-- that of a port
abbrev pub port_needs : Plan → List Demand → EgressPort → List ℕ
port_needs plan asked p =
    option_map_or (needs_on_link (port_name plan.nodes plan.tree.links p) (wants_among plan.tree asked p))
    (link_at plan p) []

-- those of all ports, link by link, end `a` first
abbrev pub needs_lines : Plan → List Wish → List ℕ
needs_lines plan wishes = flat_map (port_needs plan (demands plan wishes)) (link_ports plan.tree)

-- that nothing is needed, where there is no line
abbrev pub or_nothing : List ℕ → List ℕ
or_nothing [] = codes "needs nothing\n"
or_nothing (c ∷ cs) = c ∷ cs

-- ---- the streams that no link helps

-- a station's only port
abbrev pub first_port : NodeNo → EgressPort
first_port x = record { node = x; port = record { 0 = 1 } }

-- the line of a stream that every port refuses, at the port of its talker, where it is wished
abbrev pub refused_line : Plan → StreamEntry → ℕ → List NodeNo → List ℕ
refused_line plan e code [] = []
refused_line plan e code (y ∷ stations) =
    never_line e.name code (port_name plan.nodes plan.tree.links (first_port e.talker))

-- the line of a stream at a port, where that is at the boundary of the domain of the stream's class
-- and leads to a station that wishes it
abbrev pub edge_line : Plan → StreamEntry → Class → List NodeNo → EgressPort → List ℕ
edge_line plan e class stations p =
    if is_edge plan class p && leads_to_any plan.tree p e.talker.0 stations
    then never_line e.name 8 (port_name plan.nodes plan.tree.links p)
    else []

-- those of a stream of a class
abbrev pub edge_lines : Plan → List EgressPort → StreamEntry → List NodeNo → Option Class → List ℕ
edge_lines plan ports e stations None = []
edge_lines plan ports e stations (Some class) = flat_map (edge_line plan e class stations) ports

-- those of a stream, by the code with which every port refuses it
abbrev pub never_by : Plan → List EgressPort → StreamEntry → List NodeNo → Option ℕ → List ℕ
never_by plan ports e stations (Some code) = refused_line plan e code stations
never_by plan ports e stations None = edge_lines plan ports e stations (class_of_entry e)

-- those of streams, the first of which has this number
abbrev pub never_from : Plan → List EgressPort → List Wish → ℕ → List StreamEntry → List ℕ
never_from plan ports wishes n [] = []
never_from plan ports wishes n (e ∷ es) =
    never_by plan ports e (stations_of plan.tree wishes n) (code_of_entry e)
    ++ never_from plan ports wishes (n + 1) es

-- those of a scenario's streams, in the order of the file
abbrev pub never_lines : Plan → List Wish → List ℕ
never_lines plan wishes = never_from plan (link_ports plan.tree) wishes 1 plan.streams

-- ---- the text

-- which ports are too small for all that is wished, and which wishes no link helps
abbrev pub needs_text : Plan → List Wish → List ℕ
needs_text plan wishes = or_nothing (needs_lines plan wishes) ++ never_lines plan wishes

-- What is printed of a run: its length, each port with what it sent, what is registered there and
-- which streams are booked, what each station hears of the streams that it listens to, what became
-- of the frames, and how the network is at the end.
use Rattle.std.specs.Prelude.{ℕ, Bool, ◌+◌, if◌then◌else◌, List, [], ◌∷◌, ◌++◌, flat_map}
use Rattle.std.specs.Option.{option_map_or}
use Rattle.srp_base.specs.Text.{whole_of}
use Rattle.srp_base.specs.declared.{numbers.EgressPort.EgressPort, numbers.NodeNo.NodeNo}
use Rattle.tree_topology.specs.declared.{graph.NodeKind.NodeKind, graph.NodeKind.TheVariants.Station, graph.NodeKind.TheVariants.Bridge}
use Rattle.tree_topology.specs.Topology.{link_ports}
use Rattle.topology_file.specs.Plan.{Plan}
use Rattle.topology_file.specs.declared.entries.StreamEntry.{StreamEntry}
use Rattle.frame_flow.specs.declared.result.PortFlow.{PortFlow}
use Rattle.attribute_propagation.specs.Ports.{place_of}
use Rattle.msrp.specs.Side.{has_listen, heard_of}
use Rattle.node_core.specs.State.{NodeState, registered_keys, registrar_at, content_at, bookings_at}
use Rattle.node_core.specs.declared.{types.NodeKey.NodeKey, types.NodeKey.TheVariants.Vlan, types.NodeKey.TheVariants.Srp}
use Rattle.world_core.specs.declared.journal.Tick.{Tick}
use Rattle.world_core.specs.World.{WorldState, node_at, is_quiet, is_in_step}
use Rattle.report_words.specs.{Lines.ticks_line, Lines.port_line, Lines.end_lines, Names.name_of, Names.port_name}
use Rattle.srp_report.specs.{Counts.replies_of, Counts.tally_of, FrameLines.flow_parts, Lines.vlan_line, Lines.srp_line, Lines.booked_line, Lines.heard_line}

-- ---- what is registered and booked at a place of a node

-- the line of an attribute there, by its Registrar and what is registered of it
abbrev pub key_line : Bool → List ℕ → ℕ → NodeState → NodeKey → List ℕ
key_line domains port at s (Vlan vid) = vlan_line port vid (registrar_at (Vlan vid) at s)
key_line domains port at s (Srp key) = srp_line domains port key (content_at key at s) (registrar_at (Srp key) at s)

-- VIDs, then Talkers, then Listeners, then Domains where the scenario has SRP domains, each
-- ascending
abbrev pub registered_lines : Bool → List ℕ → ℕ → NodeState → List ℕ
registered_lines domains port at s = flat_map (key_line domains port at s) (registered_keys at s)

-- ascending by StreamID
abbrev pub booked_lines : List ℕ → ℕ → NodeState → List ℕ
booked_lines port at s = flat_map (booked_line port) (bookings_at at s)

-- the lines of a place of a node: of what is registered there, and then of what is booked there
abbrev pub place_lines : Bool → List ℕ → ℕ → NodeState → List ℕ
place_lines domains port at s = registered_lines domains port at s ++ booked_lines port at s

-- ---- the ports, link by link, end `a` first

-- the lines of a port
abbrev pub port_part : Plan → WorldState → List Tick → EgressPort → List ℕ
port_part plan w ticks p =
    let port = port_name plan.nodes w.tree.links p in
    port_line port (tally_of (replies_of p ticks))
    ++ option_map_or (place_lines plan.domains port (place_of p.port)) (node_at p.node w) []

-- those of all ports
abbrev pub port_parts : Plan → WorldState → List Tick → List ℕ
port_parts plan w ticks = flat_map (port_part plan w ticks) (link_ports w.tree)

-- ---- what the stations hear

-- the line of a stream at a node of this name, where its application listens to the stream
abbrev pub stream_heard : List ℕ → NodeState → StreamEntry → List ℕ
stream_heard name s e =
    if has_listen e.id s.streams then heard_line name e.id (heard_of e.id s.streams) else []

-- the streams in file order, at a station
abbrev pub heard_by_kind : NodeKind → List ℕ → NodeState → List StreamEntry → List ℕ
heard_by_kind Bridge name s streams = []
heard_by_kind Station name s streams = flat_map (stream_heard name s) streams

-- the lines of what a node hears, by its number; a bridge has none
abbrev pub node_heard : Plan → NodeNo → NodeState → List ℕ
node_heard plan x s = heard_by_kind s.kind (name_of plan.nodes x) s plan.streams

-- those of some nodes, of which the first has number n
abbrev pub nodes_heard : Plan → ℕ → List NodeState → List ℕ
nodes_heard plan n [] = []
nodes_heard plan n (s ∷ nodes) = node_heard plan (record { 0 = n }) s ++ nodes_heard plan (n + 1) nodes

-- ---- the report

-- what a report has before the lines of the frames: the ticks, the ports, and what the stations
-- hear
abbrev pub before_frames : Plan → WorldState → List Tick → List ℕ
before_frames plan w ticks = whole_of (ticks_line plan.ticks ∷ port_parts plan w ticks ∷ nodes_heard plan 1 w.nodes ∷ [])

-- what a report has behind the lines of the frames: whether the network is quiet and in step at the
-- end
abbrev pub behind_frames : WorldState → List ℕ
behind_frames w = end_lines (is_quiet w) (is_in_step w)

-- of a scenario, the network at the end of its run, the ticks of the run, and the flow of its
-- frames
abbrev pub report_text : Plan → WorldState → List Tick → List PortFlow → List ℕ
report_text plan w ticks flows =
    whole_of (before_frames plan w ticks ∷ flow_parts plan w.tree.links flows ∷ behind_frames w ∷ [])

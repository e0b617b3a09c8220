-- What is printed of a run in short: the sizes of its scenario, what all ports sent together, how
-- many bookings there are and how often Ready is heard at its end, and how the network is then.
use Rattle.std.specs.Prelude.{ℕ, Bool, true, false, ◌&&◌, List, [], ◌∷◌, codes, length, count_by, sum_by, flat_map, Option, Some}
use Rattle.std.specs.{Option.option_map_or, Fmt.decimal}
use Rattle.srp_base.specs.Text.{whole_of}
use Rattle.srp_base.specs.declared.{numbers.EgressPort.EgressPort, streams.ListenerKind.ListenerKind, streams.ListenerKind.TheVariants.Ready}
use Rattle.tree_topology.specs.declared.{graph.NodeKind.NodeKind, graph.NodeKind.TheVariants.Station, graph.NodeKind.TheVariants.Bridge}
use Rattle.tree_topology.specs.Topology.{Topology, link_ports}
use Rattle.topology_file.specs.Plan.{Plan}
use Rattle.topology_file.specs.declared.entries.StreamEntry.{StreamEntry}
use Rattle.attribute_propagation.specs.Ports.{place_of}
use Rattle.msrp.specs.Side.{has_listen, heard_of}
use Rattle.node_core.specs.State.{NodeState, bookings_at}
use Rattle.node_core.specs.declared.types.StepReply.{StepReply}
use Rattle.world_core.specs.declared.journal.Tick.{Tick}
use Rattle.world_core.specs.World.{WorldState, node_at}
use Rattle.report_words.specs.declared.tally.Tally.{Tally}
use Rattle.report_words.specs.Tally.{count_of}
use Rattle.srp_report.specs.{Counts.replies_of, Counts.tally_of, Report.behind_frames}

-- ---- what the ports sent

-- what the steps of some ports answered, port by port
abbrev pub replies_of_ports : List EgressPort → List Tick → List StepReply
replies_of_ports ports ticks = flat_map (λ p. replies_of p ticks) ports

-- what the ports of all links sent and discarded together
abbrev pub total_of : Topology → List Tick → Tally
total_of tree ticks = tally_of (replies_of_ports (link_ports tree) ticks)

-- ---- what is booked

-- how many streams are booked at a port
abbrev pub booked_at : WorldState → EgressPort → ℕ
booked_at w p = option_map_or (λ s. length (bookings_at (place_of p.port) s)) (node_at p.node w) 0

-- at the ports of all links together: a stream counts at each port that has booked it
abbrev pub booked_count : WorldState → ℕ
booked_count w = count_of (sum_by (booked_at w) (link_ports w.tree))

-- ---- who hears Ready

-- whether what is heard is Ready
abbrev pub is_ready : Option ListenerKind → Bool
is_ready (Some Ready) = true
is_ready _ = false

-- whether a node's application listens to a stream and hears Ready
abbrev pub hears_ready : NodeState → StreamEntry → Bool
hears_ready s e = has_listen e.id s.streams && is_ready (heard_of e.id s.streams)

-- of how many of these streams a node of this kind hears Ready; a bridge hears nothing
abbrev pub ready_by_kind : NodeKind → List StreamEntry → NodeState → ℕ
ready_by_kind Bridge streams s = 0
ready_by_kind Station streams s = count_by (hears_ready s) streams

-- of how many a node does
abbrev pub ready_at : List StreamEntry → NodeState → ℕ
ready_at streams s = ready_by_kind s.kind streams s

-- the pairs of a station and a stream of which it hears Ready
abbrev pub ready_count : Plan → WorldState → ℕ
ready_count plan w = count_of (sum_by (ready_at plan.streams) w.nodes)

-- ---- the lines

-- the sizes of the scenario, a line each
abbrev pub size_lines : Plan → List ℕ
size_lines plan = whole_of (
    codes "nodes " ∷ decimal (length plan.nodes) ∷ codes "\nlinks " ∷ decimal (length plan.links)
    ∷ codes "\nstreams " ∷ decimal (length plan.streams) ∷ codes "\nticks " ∷ decimal plan.ticks ∷ codes "\n" ∷ [])

-- how many PDUs went out, and their octets
abbrev pub total_lines : Tally → List ℕ
total_lines tally = whole_of (
    codes "sent " ∷ decimal tally.sent ∷ codes "\noctets " ∷ decimal tally.octets ∷ codes "\n" ∷ [])

-- how many bookings there are, and how often Ready is heard
abbrev pub count_lines : ℕ → ℕ → List ℕ
count_lines booked ready = whole_of (
    codes "booked " ∷ decimal booked ∷ codes "\nready " ∷ decimal ready ∷ codes "\n" ∷ [])

-- ---- the summary

-- of a scenario, the network at the end of its run, and the ticks of the run
abbrev pub summary_text : Plan → WorldState → List Tick → List ℕ
summary_text plan w ticks = whole_of (
    size_lines plan ∷ total_lines (total_of w.tree ticks) ∷ count_lines (booked_count w) (ready_count plan w) ∷ behind_frames w ∷ [])

-- How the tallies of all ports are kept while the journal is read: a row for each node and a tally
-- for each port, at the places of their numbers. No public contract names these words.
use Rattle.std.specs.Prelude.{◌≡◌, ℕ, ◌+◌, List, fold, replicate, Option, Some, slice_get, slice_set}
use Rattle.std.specs.Option.{option_map_or, option_and_then}
use Rattle.srp_base.specs.declared.numbers.EgressPort.{EgressPort}
use Rattle.tree_topology.specs.Topology.{Topology, HasPort}
use Rattle.node_core.specs.declared.{types.NodeStep.NodeStep, types.StepReply.StepReply}
use Rattle.world_core.specs.declared.{journal.NodeSteps.NodeSteps, journal.Tick.Tick}
use Rattle.report_words.specs.declared.tally.Tally.{Tally}
use Rattle.report_words.specs.Tally.{with_answer, zero_tally}
use Rattle.srp_report.specs.Counts.{octets_sent, is_discarded, replies_of, tally_of}

-- no port of a node has sent or discarded anything: a tally for each number of a port, 0 to 255
abbrev pub zero_row : List Tally
zero_row = replicate 256 zero_tally

-- no port of the nodes up to a number has sent or discarded anything: a row for each number from 0
-- on
abbrev pub zero_rows : ℕ → List (List Tally)
zero_rows last = replicate (last + 1) zero_row

-- the tally with one answer more
abbrev pub with_reply : Tally → StepReply → Tally
with_reply t reply = with_answer octets_sent is_discarded t reply

-- the tallies of a node's ports with one step more
abbrev pub step_counted : List Tally → NodeStep → List Tally
step_counted row st = option_map_or (λ t. slice_set row st.port.0 (with_reply t st.reply)) (slice_get row st.port.0) row

-- the tallies of a node's ports with all its steps in a tick
abbrev pub steps_counted : List Tally → List NodeStep → List Tally
steps_counted row made = fold step_counted row made

-- the tallies of all nodes with the steps of one node in a tick
abbrev pub node_counted : List (List Tally) → NodeSteps → List (List Tally)
node_counted rows ns =
    option_map_or (λ row. slice_set rows ns.node.0 (steps_counted row ns.steps)) (slice_get rows ns.node.0) rows

-- the tallies of all nodes with all steps of a tick
abbrev pub nodes_counted : List (List Tally) → List NodeSteps → List (List Tally)
nodes_counted rows nodes = fold node_counted rows nodes

-- the tallies of all nodes with the steps of these ticks
abbrev pub ticks_counted : List (List Tally) → List Tick → List (List Tally)
ticks_counted rows ticks = fold (λ counts tick. nodes_counted counts tick.steps) rows ticks

-- the tally of a port, where there is a place for it
abbrev pub tally_at : EgressPort → List (List Tally) → Option Tally
tally_at p rows = option_and_then (λ row. slice_get row p.port.0) (slice_get rows p.node.0)

-- the tally of each port of a tree is what its steps answered in these ticks
abbrev pub AreTallies : Topology → List Tick → List (List Tally) → Type 0
AreTallies tree ticks rows = (p : EgressPort) → HasPort tree p → tally_at p rows ≡ Some (tally_of (replies_of p ticks))

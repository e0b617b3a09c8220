-- What is printed of a run of groups: its length, each port with what it sent and which groups are
-- registered there, and how the network is at the end.
use Rattle.std.specs.Prelude.{ℕ, List, ◌++◌, flat_map}
use Rattle.srp_base.specs.declared.numbers.EgressPort.{EgressPort}
use Rattle.group_file.specs.Plan.{GroupPlan}
use Rattle.mmrp.specs.{Match.groups_at, Match.registrar_at, Net.NetGroups, Net.is_in_step, Net.is_quiet}
use Rattle.group_run.specs.declared.run.GroupRun.{GroupRun}
use Rattle.report_words.specs.{Lines.end_lines, Lines.port_line, Lines.ticks_line, Names.port_name}
use Rattle.tree_topology.specs.Topology.{link_ports}
use Rattle.group_run.specs.{Counts.replies_of, Counts.tally_of, Lines.group_line}

-- the line of a MAC address at a port of this name
abbrev pub group_at : List ℕ → NetGroups → EgressPort → ℕ → List ℕ
group_at port w p mac = group_line port mac (registrar_at w mac p)

-- the lines of a port: what it sent and discarded, and then each MAC address that is registered
-- there, ascending
abbrev pub port_part : GroupPlan → GroupRun → EgressPort → List ℕ
port_part plan run p =
    let port = port_name plan.nodes run.net.tree.links p in
    port_line port (tally_of (replies_of p run.replies)) ++ flat_map (group_at port run.net p) (groups_at run.net p)

-- those of all ports, link by link, end `a` first
abbrev pub port_parts : GroupPlan → GroupRun → List ℕ
port_parts plan run = flat_map (port_part plan run) (link_ports run.net.tree)

-- of a scenario and a run of it
abbrev pub group_text : GroupPlan → GroupRun → List ℕ
group_text plan run =
    ticks_line plan.ticks ++ port_parts plan run ++ end_lines (is_quiet run.net) (is_in_step run.net)

use Rattle.std.proofs.Common.{sym, subst}
use Rattle.srp_base.specs.declared.numbers.EgressPort.{EgressPort}
use Rattle.tree_topology.specs.Topology.{IsSound}
use Rattle.report_words.specs.Names.{port_name}
use Rattle.journal_lines.proofs.{NameLemmas.port_plain, LineLemmas.event_is_line, LineLemmas.step_is_line}
use Rattle.journal_lines.proofs.laws.a_line_ends_with_its_line_feed.Goals as goal

pub returns-clause-event : goal.returns-clause-event
returns-clause-event c = event_is_line

pub returns-clause-step : goal.returns-clause-step
returns-clause-step c plan t n st rules has =
    let p : EgressPort = record { node = n; port = st.port } in
    step_is_line t (port_name plan.nodes plan.tree.links p) st (port_plain plan rules (c.ports.ensures plan.tree (subst IsSound (sym rules.tree) rules.accepted)) p has)

use Rattle.std.proofs.Common.{◌≡◌, ◌&&◌, length, sym, ap, ◌∙◌}
use Rattle.std.specs.Prelude.{not, take}
use Rattle.tree_topology.specs.{Topology.Topology, Ports.peer_of}
use Rattle.world_core.specs.{Moments.events_from, Start.world_of, World.WorldState}
use Rattle.network_laws.specs.{declares_class}
use Rattle.network_laws.proofs.{SetUp.boundary-is, SetUp.edge-is, SetUp.nodes-length, StreamRest.are-still}
use Rattle.network_laws.proofs.cause_laws.edges_are_those_of_the_scenario.Goals as goal

pub returns-clause-class : goal.returns-clause-class
returns-clause-class c plan ticks end w p s port class rules legal moment rest has node at =
    let kept = c.every_moment_keeps_it.ensures plan ticks end w rules legal moment in
    let still = are-still w kept rest (c.ports.ensures w.tree kept.tree) c.a_still_marked_link_registers_what_is_declared.ensures.near in
    let events = take moment.count (events_from plan 0 ticks) in
    let tree : w.tree ≡ plan.tree = ap (λ (v : WorldState). v.tree) moment.reached ∙ c.what_is_allowed_may_happen.ensures.trees events (world_of plan) in
    let many : length plan.nodes ≡ length w.tree.kinds =
    sym (nodes-length plan 1 plan.nodes) ∙ ((c.a_scenario_begins_well.ensures plan rules).many ∙ ap (λ (t : Topology). length t.kinds) (sym tree)) in
    boundary-is plan w still (record { 0 = 0 }) c.decisions_stand.ensures.kept many
    (λ x n entry e f. c.every_moment_is_set_up_by_the_plan.ensures.domains plan ticks w x n entry moment e f)
    p has (record { s = s; node = node; port = port; has = at }) class
    ∙ ap (λ (t : Topology). plan.domains && not (declares_class plan p.node class && declares_class plan (peer_of t.links p).node class)) tree

pub returns-clause-talker : goal.returns-clause-talker
returns-clause-talker c plan ticks end w p s port reg class rules legal moment rest has node at is =
    edge-is port.domain port.part reg class is
    ∙ returns-clause-class c plan ticks end w p s port class rules legal moment rest has node at

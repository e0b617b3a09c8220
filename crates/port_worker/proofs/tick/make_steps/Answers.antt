use Rattle.std.proofs.Common.{◌≡◌, ◌<◌, List, length, ap, sym, subst, ◌∙◌, arith, rules}
use Rattle.tree_topology.specs.Topology.{Topology}
use Rattle.node_core.specs.{Holding.states_in, State.NodeState}
use Rattle.world_core.specs.{Kept.IsWhole, Marks.MarksState, World.WorldState}
use Rattle.port_worker.specs.{CanFollow, marks_made}
use Rattle.port_worker.proofs.GatherLemmas.{all_gathered, steps_are}
use Rattle.port_worker.proofs.tick.make_steps.Goals as goal

-- a network from its parts
abbrev whole : Topology × List NodeState × MarksState → WorldState
whole x = record { tree = x.0; nodes = x.1; marks = x.2 }

pub gather-requires : goal.gather-requires
gather-requires g c =
    let w = c.args.world in
    let kept = c.keeps.ensures in
    let count : c.nodes-count.result ≡ length w.tree.kinds = c.nodes-count.ensures ∙ ap (λ (t : Topology). length t.kinds) c.tree.ensures in
    let fits : c.nodes-count.result < 65536 = search rules in
    let many = kept.many in
    let all = all_gathered c.laws_of_steps.ensures w c.in_ok-tasks.tasks.items c.in_ok-all.all.items kept c.few_are_on_their_way.ensures
    (ap states_in (c.in_ok-tasks.ensures.nodes ∙ c.into_vec.ensures) ∙ c.part-rest.ensures.nodes) c.in_ok-tasks.ensures.numbers (omega (arith, count, fits, many)) c.in_ok-all.ensures in
    subst (CanFollow c.in_ok-all.all.items) (sym {A = MarksState} c.part-rest.ensures.marks) all.can

pub join-joined-requires : goal.join-joined-requires
join-joined-requires g c =
    let w = c.args.world in
    let kept = c.keeps.ensures in
    let count : c.nodes-count.result ≡ length w.tree.kinds = c.nodes-count.ensures ∙ ap (λ (t : Topology). length t.kinds) c.tree.ensures in
    let fits : c.nodes-count.result < 65536 = search rules in
    let many = kept.many in
    let all = all_gathered c.laws_of_steps.ensures w c.in_ok-tasks.tasks.items c.in_ok-all.all.items kept c.few_are_on_their_way.ensures
    (ap states_in (c.in_ok-tasks.ensures.nodes ∙ c.into_vec.ensures) ∙ c.part-rest.ensures.nodes) c.in_ok-tasks.ensures.numbers (omega (arith, count, fits, many)) c.in_ok-all.ensures in
    let tree = c.part-rest.ensures.tree in
    let nodes = ap states_in (c.from_vec.ensures ∙ c.in_ok-after.ensures.nodes) in
    let marks = c.in_ok-after.ensures.marks ∙ ap (λ (m : MarksState). marks_made c.in_ok-all.all.items m) c.part-rest.ensures.marks in
    subst (λ (x : Topology × List NodeState × MarksState). IsWhole (whole x)) (λ i. (sym tree i, sym nodes i, sym marks i)) (c.what_is_kept_is_whole.ensures.whole _ all.kept)

pub returns : goal.returns
returns g c =
    let w = c.args.world in
    let kept = c.keeps.ensures in
    let count : c.nodes-count.result ≡ length w.tree.kinds = c.nodes-count.ensures ∙ ap (λ (t : Topology). length t.kinds) c.tree.ensures in
    let fits : c.nodes-count.result < 65536 = search rules in
    let many = kept.many in
    let all = all_gathered c.laws_of_steps.ensures w c.in_ok-tasks.tasks.items c.in_ok-all.all.items kept c.few_are_on_their_way.ensures
    (ap states_in (c.in_ok-tasks.ensures.nodes ∙ c.into_vec.ensures) ∙ c.part-rest.ensures.nodes) c.in_ok-tasks.ensures.numbers (omega (arith, count, fits, many)) c.in_ok-all.ensures in
    let tree = c.part-rest.ensures.tree in
    let nodes = ap states_in (c.from_vec.ensures ∙ c.in_ok-after.ensures.nodes) in
    let marks = c.in_ok-after.ensures.marks ∙ ap (λ (m : MarksState). marks_made c.in_ok-all.all.items m) c.part-rest.ensures.marks in
    let reached = c.join-joined.ensures ∙ ap whole (λ i. (tree i, nodes i, marks i)) in
    steps_are c.laws_of_steps.ensures w c.join-joined.result c.in_ok-all.all.items c.in_ok-after.steps.items all c.in_ok-after.ensures.steps reached

use Rattle.std.proofs.Common.{List, sym, ap, subst, ◌∙◌}
use Rattle.node_core.specs.{Holding.states_in, State.NodeState}
use Rattle.link_capture.specs.{HasEnd}
use Rattle.link_capture.proofs.EndLemmas.{stands_apart}
use Rattle.link_capture.proofs.ends.put_crossings.Goals as goal

pub put_end-requires-clause-stands : goal.put_end-requires-clause-stands
put_end-requires-clause-stands c =
    let apart = c.part-rest.ensures in
    let rest = c.part-rest.result in
    subst (λ (states : List NodeState). HasEnd states c.args.ends.0) (sym (ap states_in c.into_vec-nodes.ensures))
    (stands_apart c.args.world.tree rest.0.tree rest.0.marks (states_in rest.1) c.args.ends.0 apart.tree apart.kept c.requires.a)

pub put_end-requires-2-clause-stands : goal.put_end-requires-2-clause-stands
put_end-requires-2-clause-stands c =
    let apart = c.part-rest.ensures in
    let rest = c.part-rest.result in
    subst (λ (states : List NodeState). HasEnd states c.args.ends.1) (sym (c.in_ok-put_end.ensures.same ∙ ap states_in c.into_vec-nodes.ensures))
    (stands_apart c.args.world.tree rest.0.tree rest.0.marks (states_in rest.1) c.args.ends.1 apart.tree apart.kept c.requires.b)

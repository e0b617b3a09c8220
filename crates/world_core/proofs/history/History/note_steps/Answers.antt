use Rattle.std.proofs.Common.{sym, ap, subst, ◌∙◌}
use Rattle.tree_topology.specs.Topology.{Topology}
use Rattle.frame_flow.specs.Force.{changes_at}
use Rattle.world_core.specs.{HistoryState, all_changes_of, IsByPort, act_noted, acts_noted}
use Rattle.world_core.proofs.Histories.{all_joined, acts_by_port}
use Rattle.world_core.proofs.history.History.note_steps.Goals as goal

pub invariant_of-result : goal.invariant_of-result
invariant_of-result c =
    let w = c.args.world.now in
    subst (λ (tree : Topology). IsByPort tree c.note_acts.new.nodes.items) (sym (ap (λ (h : HistoryState). h.tree) c.self.view_is ∙ c.requires.tree))
    (subst (IsByPort w.tree) (sym c.in_ok-note_acts.ensures) (acts_by_port c.args.tick c.args.steps.now w w.tree (all_changes_of c.self.inside.nodes.items)))

pub returns-clause-noted : goal.returns-clause-noted
returns-clause-noted c =
    let w = c.args.world.now in
    let steps = c.args.steps.now in
    ap all_changes_of c.in_ok-note_acts.ensures ∙ all_joined w.tree (λ p. act_noted c.args.tick steps w p (changes_at (all_changes_of c.self.inside.nodes.items) p))
    ∙ ap (acts_noted c.args.tick steps w) (ap (λ (h : HistoryState). h.changes) c.self.view_is)

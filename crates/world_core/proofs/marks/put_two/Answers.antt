use Rattle.std.proofs.Common.{List, sym, ap, subst, ◌∙◌}
use Rattle.srp_base.specs.declared.numbers.EgressPort.{EgressPort}
use Rattle.world_core.specs.{EndMarks, MarksState, IsOfTree, ends_with}
use Rattle.world_core.proofs.MarkSteps.{both_of}
use Rattle.world_core.proofs.marks.put_two.Goals as goal

pub returns-clause-put : goal.returns-clause-put
returns-clause-put c =
    ap (λ (ends : List (List EndMarks)). let m : MarksState = record { tree = c.args.tree.now; ends = ends } in m)
    (c.put_mark-2.ensures
    ∙ (ap (λ (r : EgressPort). ends_with c.args.app r c.args.marks.1 c.put_mark.new.ends.items) c.peer.ensures
    ∙ ap (ends_with c.args.app _ c.args.marks.1) c.put_mark.ensures))

pub returns-clause-kept : goal.returns-clause-kept
returns-clause-kept c =
    subst IsOfTree (sym (returns-clause-put c))
    (both_of (record { tree = c.args.tree.now; ends = c.args.ends.now.items }) c.keeps.ensures.ports c.requires.kept c.args.app c.args.at c.requires.port (λ _. c.args.marks))

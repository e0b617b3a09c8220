use Rattle.std.proofs.Common.{ap, subst, ◌∙◌}
use Rattle.group_run.specs.declared.run.GroupRun.{GroupRun}
use Rattle.group_run.specs.Text.{group_text}
use Rattle.srpnet.specs.{KeepsGroupLaws}
use Rattle.srpnet.proofs.groups.printed.Goals as goal

pub returns-clause-output : goal.returns-clause-output
returns-clause-output c =
    let run = c.in_ok-run.run' in
    let law = c.groups_are_those_joined_behind.ensures.law in
    record {
      printed = c.from_vec.ensures ∙ (c.in_ok-text.ensures ∙ ap (λ (r : GroupRun). group_text c.args.scenario.now r) c.in_ok-run.ensures);
      holds = subst (λ (r : GroupRun). KeepsGroupLaws r.net) c.in_ok-run.ensures
          (record { duties = c.keeps.ensures.duties; groups = law run.net c.keeps.ensures });
    }

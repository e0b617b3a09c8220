use Rattle.std.proofs.Common.{◌≡◌, ◌∙◌, List, Result, ap, length, map, nat_le, subst, sym}
use Rattle.toml.specs.View.{table_view}
use Rattle.toml_rules.specs.declared.rules.RuleErr.{RuleErr}
use Rattle.toml_rules.specs.Rules.{Reads}
use Rattle.plan_file.specs.{PlanStream, events_of, if_few, streams_of, wanted_of}
use Rattle.plan_file.proofs.Readings.{ok-then}
use Rattle.plan_file.proofs.plan.read_wanted.Goals as goal

pub returns : goal.returns
returns c =
    let nodes = c.args.nodes.now in
    let entries = map (λ t. table_view t.now) c.args.entries.now in
    let streams = c.in_ok-streams.streams.items in
    let R : Result (List PlanStream) RuleErr → Type 0 = λ r. Reads (λ v. v.items) c.if_few.result r in
    let is : wanted_of nodes entries ≡ if_few c.in_ok-few.few streams =
    ok-then (streams_of nodes entries) streams _ c.in_ok-streams.ensures.streams
    ∙ ap (λ b. if_few b streams) (ap (λ ss. nat_le (length (events_of nodes ss)) 10000) (sym c.deref.ensures.value) ∙ sym c.in_ok-few.ensures) in
    subst R (sym is) c.if_few.ensures

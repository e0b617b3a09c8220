use Rattle.std.proofs.Common.{◌≡◌, subst, sym, IfOk}
use Rattle.toml.specs.View.{table_view}
use Rattle.plan_file.specs.{PlanEvent, event_members}
use Rattle.plan_file.proofs.tables.event_table.Goals as goal

pub returns-in-Declare : goal.returns-in-Declare
returns-in-Declare c =
    let F : PlanEvent → Type 0 = λ e. IfOk c.declare_table.result (λ t. table_view t ≡ event_members c.args.nodes.now c.args.streams.now e) in
    subst F (sym c.in-Declare.is) (c.declare_table.ensures c.args.streams.now)

pub returns-in-Talk : goal.returns-in-Talk
returns-in-Talk c =
    let F : PlanEvent → Type 0 = λ e. IfOk c.talk_table.result (λ t. table_view t ≡ event_members c.args.nodes.now c.args.streams.now e) in
    subst F (sym c.in-Talk.is) (c.talk_table.ensures c.args.nodes.now)

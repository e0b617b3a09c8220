use Rattle.std.proofs.Common.{rules}
use Rattle.toml.specs.View.{table_view}
use Rattle.plan_file.proofs.PlanKept.{few-streams}
use Rattle.plan_file.proofs.streams.read_streams.Goals as goal

pub returns-clause-few : goal.returns-clause-few
returns-clause-few c =
    few-streams c.args.names.now.nodes c.in_ok-streams.streams.items (λ t. table_view t.now) c.args.entries.now c.requires (search rules)

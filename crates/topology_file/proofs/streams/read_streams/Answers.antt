use Rattle.std.proofs.Common.{rules, map}
use Rattle.toml.specs.View.{table_view}
use Rattle.topology_file.proofs.StreamsKept.{few-streams}
use Rattle.topology_file.proofs.streams.read_streams.Goals as goal

pub returns-clause-few : goal.returns-clause-few
returns-clause-few c =
    few-streams c.args.names.now.nodes c.in_ok-streams.streams.items (map (λ t. table_view t.now) c.args.entries.now) (search rules)

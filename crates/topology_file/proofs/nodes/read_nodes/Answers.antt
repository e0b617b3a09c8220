use Rattle.std.proofs.Common.{rules, map}
use Rattle.toml.specs.View.{table_view}
use Rattle.topology_file.proofs.NetworkKept.{few-nodes}
use Rattle.topology_file.proofs.nodes.read_nodes.Goals as goal

pub returns-clause-few : goal.returns-clause-few
returns-clause-few c =
    few-nodes c.args.ticks c.args.domains c.in_ok-nodes.nodes.items (map (λ t. table_view t.now) c.args.entries.now) (search rules)

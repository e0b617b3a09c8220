use Rattle.std.proofs.Common.{rules, map}
use Rattle.toml.specs.View.{table_view}
use Rattle.topology_file.proofs.NetworkKept.{links-known}
use Rattle.topology_file.proofs.links.read_links.Goals as goal

pub returns-clause-known : goal.returns-clause-known
returns-clause-known c =
    links-known c.args.names.now.nodes c.in_ok-links.links.items (map (λ t. table_view t.now) c.args.entries.now) (search rules)

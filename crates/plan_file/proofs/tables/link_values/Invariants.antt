use Rattle.std.proofs.Common.{◌≡◌, ◌++◌, map, drop}
use Rattle.toml.specs.Data.{table}
use Rattle.toml.specs.View.{view}
use Rattle.plan_file.specs.{link_members}
use Rattle.plan_file.proofs.tables.link_values.Given as goal

-- the tables so far with those of the entries that are left are the whole
abbrev pub invariant-loop-link : goal.invariant-loop-link
invariant-loop-link l =
    map view l.values.items ++ map (λ x. table (link_members l.nodes x)) (drop l.link-index l.links) ≡ map (λ x. table (link_members l.nodes x)) l.links

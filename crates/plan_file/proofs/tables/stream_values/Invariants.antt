use Rattle.std.proofs.Common.{◌≡◌, ◌++◌, map, drop}
use Rattle.toml.specs.Data.{table}
use Rattle.toml.specs.View.{view}
use Rattle.plan_file.specs.{streams_members}
use Rattle.plan_file.proofs.tables.stream_values.Given as goal

-- the tables so far with those of the streams that are left are the whole
abbrev pub invariant-loop-i : goal.invariant-loop-i
invariant-loop-i l =
    map view l.values.items ++ map (λ ms. table ms) (streams_members l.nodes (drop l.i l.streams) (drop l.i l.ids) (drop l.i l.dests))
    ≡ map (λ ms. table ms) (streams_members l.nodes l.streams l.ids l.dests)

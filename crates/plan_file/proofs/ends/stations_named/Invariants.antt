use Rattle.std.proofs.Common.{◌≡◌, map, drop}
use Rattle.topology_file.specs.Entries.{station_named}
use Rattle.plan_file.specs.{all_read}
use Rattle.plan_file.proofs.NameLemmas.{in_front}
use Rattle.plan_file.proofs.ends.stations_named.Given as goal

abbrev pub invariant-loop-word : goal.invariant-loop-word
invariant-loop-word l =
    in_front l.found.items (all_read (λ w. station_named l.names.nodes w.now) (drop l.word-index l.words))
    ≡ all_read (station_named l.names.nodes) (map (λ t. t.now) l.words)

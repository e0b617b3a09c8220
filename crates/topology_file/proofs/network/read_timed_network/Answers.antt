use Rattle.std.proofs.Common.{◌≡◌, Ok, rules}
use Rattle.toml.specs.View.{table_view}
use Rattle.topology_file.specs.{TimedNetwork, IsKeptNetwork, timed_network_of}
use Rattle.topology_file.proofs.{Chains.ok-says, TimedNetworks.timed-keeps}
use Rattle.topology_file.proofs.network.read_timed_network.Goals as goal

pub returns-clause-kept : goal.returns-clause-kept
returns-clause-kept c =
    let ms = table_view c.args.table.now in
    let n : TimedNetwork = record { times = c.in_ok-times.times; network = c.in_ok-network.network } in
    let reads : timed_network_of ms ≡ Ok n = search rules in
    ok-says IsKeptNetwork (timed_network_of ms) n reads (timed-keeps c.refusals.ensures.accepted ms)

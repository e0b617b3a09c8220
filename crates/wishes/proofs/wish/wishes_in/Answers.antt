use Rattle.std.proofs.Common.{List, sym, subst}
use Rattle.std.specs.List.{AllByRecursion}
use Rattle.tree_topology.specs.Topology.{HasNode}
use Rattle.wishes.specs.{Wish}
use Rattle.wishes.proofs.ListLemmas.{wishers_are_nodes}
use Rattle.wishes.proofs.wish.wishes_in.Goals as goal

pub returns-clause-stations : goal.returns-clause-stations
returns-clause-stations c =
    subst (λ (ws : List Wish). AllByRecursion (λ (wish : Wish). HasNode c.args.world.now.tree wish.station.0) ws) (sym c.in_ok-wishes.ensures)
    (wishers_are_nodes c.args.world.now 0 c.args.scenario.now.streams)

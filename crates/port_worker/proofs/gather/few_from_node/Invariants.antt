use Rattle.std.proofs.Common.{◌<◌, ◌≤◌, ◌^◌}
use Rattle.srp_base.specs.declared.{mrp.App.App, numbers.PortNo.PortNo}
use Rattle.tree_topology.specs.Topology.{HasPort}
use Rattle.world_core.specs.Marks.{mark_at}
use Rattle.port_worker.proofs.gather.few_from_node.Given as goal

abbrev pub invariant-loop-k : goal.invariant-loop-k
invariant-loop-k l =
    (app : App) (port : PortNo) → HasPort l.world.tree (record { node = l.node; port = port }) → port.0 ≤ l.k
    → (mark_at app (record { node = l.node; port = port }) l.world.marks).flying < 2 ^ 65

use Rattle.std.proofs.Common.{◌<◌, ◌≤◌, ◌^◌}
use Rattle.srp_base.specs.declared.{mrp.App.App, numbers.EgressPort.EgressPort}
use Rattle.tree_topology.specs.Topology.{HasPort}
use Rattle.world_core.specs.Marks.{mark_at}
use Rattle.port_worker.proofs.gather.few_are_on_their_way.Given as goal

abbrev pub invariant-loop-x : goal.invariant-loop-x
invariant-loop-x l = (app : App) (p : EgressPort) → HasPort l.world.tree p → p.node.0 ≤ l.x → (mark_at app p l.world.marks).flying < 2 ^ 65

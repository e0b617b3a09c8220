use Rattle.std.proofs.Common.{◌≡◌, ◌++◌, length, map}
use Rattle.port_worker.specs.{AreNumbered}
use Rattle.port_worker.proofs.gather.numbered.Given as goal

abbrev pub invariant-loop-node : goal.invariant-loop-node
invariant-loop-node l =
    (map (λ t. t.node) l.tasks.items ≡ l.yielded) × AreNumbered 0 l.tasks.items × (length l.tasks.items ≡ l.number)
    × (l.yielded ++ l.node-iterator.rest.items ≡ l.fn.nodes.items)

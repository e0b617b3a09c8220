use Rattle.std.proofs.Common.{sym, ◌∙◌, arith}
use Rattle.node_core.specs.State.{ports_of}
use Rattle.world_core.specs.{are_ports_sound}
use Rattle.world_core.proofs.InStep.{port_sound}
use Rattle.world_core.proofs.marking.are_ports_in_step.Goals as goal

pub loop-i-preserved : goal.loop-i-preserved
loop-i-preserved c =
    let count = ports_of c.args.node.now.state in
    let below = c.loop-i-test.true in
    let ports = c.ports-i-end.ensures in
    port_sound c.args.number c.args.node.now.state c.args.marks.now c.loop-i.i count (are_ports_sound c.args.number c.args.node.now.state c.args.marks.now 1 count)
    (omega (arith, below, ports))
    (sym c.is_end_sound.ensures ∙ c.if-not-is_end_sound.false)
    c.loop-i.invariant

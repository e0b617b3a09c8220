use Rattle.std.proofs.Common.{◌<◌, List, length, subst, sym, arith}
use Rattle.frame_flow.specs.{Place, ArePorts}
use Rattle.frame_flow.proofs.LevelLemmas.{places-are, done-level}
use Rattle.frame_flow.proofs.setting.FlowSetting.add_level.Goals as goal

pub returns-clause-done : goal.returns-clause-done
returns-clause-done c =
    let s = c.args.self.now in
    let ports = subst (λ (t : List Place). ArePorts s.tree t) (sym c.requires.places) (places-are s.tree s.rates c.keeps.ensures.ports) in
    let all : length s.tree.kinds < c.loop-node.node = omega (arith, c.loop-node-test.false, c.count-node-end.ensures) in
    done-level s c.args.places.now c.loop-node.flows.items c.args.level c.loop-node.node ports all c.loop-node.invariant.done

use Rattle.frame_flow.proofs.IncomingLemmas.{fellow-below}
use Rattle.frame_flow.proofs.setting.FlowSetting.has_fellow.Goals as goal

pub returns-then-are_fellows : goal.returns-then-are_fellows
returns-then-are_fellows c e =
    let fellows = c.are_fellows.ensures c.if-are_fellows.true in
    fellow-below c.args.self.now c.keeps.ensures.ports c.args.places.now c.args.levels.now c.args.level c.loop-j.j _ c.args.place c.requires.places
    c.requires.levels c.requires.port c.requires.level c.loop-j-test.true c.if-levels-j.true fellows.0 fellows.1

use Rattle.std.proofs.Common.{sym, ap, ◌∙◌, Option}
use Rattle.srp_base.specs.declared.ports.PortChange.{PortChange}
use Rattle.frame_flow.specs.Force.{has_booked}
use Rattle.class_delays.proofs.Comings.{unbooked-comes, talker-node}
use Rattle.class_delays.proofs.setting.DelaySetting.come.Goals as goal

pub returns-then-not-has_booked-clause-ok : goal.returns-then-not-has_booked-clause-ok
returns-then-not-has_booked-clause-ok c =
    let booked = c.has_booked.ensures ∙ ap (λ (o : Option PortChange). has_booked c.args.x.now.id o) c.requires.force in
    unbooked-comes c.args.self.now c.keeps.ensures.given c.keeps.ensures.ports c.args.place.at c.args.x.now c.requires.port c.requires.stream
    (sym booked ∙ c.if-not-has_booked.true)

pub side-requires-clause-node : goal.side-requires-clause-node
side-requires-clause-node c = talker-node c.args.self.now c.keeps.ensures.given c.args.x.now c.requires.stream

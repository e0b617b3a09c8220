use Rattle.std.proofs.Common.{List, Vec, Global, Option, get_or, ap, sym, subst, ◌∙◌, ◌+◌}
use Rattle.delay_bound.specs.declared.stream.ClassStream.{ClassStream}
use Rattle.class_delays.specs.declared.coming.Coming.{Coming}
use Rattle.class_delays.specs.{ClassSetting, IsCome}
use Rattle.class_delays.proofs.{Comings.none-more, Comings.one-more, Comings.SoFar, setting.DelaySetting.coming.Goals.in-Some+in_ok-push, setting.DelaySetting.coming.Goals.in_default}
use Rattle.class_delays.proofs.setting.DelaySetting.coming.Goals as goal

pub loop-x-preserved : goal.loop-x-preserved
loop-x-preserved c =
    let a = c.args.self.now in
    let all = ap (λ (t : ClassSetting). t.streams) c.self.view_is in
    let d : ClassStream = record { id = record { 0 = 0 }; talker = record { 0 = 0 }; limits = record { most = 0; burst = 0; slope = 0 }; least = 0 } in
    let to : Vec Coming Global → List Coming = λ v. v.items in
    elim c.match-branch-2.branch [
      | in-Some+in_ok-push w ↦ one-more a c.args.ports.now c.args.place.at c.self.inside.streams.now c.loop-x.x-index d c.loop-x.coming.items c.match-branch-2.coming.items w.in-Some.c all
          c.loop-x-test.true c.loop-x.invariant (subst (λ (o : Option Coming). IsCome a c.args.ports.now c.args.place.at (get_or c.self.inside.streams.now c.loop-x.x-index d) o) w.in-Some.is c.in_ok-c.ensures.ok) (ap to w.coming-is ∙ w.in_ok-push.ensures.items)
      | in_default w ↦ subst (λ (t : List Coming). SoFar a c.args.ports.now c.args.place.at (c.loop-x.x-index + 1) t) (sym (ap to w.coming-is))
          (none-more a c.args.ports.now c.args.place.at c.self.inside.streams.now c.loop-x.x-index d c.loop-x.coming.items all c.loop-x-test.true c.loop-x.invariant
          (subst (λ (o : Option Coming). IsCome a c.args.ports.now c.args.place.at (get_or c.self.inside.streams.now c.loop-x.x-index d) o) w.in_default.is c.in_ok-c.ensures.ok))
    ]

use Rattle.std.proofs.Common.{List, subst, ap, ◌∙◌}
use Rattle.frame_flow.specs.declared.place.Place.{Place}
use Rattle.frame_flow.specs.Copies.{all_places}
use Rattle.class_delays.specs.declared.delays.PortDelays.{PortDelays}
use Rattle.class_delays.specs.{ClassSetting, AreAllThere}
use Rattle.class_delays.proofs.Orders.{in_places, is-listed}
use Rattle.class_delays.proofs.Rules.{keep-rules}
use Rattle.class_delays.proofs.setting.DelaySetting.port_by_port.Goals as goal

pub returns-clause-ports : goal.returns-clause-ports
returns-clause-ports c =
    let a = c.args.self.now in
    let k = c.keeps.ensures in
    let ports = c.in_ok-ports.ports.items in
    let places = c.in_ok-places.places.items in
    let all = c.in_ok-places.ensures ∙ ap (λ (t : ClassSetting). all_places t.setting.tree.links t.setting.rates) c.self.view_is in
    let there = subst (λ (t : List Place). AreAllThere t ports) c.deref.ensures.value c.in_ok-ports.ensures.there in
    let made = c.in_ok-listed.ensures ∙ ap (λ (t : List PortDelays). in_places t c.deref-2.result.now) c.deref-3.ensures.value ∙ ap (in_places ports) c.deref-2.ensures.value in
    let is = is-listed a k.ports k.sound ports places c.in_ok-listed.listed.items all c.in_ok-ports.ensures.reckoned there made in
    is.places

pub returns-clause-fed : goal.returns-clause-fed
returns-clause-fed c =
    let a = c.args.self.now in
    let k = c.keeps.ensures in
    let ports = c.in_ok-ports.ports.items in
    let places = c.in_ok-places.places.items in
    let all = c.in_ok-places.ensures ∙ ap (λ (t : ClassSetting). all_places t.setting.tree.links t.setting.rates) c.self.view_is in
    let there = subst (λ (t : List Place). AreAllThere t ports) c.deref.ensures.value c.in_ok-ports.ensures.there in
    let made = c.in_ok-listed.ensures ∙ ap (λ (t : List PortDelays). in_places t c.deref-2.result.now) c.deref-3.ensures.value ∙ ap (in_places ports) c.deref-2.ensures.value in
    let is = is-listed a k.ports k.sound ports places c.in_ok-listed.listed.items all c.in_ok-ports.ensures.reckoned there made in
    is.fed

pub returns-clause-rules : goal.returns-clause-rules
returns-clause-rules c =
    let a = c.args.self.now in
    let k = c.keeps.ensures in
    let ports = c.in_ok-ports.ports.items in
    let places = c.in_ok-places.places.items in
    let all = c.in_ok-places.ensures ∙ ap (λ (t : ClassSetting). all_places t.setting.tree.links t.setting.rates) c.self.view_is in
    let there = subst (λ (t : List Place). AreAllThere t ports) c.deref.ensures.value c.in_ok-ports.ensures.there in
    let made = c.in_ok-listed.ensures ∙ ap (λ (t : List PortDelays). in_places t c.deref-2.result.now) c.deref-3.ensures.value ∙ ap (in_places ports) c.deref-2.ensures.value in
    let is = is-listed a k.ports k.sound ports places c.in_ok-listed.listed.items all c.in_ok-ports.ensures.reckoned there made in
    keep-rules a k.given k.sound k.ports c.in_ok-listed.listed.items is.reckoned is.there

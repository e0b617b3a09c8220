use Rattle.std.proofs.Common.{List, sym, subst, ap}
use Rattle.tree_topology.specs.Topology.{Topology}
use Rattle.frame_flow.specs.declared.place.Place.{Place}
use Rattle.frame_flow.specs.Levels.{ArePorts}
use Rattle.frame_flow.proofs.LevelLemmas.{places-are}
use Rattle.class_delays.specs.declared.places.Ranked.{Ranked}
use Rattle.class_delays.specs.{ClassSetting, AreThere}
use Rattle.class_delays.proofs.Orders.{all-there}
use Rattle.class_delays.proofs.setting.DelaySetting.by_level.Goals as goal

pub by_level-requires : goal.by_level-requires
by_level-requires c =
    let s = c.args.self.now.setting in
    subst (λ (t : Topology). ArePorts t c.args.places.now) (sym (ap (λ (a : ClassSetting). a.setting.tree) c.self.view_is))
    (subst (λ (t : List Place). ArePorts s.tree t) (sym c.requires) (places-are s.tree s.rates c.keeps.ensures.ports))

pub returns-clause-there : goal.returns-clause-there
returns-clause-there c =
    all-there c.self.inside.tree.now c.args.places.now c.in_ok-ranked.ranked.items c.in_ok-ports.ports.items c.in_ok-ranked.ensures.ranked
    (subst (λ (t : List Ranked). AreThere t c.in_ok-ports.ports.items) c.deref.ensures.value c.in_ok-ports.ensures.there)

use Rattle.std.proofs.Common.{subst, sym, ap}
use Rattle.tree_topology.specs.Topology.{Topology}
use Rattle.frame_flow.specs.{Setting, ArePorts, Place}
use Rattle.std.proofs.Common.{List}
use Rattle.frame_flow.proofs.LevelLemmas.{places-are}
use Rattle.frame_flow.proofs.setting.FlowSetting.levels.Goals as goal

pub levels_of-requires : goal.levels_of-requires
levels_of-requires c =
    let s = c.args.self.now in
    let P : List Place → Type 0 = λ t. ArePorts s.tree t in
    let Q : Topology → Type 0 = λ t. ArePorts t c.args.places.now in
    subst Q (sym (ap (λ (t : Setting). t.tree) c.self.view_is)) (subst P (sym c.requires) (places-are s.tree s.rates c.keeps.ensures.ports))

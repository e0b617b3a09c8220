use Rattle.std.proofs.Common.{◌≡◌, List, Bor, ap, map, subst, sym, ◌∙◌}
use Rattle.std.specs.Prelude.{AllPairs}
use Rattle.srp_base.specs.declared.ports.PortChange.{PortChange}
use Rattle.frame_flow.specs.{changes_at, Setting, all_places}
use Rattle.std.proofs.lemmas.List.Elements.{All-contains}
use Rattle.tree_topology.specs.Topology.{HasPort}
use Rattle.frame_flow.proofs.{LevelLemmas.places-are, NumberLemmas.rises, NumberLemmas.unmapped, SlopeLemmas.IsBefore, SlopeLemmas.changes-ascend, SlopeLemmas.port-input-at}
use Rattle.frame_flow.proofs.setting.FlowSetting.put_flow.Goals as goal

pub leaving-requires-clause-port : goal.leaving-requires-clause-port
leaving-requires-clause-port c =
    let s = c.args.self.now in
    All-contains (λ x. HasPort s.tree x.at) (all_places s.tree.links s.rates) c.args.place (places-are s.tree s.rates c.keeps.ensures.ports) c.requires.place

pub flow_of_copies-requires-clause-input : goal.flow_of_copies-requires-clause-input
flow_of_copies-requires-clause-input c =
    let s = c.args.self.now in
    let at : List (Bor PortChange) → Type 0 = λ t. map (λ x. x.now) t ≡ changes_at s.changes c.args.place.at in
    let changes = subst at (sym c.deref.ensures.value) c.in_ok-changes.ensures in
    let copies = c.deref-2.ensures.value ∙ c.in_ok-left.ensures ∙ c.requires.served in
    port-input-at s c.keeps.ensures.given c.args.flows.now.items c.args.place c.requires.place c.self.inside.ticks
    (ap (λ (t : Setting). t.ticks) c.self.view_is) _ _ changes copies

pub flow_of_copies-requires-clause-order : goal.flow_of_copies-requires-clause-order
flow_of_copies-requires-clause-order c =
    let s = c.args.self.now in
    let at : List (Bor PortChange) → Type 0 = λ t. map (λ x. x.now) t ≡ changes_at s.changes c.args.place.at in
    let changes = subst at (sym c.deref.ensures.value) c.in_ok-changes.ensures in
    let up = subst (λ (t : List PortChange). AllPairs IsBefore t) (sym changes) (changes-ascend s.changes c.args.place.at c.keeps.ensures.given.range.changes) in
    rises (λ (x : Bor PortChange). x.now.tick) _ (unmapped IsBefore (λ (x : Bor PortChange). x.now) _ up)

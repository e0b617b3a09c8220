use Rattle.std.proofs.Common.{◌≡◌, ◌∙◌, ◌≤◌, List, ap, length, map, subst, sym}
use Rattle.toml.specs.View.{table_view}
use Rattle.topology_file.proofs.Chains.{ok-says}
use Rattle.topology_file.specs.Plan.{Plan as ScenarioPlan}
use Rattle.topology_file.specs.declared.entries.NodeEntry.{NodeEntry}
use Rattle.plan_file.specs.{PlanStream, wanted_of}
use Rattle.plan_file.proofs.PlanKept.{WantedKeep, made-keeps, wanted-kept}
use Rattle.plan_file.proofs.plan.read_plan.Goals as goal

pub invariant_of-result : goal.invariant_of-result
invariant_of-result c =
    let W : List PlanStream → Type 0 = WantedKeep c.in_ok-network.network.nodes in
    let N : List NodeEntry → Type 0 = λ nodes. WantedKeep nodes c.in_ok-wanted.wanted.items in
    made-keeps c.in_ok-network.network _ c.keeps_rules.ensures
    (subst W (sym c.from_vec-streams.ensures)
    (subst N (c.as_slice-nodes.ensures ∙ ap (λ (p : ScenarioPlan). p.nodes) c.network.view_is)
    (wanted-kept c.as_slice-nodes.result.now c.in_ok-wanted.wanted.items (λ t. table_view t.now) c.deref.result.now (rw c.deref.ensures.value c.in_ok-entries.ensures.few) c.in_ok-wanted.ensures)))

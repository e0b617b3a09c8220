use Rattle.std.proofs.Common.{◌≡◌, ◌≤◌, ◌+◌, List, length, ◌∙◌, sym, subst}
use Rattle.std.specs.List.{AllByRecursion}
use Rattle.srp_base.specs.declared.ports.PortSetup.{PortSetup}
use Rattle.mrp_participant.specs.State.{IsTime}
use Rattle.world_core.specs.{setups_from}
use Rattle.world_core.proofs.{Starting.few_ports, Starting.have_shares, Starting.have_periods, start.new_node_of.Goals.After-domain_of}
use Rattle.world_core.proofs.start.new_node_of.Goals as goal

-- the ports are those of the node's links
setups_are : (c : After-domain_of) → c.as_slice.result.now ≡ setups_from 1 c.args.number c.args.scenario.now.links
setups_are c = c.as_slice.ensures.value ∙ c.in_ok-setups.ensures

pub new-requires-clause-few : goal.new-requires-clause-few
new-requires-clause-few c =
    let Few : List PortSetup → Type 0 = λ ps. length ps ≤ 255 in
    subst Few (sym (setups_are c)) (few_ports c.args.scenario.now c.keeps_rules.ensures c.args.number c.requires)

pub new-requires-clause-shares : goal.new-requires-clause-shares
new-requires-clause-shares c =
    let Shares : List PortSetup → Type 0 = AllByRecursion (λ p. p.delta_a + p.delta_b ≤ 90) in
    subst Shares (sym (setups_are c)) (have_shares 1 c.args.number c.args.scenario.now.links c.keeps_rules.ensures.link_forms)

pub new-requires-clause-periods : goal.new-requires-clause-periods
new-requires-clause-periods c =
    let Periods : List PortSetup → Type 0 = AllByRecursion (λ p. IsTime p.period) in
    subst Periods (sym (setups_are c)) (have_periods 1 c.args.number c.args.scenario.now.links)

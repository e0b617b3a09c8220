use Rattle.std.proofs.Common.{List, ◌∙◌, sym, subst}
use Rattle.std.specs.List.{AllByRecursion}
use Rattle.srp_base.specs.declared.ports.PortSetup.{PortSetup}
use Rattle.mrp_participant.specs.State.{IsTime}
use Rattle.mmrp.proofs.Beginnings.{have_periods}
use Rattle.mmrp.proofs.start.new_node_of.Goals as goal

pub new-requires-clause-periods : goal.new-requires-clause-periods
new-requires-clause-periods c =
    let Periods : List PortSetup → Type 0 = AllByRecursion (λ p. IsTime p.period) in
    subst Periods (sym (c.as_slice.ensures.value ∙ c.in_ok-setups.ensures)) (have_periods 1 c.args.number c.args.links.now)

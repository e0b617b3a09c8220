use Rattle.std.proofs.Common.{◌∷◌, [], ℕ, sym, ap, ◌∙◌}
use Rattle.std.specs.Prelude.{replicate}
use Rattle.srp_base.proofs.Arithmetic.{if_ok}
use Rattle.srp_base.specs.declared.mrp.App.TheVariants.{Mvrp, Msrp}
use Rattle.node_core.specs.declared.types.PortStep.TheVariants.{Send}
use Rattle.node_core.specs.State.{is_sending_time}
use Rattle.srp_schedule.specs.{Sends, turn_from}
use Rattle.srp_schedule.proofs.OrderLemmas.{no_order, sends_order}
use Rattle.srp_schedule.proofs.order.quiet_jobs.Goals as goal

pub returns-then-is_sending_time : goal.returns-then-is_sending_time
returns-then-is_sending_time c =
    let s = c.args.node.now.state in
    let time = sym (ap is_sending_time c.now.ensures) ∙ sym c.if-is_sending_time.ensures in
    if_ok c.sends.result _ _
    (λ v h. h ∙ ap (λ (n : ℕ). turn_from Sends 1 (replicate n (Send Mvrp ∷ Send Msrp ∷ []))) c.ports.ensures ∙ sends_order s c.requires time)
    c.sends.ensures

pub returns-else-is_sending_time : goal.returns-else-is_sending_time
returns-else-is_sending_time c =
    c.new.ensures.items ∙ no_order c.args.node.now.state c.requires (sym (ap is_sending_time c.now.ensures) ∙ sym c.if-is_sending_time.ensures)

use Rattle.std.proofs.Common.{Bor, ◌≤◌, ◌<◌, subst, ℕ, arith}
use Rattle.srp_base.specs.declared.ports.PortChange.{PortChange}
use Rattle.frame_flow.proofs.ForceLemmas.{none-begun}
use Rattle.frame_flow.proofs.force.quiet_until.Goals as goal

pub returns-in-Some : goal.returns-in-Some
returns-in-Some c t early =
    let found = c.in-Some.ensures.lookup in
    none-begun (λ (x : Bor PortChange). x.now.tick) c.args.rate c.args.changes.now c.args.at t c.min.result c.in-Some.c.now c.requires
    (subst (λ (x : Bor PortChange). c.min.result ≤ x.now.tick) found.1 (omega (arith, c.min.ensures))) found.3.0
    (subst (λ (n : ℕ). t < n) c.bits_of_ticks.ensures.value early)

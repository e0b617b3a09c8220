use Rattle.std.proofs.Common.{◌≡◌, ℕ, ◌-◌, sym, ap, subst, length, arith, true}
use Rattle.std.specs.List.{AllWithin}
use Rattle.srp_base.specs.declared.ports.PortChange.{PortChange}
use Rattle.frame_flow.specs.Force.{in_force}
use Rattle.world_core.specs.{precedes}
use Rattle.world_core.proofs.LastChange.{at_take, last_is, last_other}
use Rattle.world_core.proofs.timeline.last_at.Goals as goal

pub returns-then-count-eq0 : goal.returns-then-count-eq0
returns-then-count-eq0 c =
    λ tick early. sym (ap (in_force tick) (at_take c.args.at 0 c.args.changes.now
    (subst (λ (n : ℕ). AllWithin (λ (x : PortChange). precedes c.args.at x.at ≡ true) c.args.changes.now n (length c.args.changes.now)) c.if-count-eq0.true c.count_upto-count.ensures.after)))

pub returns-then-eq : goal.returns-then-eq
returns-then-eq c =
    let n = c.count_upto-count.result - 1 in
    let cs = c.args.changes.now in
    λ tick early. last_is c.args.at tick n cs c.index-changes-count.result (omega (arith, c.count_upto-count.ensures.within)) c.index-changes-count.is
    (λ k d from below. c.count_upto-count.ensures.after k d (omega arith) below) (sym c.if-eq.ensures) early

pub returns-else-eq : goal.returns-else-eq
returns-else-eq c =
    let n = c.count_upto-count.result - 1 in
    let cs = c.args.changes.now in
    λ tick early. sym (ap (in_force tick) (last_other c.args.at n cs c.index-changes-count.result (omega (arith, c.count_upto-count.ensures.within)) c.index-changes-count.is c.requires
    (λ k d from below. c.count_upto-count.ensures.upto k d from (omega arith))
    (λ k d from below. c.count_upto-count.ensures.after k d (omega arith) below) (sym c.if-eq.ensures)))

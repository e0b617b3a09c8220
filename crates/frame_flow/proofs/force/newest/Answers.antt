use Rattle.std.proofs.Common.{Bor, None, Some, ap, sym, ◌∙◌, ◌-◌, arith}
use Rattle.srp_base.specs.declared.ports.PortChange.{PortChange}
use Rattle.frame_flow.proofs.ForceLemmas.{none-come, last-come}
use Rattle.frame_flow.proofs.force.newest.Goals as goal

pub returns-then-come-eq0 : goal.returns-then-come-eq0
returns-then-come-eq0 c tick h =
    sym (none-come (λ (x : Bor PortChange). x.now) tick None c.args.changes.now (λ k d from lt. h.after k d (omega (arith, c.if-come-eq0.true)) lt))

pub returns-else-come-eq0 : goal.returns-else-come-eq0
returns-else-come-eq0 c tick h =
    let at = c.args.come - 1 in
    ap (λ (x : Bor PortChange). Some x.now) c.index-changes-come.is
    ∙ sym (last-come (λ (x : Bor PortChange). x.now) tick None c.args.changes.now at c.index-changes-come.result (omega (arith, c.if-come-eq0.false, h.few))
    (λ k d from lt. h.before k d from (omega (arith, lt, c.if-come-eq0.false)))
    (λ k d from lt. h.after k d (omega (arith, from, c.if-come-eq0.false)) lt))

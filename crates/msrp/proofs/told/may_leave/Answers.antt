use Rattle.std.proofs.Common.{◌≡◌, ◌<◌, ◌+◌, ◌||◌, length, drop, ap, sym, ◌∙◌, arith}
use Rattle.std.specs.List.{list_any}
use Rattle.srp_base.proofs.Options.{opened}
use Rattle.msrp.specs.{is_domain_leaving}
use Rattle.msrp.proofs.{Contents.MsrpRow, Marking.split_at}
use Rattle.msrp.proofs.told.may_leave.Goals as goal

pub returns-then-may_leave_at : goal.returns-then-may_leave_at
returns-then-may_leave_at c =
    let below : c.loop-place.place < length c.args.part.now.state.rows = omega (arith, c.loop-place-test.true, c.rows-place-end.ensures) in
    let row = split_at c.args.part.now.state.rows c.loop-place.place below in
    let one : c.may_leave_at.result ≡ is_domain_leaving row.0 = opened (λ (r : MsrpRow). c.may_leave_at.result ≡ is_domain_leaving r) _ row.0 row.1 c.may_leave_at.ensures in
    sym (sym c.loop-place.invariant ∙ (ap (λ rs. list_any is_domain_leaving rs) row.2
    ∙ ap (λ b. b || list_any is_domain_leaving (drop (c.loop-place.place + 1) c.args.part.now.state.rows)) (sym one ∙ c.if-may_leave_at.true)))

pub loop-place-preserved : goal.loop-place-preserved
loop-place-preserved c =
    let below : c.loop-place.place < length c.args.part.now.state.rows = omega (arith, c.loop-place-test.true, c.rows-place-end.ensures) in
    let row = split_at c.args.part.now.state.rows c.loop-place.place below in
    let one : c.may_leave_at.result ≡ is_domain_leaving row.0 = opened (λ (r : MsrpRow). c.may_leave_at.result ≡ is_domain_leaving r) _ row.0 row.1 c.may_leave_at.ensures in
    sym (ap (λ b. b || list_any is_domain_leaving (drop (c.loop-place.place + 1) c.args.part.now.state.rows)) (sym one ∙ c.if-may_leave_at.false))
    ∙ (sym (ap (λ rs. list_any is_domain_leaving rs) row.2) ∙ c.loop-place.invariant)

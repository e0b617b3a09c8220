use Rattle.std.proofs.Common.{sym, ◌∙◌}
use Rattle.capture_file.proofs.OptionLemmas.{breaks, ends, finds, steps, fails, falls}
use Rattle.capture_file.proofs.options.resolution_in.Goals as goal

pub returns-in_err-next_option : goal.returns-in_err-next_option
returns-in_err-next_option c =
    rw c.from_residual.ensures (sym (breaks c.args.order c.more.rest.now (sym c.in_err-next_option.ensures)) ∙ c.more.invariant)

pub returns-in-None : goal.returns-in-None
returns-in-None c =
    let e = rw c.in-None.is at c.in_ok-next_option.ensures in
    sym (ends c.args.order c.more.rest.now (sym e)) ∙ c.more.invariant

pub returns-then-code-eq9 : goal.returns-then-code-eq9
returns-then-code-eq9 c =
    let e = rw c.in-Some.is at c.in_ok-next_option.ensures in
    c.octet_value.ensures ∙ sym (finds c.args.order c.more.rest.now c.in-Some.code c.in-Some.len c.in-Some.behind.now (sym e) c.if-code-eq9.true) ∙ c.more.invariant

pub returns-in_err-rest-in-Some : goal.returns-in_err-rest-in-Some
returns-in_err-rest-in-Some c =
    let e = rw c.in-Some.is at c.in_ok-next_option.ensures in
    rw c.from_residual-in_err-rest-in-Some.ensures
    (sym (fails c.args.order c.more.rest.now c.in-Some.code c.in-Some.len c.in-Some.behind.now (sym e) c.if-code-eq9.false (sym c.in_err-rest-in-Some.ensures))
    ∙ c.more.invariant)

pub more-smaller : goal.more-smaller
more-smaller c =
    let e = rw c.in-Some.is at c.in_ok-next_option.ensures in
    falls c.args.order c.more.rest.now c.in-Some.code c.in-Some.len c.in-Some.behind.now (sym e) c.in_ok-rest-in-Some.rest.now (sym c.in_ok-rest-in-Some.ensures)

pub more-preserved : goal.more-preserved
more-preserved c =
    let e = rw c.in-Some.is at c.in_ok-next_option.ensures in
    sym (steps c.args.order c.more.rest.now c.in-Some.code c.in-Some.len c.in-Some.behind.now (sym e) c.in_ok-rest-in-Some.rest.now c.if-code-eq9.false
    (sym c.in_ok-rest-in-Some.ensures)) ∙ c.more.invariant

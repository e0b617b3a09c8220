use Rattle.std.proofs.Common.{◌≡◌, ◌∙◌, ◌++◌, OnOk, subst}
use Rattle.delay_report.specs.Text.{named_hops}
use Rattle.delay_report.proofs.hops.put_port.Goals as goal

pub returns : goal.returns
returns c =
    subst (λ port. OnOk c.put_named.result (c.put_named.new.out.items ≡ c.args.out.now.items ++ named_hops port c.args.facts.now c.args.at))
    (c.deref.ensures.value ∙ c.in_ok-name.ensures) c.put_named.ensures

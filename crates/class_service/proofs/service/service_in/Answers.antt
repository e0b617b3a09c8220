-- Busy in each bit time is busy all along, and then the law holds.
use Rattle.std.proofs.Common.{sym, ap, ◌∙◌}
use Rattle.class_service.specs.declared.service.Service.{Service}
use Rattle.class_service.proofs.ServiceLemmas.{all_busy, busy_all}
use Rattle.class_service.proofs.service.service_in.Goals as goal

pub returns-clause-busy : goal.returns-clause-busy
returns-clause-busy c =
    let same = ap (λ (s : Service). s.is_busy) c.service_over.ensures in (
      λ busy. all_busy c.args.input.now c.args.class c.args.from c.args.to (sym same ∙ busy),
      λ busy. same ∙ busy_all c.args.input.now c.args.class c.args.from c.args.to busy,
    )

pub returns-clause-kept : goal.returns-clause-kept
returns-clause-kept c busy =
    let same = ap (λ (s : Service). s.is_busy) c.service_over.ensures in
    c.a_busy_class_gets_its_bandwidth.ensures.credit c.args.input.now c.args.class c.args.from c.args.to c.requires.class c.requires.order
    (all_busy c.args.input.now c.args.class c.args.from c.args.to (sym same ∙ busy))

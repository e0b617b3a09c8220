use Rattle.std.proofs.Common.{List, ap, ◌∙◌, ◌++◌, take}
use Rattle.std.proofs.lemmas.List.{take_all}
use Rattle.std.specs.List.{flat_map}
use Rattle.srp_base.specs.declared.mrp.MrpEvent.{MrpEvent}
use Rattle.mrpdu_codec.specs.{three_events}
use Rattle.mrpdu_codec.proofs.Loops.{unpacked_more, of_error}
use Rattle.mrpdu_codec.proofs.raw.events_of.Goals as goal

pub returns-in_err-events : goal.returns-in_err-events
returns-in_err-events c = of_error c.from_residual.result _ _ c.from_residual.ensures.1

pub push_up_to-requires : goal.push_up_to-requires
push_up_to-requires c = c.loop-octet.invariant.1

pub returns-in_err-push_up_to : goal.returns-in_err-push_up_to
returns-in_err-push_up_to c = of_error c.from_residual-in_err-push_up_to.result _ _ c.from_residual-in_err-push_up_to.ensures.1

pub loop-octet-preserved : goal.loop-octet-preserved
loop-octet-preserved c = (
  unpacked_more three_events c.args.n c.loop-octet.octet-index c.args.packed.now _ _ c.loop-octet-test.true c.loop-octet.invariant.0
      (c.in_ok-push_up_to.ensures.ok ∙ ap (λ (more : List MrpEvent). take c.args.n (c.loop-octet.events.items ++ more)) c.events_in.ensures),
  c.in_ok-push_up_to.ensures.at_most,
)

pub returns : goal.returns
returns c = c.loop-octet.invariant.0 ∙ ap (λ octets. take c.args.n (flat_map three_events octets)) (take_all _ c.args.packed.now c.loop-octet-test.false)

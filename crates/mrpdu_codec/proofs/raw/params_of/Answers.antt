use Rattle.std.proofs.Common.{ℕ, List, ap, ◌∙◌, ◌++◌, take}
use Rattle.std.proofs.lemmas.List.{take_all}
use Rattle.std.specs.List.{flat_map}
use Rattle.mrpdu_codec.specs.{four_params}
use Rattle.mrpdu_codec.proofs.Loops.{unpacked_more, of_error}
use Rattle.mrpdu_codec.proofs.raw.params_of.Goals as goal

pub returns-in_err-params : goal.returns-in_err-params
returns-in_err-params c = of_error c.from_residual.result _ _ c.from_residual.ensures.1

pub push_up_to-requires : goal.push_up_to-requires
push_up_to-requires c = c.loop-octet.invariant.1

pub returns-in_err-push_up_to : goal.returns-in_err-push_up_to
returns-in_err-push_up_to c = of_error c.from_residual-in_err-push_up_to.result _ _ c.from_residual-in_err-push_up_to.ensures.1

pub loop-octet-preserved : goal.loop-octet-preserved
loop-octet-preserved c = (
  unpacked_more four_params c.args.n c.loop-octet.octet-index c.args.fours.now _ _ c.loop-octet-test.true c.loop-octet.invariant.0
      (c.in_ok-push_up_to.ensures.ok ∙ ap (λ (more : List ℕ). take c.args.n (c.loop-octet.params.items ++ more)) c.params_in.ensures),
  c.in_ok-push_up_to.ensures.at_most,
)

pub returns : goal.returns
returns c = c.loop-octet.invariant.0 ∙ ap (λ octets. take c.args.n (flat_map four_params octets)) (take_all _ c.args.fours.now c.loop-octet-test.false)

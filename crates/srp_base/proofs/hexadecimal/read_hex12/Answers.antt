use Rattle.std.proofs.Common.{ap, ◌∙◌, Some, None}
use Rattle.srp_base.proofs.HexadecimalLemmas.{hex12-decoded, IsSome-as_hex12, some-known}
use Rattle.srp_base.proofs.hexadecimal.read_hex12.Goals as goal

pub returns-in-Ok-clause-value : goal.returns-in-Ok-clause-value
returns-in-Ok-clause-value c =
    some-known c.new.result _ (c.new.ensures.valid.1 c.number_of_six.ensures.small) c.new.ensures.value
    ∙ (ap Some c.number_of_six.ensures.value ∙ hex12-decoded c.args.text.now _ c.in-Ok.ensures)

pub returns-in-Ok-clause-valid : goal.returns-in-Ok-clause-valid
returns-in-Ok-clause-valid c = IsSome-as_hex12 c.args.text.now _ (
    some-known c.new.result _ (c.new.ensures.valid.1 c.number_of_six.ensures.small) c.new.ensures.value
    ∙ (ap Some c.number_of_six.ensures.value ∙ hex12-decoded c.args.text.now _ c.in-Ok.ensures))

pub returns-in-Err-clause-value : goal.returns-in-Err-clause-value
returns-in-Err-clause-value c = hex12-decoded c.args.text.now _ c.in-Err.ensures

pub returns-in-Err-clause-valid : goal.returns-in-Err-clause-valid
returns-in-Err-clause-valid c = IsSome-as_hex12 c.args.text.now None (hex12-decoded c.args.text.now _ c.in-Err.ensures)

use Rattle.std.proofs.Common.{ap, ◌∙◌, Some, None}
use Rattle.srp_base.proofs.HexadecimalLemmas.{hex16-decoded, IsSome-as_hex16}
use Rattle.srp_base.proofs.hexadecimal.read_hex16.Goals as goal

pub returns-in-Ok-clause-value : goal.returns-in-Ok-clause-value
returns-in-Ok-clause-value c = ap Some c.from_be_bytes.ensures ∙ hex16-decoded c.args.text.now _ c.in-Ok.ensures

pub returns-in-Ok-clause-valid : goal.returns-in-Ok-clause-valid
returns-in-Ok-clause-valid c =
    IsSome-as_hex16 c.args.text.now _ (ap Some c.from_be_bytes.ensures ∙ hex16-decoded c.args.text.now _ c.in-Ok.ensures)

pub returns-in-Err-clause-value : goal.returns-in-Err-clause-value
returns-in-Err-clause-value c = hex16-decoded c.args.text.now _ c.in-Err.ensures

pub returns-in-Err-clause-valid : goal.returns-in-Err-clause-valid
returns-in-Err-clause-valid c = IsSome-as_hex16 c.args.text.now None (hex16-decoded c.args.text.now _ c.in-Err.ensures)

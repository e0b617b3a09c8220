use Rattle.std.proofs.Common.{rules, not, ◌==◌}
use Rattle.std.proofs.lemmas.Fn.{filter_same}
use Rattle.srp_base.specs.declared.numbers.StreamId.{StreamId}
use Rattle.msrp.proofs.asking.drop_stream.Goals as goal

pub returns : goal.returns
returns c = filter_same _ (λ (t : StreamId). not (t.0 == c.args.stream.0)) _ (λ t b f' e. (search rules, search rules)) _ _ c.retain.ensures.filtered

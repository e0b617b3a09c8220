use Rattle.std.proofs.Common.{rules, not, ◌==◌}
use Rattle.std.proofs.lemmas.Fn.{filter_same}
use Rattle.srp_base.specs.declared.streams.Talker.{Talker}
use Rattle.msrp.proofs.asking.drop_talker.Goals as goal

pub returns-clause-talks : goal.returns-clause-talks
returns-clause-talks c = filter_same _ (λ (t : Talker). not (t.stream.0 == c.args.stream.0)) _ (λ t b f' e. (search rules, search rules)) _ _ c.retain.ensures.filtered

use Rattle.std.proofs.Common.{◌∙◌}
use Rattle.toml_rules.proofs.FieldLemmas.{list_all-member_keys}
use Rattle.toml_rules.proofs.fields.has_only.Goals as goal

pub returns : goal.returns
returns c = c.all_known.ensures ∙ list_all-member_keys _ c.args.table.now.entries

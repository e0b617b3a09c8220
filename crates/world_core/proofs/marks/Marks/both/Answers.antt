use Rattle.std.proofs.Common.{ap, ◌∙◌}
use Rattle.world_core.specs.{both_at}
use Rattle.world_core.proofs.marks.Marks.both.Goals as goal

pub returns : goal.returns
returns c = c.two_of.ensures ∙ ap (both_at c.args.app c.args.at) c.self.view_is

use Rattle.std.proofs.Common.{ap, ◌∙◌}
use Rattle.world_core.specs.{with_two}
use Rattle.world_core.proofs.marks.Marks.put_both.Goals as goal

pub returns : goal.returns
returns c = c.put_two.ensures.put ∙ ap (with_two c.args.app c.args.at c.args.marks) c.self.view_is

use Rattle.std.proofs.Common.{ℕ, ap, ◌∙◌, replicate, arith}
use Rattle.world_core.specs.{no_marks}
use Rattle.world_core.proofs.NewMarks.{row_pushed}
use Rattle.world_core.proofs.marks.new_rows.Goals as goal

pub loop-i-preserved : goal.loop-i-preserved
loop-i-preserved c =
    row_pushed c.args.tree.now.links c.loop-i.i c.args.tree.now.kinds c.loop-i.rows.items c.push.new.self.items c.in_ok-new_row.field-0 (omega arith)
    c.in_ok-push.ensures.items
    (c.in_ok-new_row.ensures ∙ ap (λ (n : ℕ). replicate n no_marks) c.ports.ensures)
    c.loop-i.invariant

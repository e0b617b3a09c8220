-- Where a slope isn't below its rate, a flow can't be asked for.
use Rattle.std.proofs.Common.{sym, ◌∙◌}
use Rattle.std.proofs.lemmas.Bool.{false≢true}
use Rattle.frame_flow.proofs.valid.are_valid.Goals as goal

pub returns-else-below : goal.returns-else-below
returns-else-below c =
    ((λ e. absurd (false≢true (sym c.if-below.false ∙ e))), (λ s. c.in_ok-below.ensures.1 s.slopes))

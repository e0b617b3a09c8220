use Rattle.std.proofs.Common.{ap, ◌∙◌}
use Rattle.srp_base.specs.declared.numbers.EgressPort.{EgressPort}
use Rattle.world_core.specs.{EndMark, mark_in}
use Rattle.world_core.proofs.marks.two_of.Goals as goal

pub returns : goal.returns
returns c =
    ap (λ (x : EndMark). (x, c.mark_of-2.result)) c.mark_of.ensures
    ∙ ap (λ (y : EndMark). (mark_in c.args.app c.args.at c.args.ends.now.items, y))
    (c.mark_of-2.ensures ∙ ap (λ (r : EgressPort). mark_in c.args.app r c.args.ends.now.items) c.peer-peer.ensures)

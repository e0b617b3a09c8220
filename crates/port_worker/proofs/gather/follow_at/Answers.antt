use Rattle.std.proofs.Common.{◌+◌, drop, sym, ap, ◌∙◌, subst}
use Rattle.srp_base.proofs.Lists.{within as get_within}
use Rattle.bridge_book.specs.declared.notice.Notice.TheVariants.{Quiet}
use Rattle.world_core.specs.Marks.{MarksState}
use Rattle.port_worker.specs.{marks_by, CanMarkAll}
use Rattle.port_worker.proofs.NumberedLemmas.{followed_at, none_followed}
use Rattle.port_worker.proofs.gather.follow_at.Goals as goal

pub unreachable-requires : goal.unreachable-requires
unreachable-requires c =
    none_followed c.args.node c.args.steps.now c.args.notices.now c.args.i (get_within c.args.steps.now c.args.i c.requires.place).0 c.args.marks.now
    c.requires.place c.if-i-notices.true c.requires.can

pub follow_one-requires : goal.follow_one-requires
follow_one-requires c =
    (followed_at c.args.node c.args.steps.now c.args.notices.now c.args.i c.index-steps-i.result Quiet c.args.marks.now c.requires.place c.if-i-notices.false c.requires.can).can

pub returns-clause-can : goal.returns-clause-can
returns-clause-can c =
    let one = followed_at c.args.node c.args.steps.now c.args.notices.now c.args.i c.index-steps-i.result Quiet c.args.marks.now c.requires.place c.if-i-notices.false c.requires.can in
    subst (λ (m : MarksState). CanMarkAll c.args.node (drop (c.args.i + 1) c.args.steps.now) (drop (c.args.i + 1) c.args.notices.now) m) (sym {A = MarksState} c.follow_one.ensures) one.next

pub returns-clause-same : goal.returns-clause-same
returns-clause-same c =
    let one = followed_at c.args.node c.args.steps.now c.args.notices.now c.args.i c.index-steps-i.result Quiet c.args.marks.now c.requires.place c.if-i-notices.false c.requires.can in
    one.same
    ∙ ap (λ (m : MarksState). marks_by c.args.node (drop (c.args.i + 1) c.args.steps.now) (drop (c.args.i + 1) c.args.notices.now) m) (sym {A = MarksState} c.follow_one.ensures)

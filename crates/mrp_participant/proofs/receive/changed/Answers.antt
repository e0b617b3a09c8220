use Rattle.std.proofs.Common.{not}
use Rattle.std.specs.{Option.option_eq, declared.option.Option.TheVariants.Some}
use Rattle.mrp_participant.specs.{key_of, find, registered_in}
use Rattle.mrp_participant.proofs.Places.{kept_more, passed_over, all_kept}
use Rattle.mrp_participant.proofs.receive.changed.Goals as goal

pub loop-row-preserved-then-not-differs : goal.loop-row-preserved-then-not-differs
loop-row-preserved-then-not-differs g c =
    passed_over key_of (λ r. not (option_eq g.C.PartialEq.eq (registered_in (find g.K.Ord.cmp r.key c.args.old.now)) (registered_in (Some r))))
    c.args.new.now _ _ _ _ c.loop-row-test.true c.row-item.is c.loop-row.invariant _ c.differs.ensures c.if-not-differs.true

pub loop-row-preserved : goal.loop-row-preserved
loop-row-preserved g c =
    kept_more key_of (λ r. not (option_eq g.C.PartialEq.eq (registered_in (find g.K.Ord.cmp r.key c.args.old.now)) (registered_in (Some r))))
    c.args.new.now _ _ _ _ c.loop-row-test.true c.row-item.is c.loop-row.invariant _ c.differs.ensures c.if-not-differs.false _ c.in_ok-push.ensures.items

pub returns : goal.returns
returns g c =
    all_kept key_of (λ r. not (option_eq g.C.PartialEq.eq (registered_in (find g.K.Ord.cmp r.key c.args.old.now)) (registered_in (Some r))))
    c.args.new.now _ _ _ c.loop-row-test.false c.loop-row.invariant

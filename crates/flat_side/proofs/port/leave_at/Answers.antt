use Rattle.std.proofs.Common.{◌≡◌}
use Rattle.srp_base.proofs.Options.{opened, some_is}
use Rattle.mrp_participant.specs.{Lookup.find, Row.is_leaving_in, State.left_state}
use Rattle.flat_side.specs.{left_key}
use Rattle.flat_side.proofs.Changing.{part_is, state_is, told_is}
use Rattle.flat_side.proofs.port.leave_at.Goals as goal

pub returns-clause-after : goal.returns-clause-after
returns-clause-after g c = λ own.
    let here = state_is c.args.parts.now.items c.args.at c.index_mut.result.now (part_is c.args.parts.now.items c.args.at c.index_mut.result.now c.requires.place c.index_mut.ensures.value) in
    told_is g.A.Key.Ord.cmp c.args.parts.now.items c.args.sets.now.items c.tell_elsewhere.new.sets.items own c.args.at c.index_mut.result.now c.leave_due-was.new.self
    (left_state g.A.Key.Ord.cmp c.args.key) c.args.keys.now (left_key g.A.Key.Ord.cmp c.args.key) c.requires.place c.index_mut.ensures.value c.leave_due-was.ensures.after
    (opened (λ s. c.args.keys.now ≡ left_key g.A.Key.Ord.cmp c.args.key s) _ c.index_mut.result.now.state here c.requires.keys) c.tell_elsewhere.ensures

pub returns-clause-was : goal.returns-clause-was
returns-clause-was g c =
    some_is (λ s. c.leave_due-was.result ≡ is_leaving_in (find g.A.Key.Ord.cmp c.args.key s.rows)) _ c.index_mut.result.now.state
    (state_is c.args.parts.now.items c.args.at c.index_mut.result.now (part_is c.args.parts.now.items c.args.at c.index_mut.result.now c.requires.place c.index_mut.ensures.value))
    c.leave_due-was.ensures.was

use Rattle.std.proofs.Common.{◌≡◌, ◌∙◌}
use Rattle.srp_base.proofs.Options.{some_is}
use Rattle.mrp_participant.specs.State.{due_count, due_state, left_keys}
use Rattle.attribute_propagation.specs.Ports.{count_of}
use Rattle.flat_side.proofs.Changing.{part_is, state_is, told_is}
use Rattle.flat_side.proofs.port.fire_at.Goals as goal

pub returns-clause-after : goal.returns-clause-after
returns-clause-after g c = λ own.
    told_is g.A.Key.Ord.cmp c.args.parts.now.items c.args.sets.now.items c.tell_elsewhere.new.sets.items own c.args.at c.index_mut.result.now c.fired-fired.new.part
    (due_state c.args.now) c.as_slice.result.now (left_keys c.args.now) c.requires.place c.index_mut.ensures.value c.fired-fired.ensures.after
    (c.as_slice.ensures ∙ c.fired-fired.ensures.keys) c.tell_elsewhere.ensures

pub returns-clause-count : goal.returns-clause-count
returns-clause-count g c =
    some_is (λ s. c.fired-fired.result.0 ≡ count_of (due_count c.args.now s)) _ c.index_mut.result.now.state
    (state_is c.args.parts.now.items c.args.at c.index_mut.result.now (part_is c.args.parts.now.items c.args.at c.index_mut.result.now c.requires.place c.index_mut.ensures.value))
    c.fired-fired.ensures.count

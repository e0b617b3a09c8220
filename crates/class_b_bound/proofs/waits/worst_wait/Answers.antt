-- The longest wait is a wait, so both bounds hold of it.
use Rattle.std.proofs.Common.{sym, subst}
use Rattle.class_b_bound.specs.{IsLongestWait, worst_wait_of}
use Rattle.class_b_bound.proofs.waits.worst_wait.Goals as goal

pub returns-clause-exact : goal.returns-clause-exact
returns-clause-exact c =
    c.an_input_has_one_worst_wait.ensures.one c.args.input.now c.longest.result (worst_wait_of c.args.input.now) c.longest.ensures
    (c.an_input_has_one_worst_wait.ensures.some c.args.input.now)

pub returns-clause-bound : goal.returns-clause-bound
returns-clause-bound c =
    c.class_b_waits_stay_within.ensures.bound c.args.input.now c.args.cap_a c.args.cap_ab c.longest.result
    (record { valid = c.requires.input; caps = c.requires.caps; slopes = c.requires.slopes }) c.longest.ensures.there

pub returns-clause-tight : goal.returns-clause-tight
returns-clause-tight c =
    c.class_b_waits_stay_within.ensures.tight c.args.input.now c.args.cap_a c.args.cap_ab c.longest.result
    (record { valid = c.requires.input; caps = c.requires.caps; slopes = c.requires.slopes }) c.longest.ensures.there

pub returns-clause-frame : goal.returns-clause-frame
returns-clause-frame c =
    subst (IsLongestWait c.args.input.now)
    (sym (c.an_input_has_one_worst_wait.ensures.one c.args.input.now c.longest.result (worst_wait_of c.args.input.now) c.longest.ensures
    (c.an_input_has_one_worst_wait.ensures.some c.args.input.now)))
    (c.the_longest_wait_is_that_of_a_frame.ensures c.args.input.now c.requires.input)

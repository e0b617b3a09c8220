-- The arrivals of the bit time join those that waited, and the slopes are those in force.
use Rattle.std.proofs.Common.{◌≡◌, ◌+◌, ◌≤◌, List, take, ◌∙◌, ap, subst, arith}
use Rattle.credit_shaper.specs.{SlopeChange, Arrival, no_slopes, IsReached, pending, arrival_bit, change_bit, newest}
use Rattle.credit_shaper.proofs.{MomentLemmas.blank, MomentLemmas.reached_more, TraceLemmas.arrivals_step}
use Rattle.credit_shaper.proofs.trace.PortTrace.with_arrivals.Goals as goal

pub settled-requires-clause-heads : goal.settled-requires-clause-heads
settled-requires-clause-heads c traffic =
    let arrived : IsReached arrival_bit (c.args.self.bit + 1) c.arrived_by-came.result c.args.input.now.arrivals =
    subst (λ (xs : List Arrival). IsReached arrival_bit (c.args.self.bit + 1) c.arrived_by-came.result xs) c.as_slice.ensures c.arrived_by-came.ensures in
    let more : c.args.self.came ≤ c.arrived_by-came.result =
    reached_more arrival_bit c.args.input.now.arrivals c.args.self.bit (c.args.self.bit + 1) c.args.self.came c.arrived_by-came.result blank (omega arith)
    c.requires.reached.arrivals arrived in
    omega (arith, more, c.requires.reached.heads traffic)

pub returns-clause-port : goal.returns-clause-port
returns-clause-port c sent =
    let arrived : IsReached arrival_bit (c.args.self.bit + 1) c.arrived_by-came.result c.args.input.now.arrivals =
    subst (λ (xs : List Arrival). IsReached arrival_bit (c.args.self.bit + 1) c.arrived_by-came.result xs) c.as_slice.ensures c.arrived_by-came.ensures in
    let changes : IsReached change_bit (c.args.self.bit + 1) c.changed_by-changed.result c.args.input.now.slopes =
    subst (λ (xs : List SlopeChange). IsReached change_bit (c.args.self.bit + 1) c.changed_by-changed.result xs) c.as_slice-2.ensures c.changed_by-changed.ensures in
    let slopes : c.newest-slopes.result ≡ newest no_slopes (take c.changed_by-changed.result c.args.input.now.slopes) =
    c.newest-slopes.ensures ∙ ap (λ xs. newest no_slopes (take c.changed_by-changed.result xs)) c.as_slice-3.ensures in
    let same : pending c.settled.result 0 (take c.arrived_by-came.result c.args.input.now.arrivals)
    ≡ pending c.args.self.heads 0 (take c.arrived_by-came.result c.args.input.now.arrivals) =
    subst (λ (xs : List Arrival). pending c.settled.result 0 (take c.arrived_by-came.result xs) ≡ pending c.args.self.heads 0 (take c.arrived_by-came.result xs))
    c.as_slice-4.ensures c.settled.ensures.same in
    rw c.with_slopes.ensures
    (arrivals_step c.args.input.now c.args.self c.arrived_by-came.result c.changed_by-changed.result c.settled.result c.newest-slopes.result sent
    c.requires.reached arrived changes slopes same)
